use Rattle.std.proofs.Common.{arith}
use Rattle.f77_tree.specs.StatementGrammar.{value_text}
use Rattle.flat_programs.specs.Declarations.{written_value}
use Rattle.flat_programs.proofs.TextLemmas.{listed_next_twice}
use Rattle.flat_programs.proofs.declarations.append_values.Goals as goal

pub loop-k-preserved : goal.loop-k-preserved
loop-k-preserved c = record {
  within = omega (arith, c.loop-k-test.true);
  text = listed_next_twice value_text written_value c.args.values.now c.loop-k.k c.at.result.now c.args.out.now.items c.loop-k.out.items c.append_comma.new.out.items c.append_value.new.out.items c.at.ensures.item c.loop-k.invariant.text c.in_ok-append_comma.ensures c.in_ok-append_value.ensures;
}
