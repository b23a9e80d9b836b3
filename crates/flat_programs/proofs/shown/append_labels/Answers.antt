use Rattle.std.proofs.Common.{arith}
use Rattle.std.specs.Prelude.{decimal}
use Rattle.flat_programs.proofs.TextLemmas.{listed_next}
use Rattle.flat_programs.proofs.shown.append_labels.Goals as goal

pub loop-k-preserved : goal.loop-k-preserved
loop-k-preserved c = record {
  within = omega (arith, c.loop-k-test.true);
  text = listed_next decimal c.args.labels.now c.loop-k.k c.at.result.now c.args.out.now.items c.loop-k.out.items c.append_comma.new.out.items c.append_number.new.out.items c.at.ensures.item c.loop-k.invariant.text c.in_ok-append_comma.ensures c.in_ok-append_number.ensures;
}
