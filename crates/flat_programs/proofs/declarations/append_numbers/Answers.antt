use Rattle.std.proofs.Common.{rules, w32, arith}
use mir.Val.{SFits}
use Rattle.std.proofs.lemmas.Int.{to_z-of_z}
use Rattle.f77_tree.specs.StatementGrammar.{signed_text}
use Rattle.flat_programs.specs.Declarations.{signed}
use Rattle.flat_programs.proofs.TextLemmas.{listed_next_twice}
use Rattle.flat_programs.proofs.declarations.append_numbers.Goals as goal

pub loop-k-preserved : goal.loop-k-preserved
loop-k-preserved c =
    let z = c.at.result.now in
    let fits : SFits w32 z = search rules in
    let text = rw (to_z-of_z w32 z fits) at c.in_ok-append_signed.ensures in
    record {
      within = omega (arith, c.loop-k-test.true);
      text = listed_next_twice signed_text signed c.args.numbers.now c.loop-k.k z c.args.out.now.items c.loop-k.out.items c.append_comma.new.out.items c.append_signed.new.out.items c.at.ensures.item c.loop-k.invariant.text c.in_ok-append_comma.ensures text;
    }
