use Rattle.std.proofs.Common.{◌≡◌, ◌+◌, List, ℤ, Ok, w32, length-set, take, sym, ap, ◌∙◌, subst, arith, rules}
use mir.Val.{SFits}
use Rattle.std.proofs.lemmas.Int.{to_z-of_z}
use Rattle.std.proofs.lemmas.List.{take_more_set}
use Rattle.std.specs.Prelude.{slice_set}
use Rattle.f77_meaning.specs.Storage.{memory_of}
use Rattle.op_board.specs.Effects.{gives}
use Rattle.operation_tables.specs.BoardView.{operation_net_on}
use Rattle.op_net.specs.PieceValues.{performed_over, ran_from}
use Rattle.op_net.proofs.PieceValues.{next_ran}
use Rattle.op_net.proofs.piece_performing.give_values.Goals as goal

pub loop-i-preserved : goal.loop-i-preserved
loop-i-preserved g c =
    let x = operation_net_on c.args.board.now in
    let piece = c.args.piece in
    let i = c.loop-i.i in
    let m = memory_of c.args.storage.now in
    let values = c.loop-i.values.items in
    let z = c.in-Some.z in
    let fits : SFits w32 z = search rules in
    let test = c.loop-i-test.true in
    let last = c.requires.last in
    let room = c.requires.room in
    let same = c.loop-i.invariant.room in
    let did : performed_over x piece i m (take i values) ≡ Ok (gives m z) = subst (λ (ys : List ℤ). performed_over x piece i m (take i ys) ≡ Ok (gives m z)) c.deref.ensures.value c.in-Some.ensures in
    record {
      ran = c.loop-i.invariant.ran ∙ next_ran x piece i m (take i values) z (omega (arith, test, last)) did
          ∙ ap (ran_from x piece (i + 1) m) (sym (ap (λ y. take (i + 1) (slice_set values i y)) (to_z-of_z w32 z fits) ∙ take_more_set values i z (omega (arith, test, room, same))));
      room = length-set values i _ ∙ same;
    }
