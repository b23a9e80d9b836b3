use Rattle.std.proofs.Common.{◌≡◌, ◌+◌, ◌-◌, List, ℤ, true, Ok, length, take, ◌∙◌, subst, arith, rules}
use Rattle.f77_meaning.specs.Storage.{memory_of}
use Rattle.op_board.specs.OperationNets.{operation_count}
use Rattle.operation_tables.specs.BoardView.{operation_net_on}
use Rattle.op_net.specs.PieceEnds.{effect_told}
use Rattle.op_net.specs.PieceValues.{performed_over}
use Rattle.op_net.proofs.PieceValues.{last_ran}
use Rattle.op_net.proofs.piece_performing.perform_piece.Goals as goal

pub returns-clause-done : goal.returns-clause-done
returns-clause-done g c = λ end is.
    let x = operation_net_on c.args.board.now in
    let piece = c.args.piece in
    let m = memory_of c.args.storage.now in
    let values = c.give_values.new.values.items in
    let last = length c.rows-rows.result.now - 1 in
    let count = c.rows-rows.ensures.count in
    let some = c.if-count-eq0.false in
    let came : c.give_values.result ≡ true = search rules in
    let effect = effect_told end (memory_of c.perform_last.new.storage) c.perform_last.new.draft.items in
    let all : last + 1 ≡ operation_count x piece = omega (arith, count, some) in
    let did : performed_over x piece last m (take last values) ≡ Ok effect = subst (λ (ys : List ℤ). performed_over x piece last m (take last ys) ≡ Ok effect) c.deref.ensures.value (c.perform_last.ensures.done end is) in
    c.give_values.ensures.ran came ∙ last_ran x piece last m (take last values) effect all did
