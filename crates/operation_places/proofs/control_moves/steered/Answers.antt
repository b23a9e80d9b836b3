use Rattle.std.proofs.Common.{◌≡◌, Some, sym, ◌∙◌, rules}
use Rattle.op_board.specs.OperationCourse.{due_operation}
use Rattle.operation_tables.specs.BoardView.{operation_net_on}
use Rattle.operation_places.proofs.ControlMoveLemmas.{steered_if}
use Rattle.operation_places.proofs.control_moves.steered.Goals as goal

pub returns-in-Some-clause-steered : goal.returns-in-Some-clause-steered
returns-in-Some-clause-steered g c = λ m leads.
    let same : c.due_at.result ≡ Some c.args.k = search rules in
    let due : due_operation (operation_net_on c.args.board.now) c.in-Some.c ≡ Some c.args.k = sym c.due_at.ensures ∙ same in
    steered_if (operation_net_on c.args.board.now) m c.args.control c.in-Some.c c.moved_on.result c.args.k c.in-Some.is due (c.moved_on.ensures.moved m (λ last. leads c.in-Some.c (c.requires.placed c.in-Some.c c.in-Some.is) due last))
