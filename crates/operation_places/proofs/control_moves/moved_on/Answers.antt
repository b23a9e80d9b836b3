use Rattle.std.proofs.Common.{◌≡◌, ◌<◌, ◌-◌, sym, subst, arith}
use Rattle.net_board.specs.declared.control.Control.{Control}
use Rattle.op_board.specs.OperationCourse.{control_after, decided}
use Rattle.op_board.specs.OperationNets.{operation_count, operation_node_count}
use Rattle.operation_tables.specs.BoardView.{operation_net_on}
use Rattle.operation_places.proofs.control_moves.moved_on.Goals as goal

pub passed_on-requires : goal.passed_on-requires
passed_on-requires g c =
    let x = operation_net_on c.args.board.now in
    (omega arith, (c.visit_at-visit.ensures.visit, (subst (λ (d : Control). d.fired < operation_node_count x d.piece) (sym c.visit_at-visit.ensures.place) c.requires.due, c.requires.edge)))

pub returns-clause-moved : goal.returns-clause-moved
returns-clause-moved g c = λ m.
    let x = operation_net_on c.args.board.now in
    subst (λ (d : Control). (d.fired ≡ operation_count x d.piece - 1 → decided x m d.piece d.fired ≡ c.args.edge) → c.passed_on.result.control ≡ control_after x m d) c.visit_at-visit.ensures.place (c.passed_on.ensures.moved m)

pub returns-clause-placed : goal.returns-clause-placed
returns-clause-placed g c = c.passed_on.ensures.visit.placed
