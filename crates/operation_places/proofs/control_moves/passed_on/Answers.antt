use Rattle.std.proofs.Common.{sym, ◌∙◌, ◌-◌, ◌==◌, arith}
use Rattle.closed_walks.specs.Graph.{edge_count}
use Rattle.net_board.specs.Nodes.{graph_in}
use Rattle.op_board.specs.OperationNets.{operation_count}
use Rattle.operation_tables.specs.BoardView.{operation_net_on}
use Rattle.operation_tables.proofs.OperationRanges.{nodes_within}
use Rattle.operation_places.proofs.ControlMoveLemmas.{leaves_are, moved_unless, one_of}
use Rattle.operation_places.proofs.control_moves.passed_on.Goals as goal

pub overflow_add-result : goal.overflow_add-result
overflow_add-result g c =
    let within = nodes_within (operation_net_on c.args.board.now) c.args.visit.control.piece c.requires.visit.placed.piece in
    omega (arith, within, c.args.board.now.own_tables.few, c.requires.due)

pub returns-else-stays-clause-moved : goal.returns-else-stays-clause-moved
returns-else-stays-clause-moved g c = λ m takes.
    let x = operation_net_on c.args.board.now in
    let v = c.args.visit in
    c.visit_at.ensures.place
    ∙ moved_unless x m v.control c.leaves_by-leaves.result c.arrival-piece.result (leaves_are x m v.control c.args.edge c.leaves_by-leaves.result c.leaves_by-leaves.ensures takes) c.arrival-piece.ensures.piece (sym c.stays.ensures ∙ c.if-stays.false)

pub returns-then-stays-clause-visit : goal.returns-then-stays-clause-visit
returns-then-stays-clause-visit g c =
    let x = operation_net_on c.args.board.now in
    let v = c.args.visit in
    record {
      placed = record {
        piece = c.requires.visit.placed.piece;
        leaves = one_of (edge_count (graph_in x.net)) c.args.edge v.control.leaves c.leaves_by-leaves.result (v.control.fired == operation_count x v.control.piece - 1) c.leaves_by-leaves.ensures c.requires.edge c.requires.visit.placed.leaves;
      };
      first = c.requires.visit.first;
      count = c.requires.visit.count;
      operations = c.requires.visit.operations;
    }
