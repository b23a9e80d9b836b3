use Rattle.std.proofs.Common.{sym, ap, ◌∙◌}
use Rattle.firing.specs.declared.system.NodeName.{NodeName}
use Rattle.op_board.specs.OperationNets.{operation_at}
use Rattle.operation_tables.specs.GraphView.{operations_of}
use Rattle.operation_tables.specs.Telling.{number_of, operation_name, piece_of}
use Rattle.operation_tables.proofs.graph.OpGraph.op_name.Goals as goal

pub returns : goal.returns
returns g c =
    c.name_of.ensures ∙ ap (λ (n : NodeName). operation_name (operation_at (operations_of c.args.self.now) (piece_of n) (number_of n)).work) (sym c.operation-piece.ensures.name)
