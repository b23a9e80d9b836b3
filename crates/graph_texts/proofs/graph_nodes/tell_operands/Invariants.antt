use Rattle.op_board.specs.OperationNets.{operation_node}
use Rattle.operation_tables.specs.GraphView.{operations_of}
use Rattle.graph_texts.proofs.NodesTold.{given_first, given_of}
use Rattle.graph_texts.proofs.Texts.{IsTelling}
use Rattle.graph_texts.proofs.graph_nodes.tell_operands.Given as goal

abbrev pub invariant-loop-i : goal.invariant-loop-i
invariant-loop-i g l = IsTelling l.initial.buffer l.buffer (g.K.Sink.got l.initial.sink) (g.K.Sink.got l.sink) (g.K.Sink.faults l.initial.sink) (g.K.Sink.faults l.sink) (given_first (given_of (operations_of l.net) (operation_node (operations_of l.net) l.k)) l.i)
