use Rattle.std.specs.Prelude.{flat_map}
use Rattle.std.specs.List.{range_with_len}
use Rattle.op_board.specs.OperationNets.{operation_node}
use Rattle.operation_tables.specs.GraphView.{operations_of}
use Rattle.graph_texts.specs.GraphText.{value_text}
use Rattle.graph_texts.proofs.Texts.{IsTelling}
use Rattle.graph_texts.proofs.graph_nodes.tell_values.Given as goal

abbrev pub invariant-loop-k : goal.invariant-loop-k
invariant-loop-k g l = IsTelling l.initial.buffer l.buffer (g.K.Sink.got l.initial.sink) (g.K.Sink.got l.sink) (g.K.Sink.faults l.initial.sink) (g.K.Sink.faults l.sink) (flat_map (λ k. value_text (operations_of l.net) k (operation_node (operations_of l.net) k)) (range_with_len 0 l.k))
