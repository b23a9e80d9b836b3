use Rattle.std.proofs.Common.{◌≡◌, ◌+◌, ℕ, List, length, ap, arith}
use Rattle.op_board.specs.OperationNets.{all_operation_nodes}
use Rattle.operation_tables.specs.GraphView.{operations_of}
use Rattle.graph_texts.specs.GraphText.{node_line}
use Rattle.graph_texts.proofs.Texts.{fault_at_line, line_told, on_error}
use Rattle.graph_texts.proofs.graph_nodes.tell_nodes.Goals as goal

pub returns-in_err-tell_node-clause-prefix : goal.returns-in_err-tell_node-clause-prefix
returns-in_err-tell_node-clause-prefix g c =
    let x = operations_of c.args.net.now in
    let line : ℕ → List ℕ = node_line x in
    let k = c.loop-k.k in
    let here : k ≡ 0 + k = omega arith in
    let count : c.nodes-k-end.result ≡ length (all_operation_nodes x) = c.nodes-k-end.ensures in
    on_error c.from_residual.result
    (fault_at_line line 0 k (length (all_operation_nodes x)) c.args.buffer.now c.loop-k.buffer (line k)
    (g.K.Sink.got c.args.sink.now) (g.K.Sink.got c.loop-k.sink) (g.K.Sink.got c.tell_node.new.sink)
    (grind (arith, c.loop-k-test.true, count)) (ap line here) c.loop-k.invariant.written c.in_err-tell_node.ensures.prefix)

pub loop-k-preserved : goal.loop-k-preserved
loop-k-preserved g c =
    let x = operations_of c.args.net.now in
    let line : ℕ → List ℕ = node_line x in
    let k = c.loop-k.k in
    let here : k ≡ 0 + k = omega arith in
    record {
      written = line_told line 0 k c.args.buffer.now c.loop-k.buffer c.tell_node.new.buffer (line k)
          (g.K.Sink.got c.args.sink.now) (g.K.Sink.got c.loop-k.sink) (g.K.Sink.got c.tell_node.new.sink) (ap line here) c.loop-k.invariant.written c.in_ok-tell_node.ensures.text;
      later = omega (arith, c.loop-k.invariant.later, c.tell_node.ensures.later);
    }
