use Rattle.std.proofs.Common.{◌≡◌, ◌+◌, ◌++◌, ℕ, List, length, ap, subst, arith}
use Rattle.df_io.specs.TextBuffer.{IsWrittenBut}
use Rattle.op_board.specs.OperationNets.{all_operation_nodes, operation_node}
use Rattle.operation_tables.specs.GraphView.{operations_of}
use Rattle.graph_texts.specs.GraphText.{value_text}
use Rattle.graph_texts.proofs.Texts.{fault_at_line, line_told, lines, on_error}
use Rattle.graph_texts.proofs.graph_nodes.tell_values.Goals as goal

pub returns-in_err-tell_value-clause-prefix : goal.returns-in_err-tell_value-clause-prefix
returns-in_err-tell_value-clause-prefix g c =
    let x = operations_of c.args.net.now in
    let line : ℕ → List ℕ = λ n. value_text x n (operation_node x n) in
    let k = c.loop-k.k in
    let here : k ≡ 0 + k = omega arith in
    let count : c.nodes-k-end.result ≡ length (all_operation_nodes x) = c.nodes-k-end.ensures in
    on_error c.from_residual.result
    (fault_at_line line 0 k (length (all_operation_nodes x)) c.args.buffer.now c.loop-k.buffer (line k)
    (g.K.Sink.got c.args.sink.now) (g.K.Sink.got c.loop-k.sink) (g.K.Sink.got c.tell_value.new.sink)
    (grind (arith, c.loop-k-test.true, count)) (ap line here) c.loop-k.invariant.written c.in_err-tell_value.ensures.prefix)

pub loop-k-preserved : goal.loop-k-preserved
loop-k-preserved g c =
    let x = operations_of c.args.net.now in
    let line : ℕ → List ℕ = λ n. value_text x n (operation_node x n) in
    let k = c.loop-k.k in
    let here : k ≡ 0 + k = omega arith in
    record {
      written = line_told line 0 k c.args.buffer.now c.loop-k.buffer c.tell_value.new.buffer (line k)
          (g.K.Sink.got c.args.sink.now) (g.K.Sink.got c.loop-k.sink) (g.K.Sink.got c.tell_value.new.sink) (ap line here) c.loop-k.invariant.written c.in_ok-tell_value.ensures.text;
      later = omega (arith, c.loop-k.invariant.later, c.tell_value.ensures.later);
    }

pub returns-clause-text : goal.returns-clause-text
returns-clause-text g c =
    let x = operations_of c.args.net.now in
    let line : ℕ → List ℕ = λ n. value_text x n (operation_node x n) in
    let count : c.nodes-k-end.result ≡ length (all_operation_nodes x) = c.nodes-k-end.ensures in
    let all : c.loop-k.k ≡ length (all_operation_nodes x) = omega (arith, c.loop-k-test.false, c.loop-k.auto.k-end, count) in
    subst (λ (n : ℕ). IsWrittenBut c.loop-k.buffer (g.K.Sink.got c.args.sink.now) (g.K.Sink.got c.loop-k.sink) (c.args.buffer.now ++ lines line 0 n)) all c.loop-k.invariant.written
