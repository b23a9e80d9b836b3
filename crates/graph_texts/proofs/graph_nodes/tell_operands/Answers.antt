use Rattle.std.proofs.Common.{◌≡◌, ◌+◌, ◌++◌, ◌∙◌, drop, ap, sym, arith}
use Rattle.std.specs.Prelude.{flat_map}
use Rattle.op_board.specs.OperationNets.{operation_node}
use Rattle.operation_tables.specs.GraphView.{operations_of}
use Rattle.graph_texts.specs.GivenText.{given_text}
use Rattle.graph_texts.specs.GraphText.{operands_text}
use Rattle.graph_texts.proofs.NodesTold.{given_after, given_first, given_next, given_of, given_whole, operands_given}
use Rattle.graph_texts.proofs.Telling.{begun, begun_fault, fault_before, fault_more, told_more}
use Rattle.graph_texts.proofs.Texts.{on_error}
use Rattle.graph_texts.proofs.graph_nodes.tell_operands.Goals as goal

pub returns-in_err-tell_operand-clause-prefix : goal.returns-in_err-tell_operand-clause-prefix
returns-in_err-tell_operand-clause-prefix g c =
    let x = operations_of c.args.net.now in
    let name = operation_node x c.args.k in
    let operands = given_of x name in
    let i = c.loop-i.i in
    let first = c.args.buffer.now in
    let text = given_first operands i in
    let one = given_text c.operand.result in
    let left = flat_map given_text (drop (i + 1) operands) in
    let next = given_next operands i c.operand.result c.operand.ensures in
    let whole : (text ++ one) ++ left ≡ operands_text x name = ap (λ part. part ++ left) (sym next) ∙ sym (given_after operands (i + 1)) ∙ operands_given x name c.requires.operation in
    let s0 = g.K.Sink.got c.args.sink.now in
    let s1 = g.K.Sink.got c.loop-i.sink in
    let s2 = g.K.Sink.got c.tell_operand.new.sink in
    let prefix = fault_more s0 s1 s2 first c.loop-i.buffer text one c.loop-i.invariant.written c.in_err-tell_operand.ensures.prefix in
    on_error c.from_residual.result
    (begun_fault s0 s2 first ((text ++ one) ++ left) (operands_text x name) whole (fault_before s0 s2 first (text ++ one) left prefix))

pub loop-i-preserved : goal.loop-i-preserved
loop-i-preserved g c =
    let x = operations_of c.args.net.now in
    let operands = given_of x (operation_node x c.args.k) in
    let i = c.loop-i.i in
    let first = c.args.buffer.now in
    let text = given_first operands i in
    let one = given_text c.operand.result in
    let s0 = g.K.Sink.got c.args.sink.now in
    let s1 = g.K.Sink.got c.loop-i.sink in
    let s2 = g.K.Sink.got c.tell_operand.new.sink in
    record {
      written = begun s0 s2 first c.tell_operand.new.buffer (text ++ one) (given_first operands (i + 1)) (sym (given_next operands i c.operand.result c.operand.ensures))
          (told_more s0 s1 s2 first c.loop-i.buffer c.tell_operand.new.buffer text one c.loop-i.invariant.written c.in_ok-tell_operand.ensures.text);
      later = omega (arith, c.loop-i.invariant.later, c.tell_operand.ensures.later);
    }

pub returns-clause-text : goal.returns-clause-text
returns-clause-text g c =
    let x = operations_of c.args.net.now in
    let name = operation_node x c.args.k in
    let operands = given_of x name in
    let i = c.loop-i.i in
    let whole = given_whole x name i c.operands-i-end.result c.requires.operation c.operands-i-end.ensures (omega (arith, c.loop-i.auto.i-end)) (omega (arith, c.loop-i-test.false)) in
    begun (g.K.Sink.got c.args.sink.now) (g.K.Sink.got c.loop-i.sink) c.args.buffer.now c.loop-i.buffer (given_first operands i) (operands_text x name) whole c.loop-i.invariant.written
