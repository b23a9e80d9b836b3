use Rattle.std.proofs.Common.{[], ◌∷◌, ◌++◌, codes}
use Rattle.std.specs.Fmt.{decimal}
use Rattle.op_board.specs.OperationNets.{operation_node}
use Rattle.operation_tables.specs.GraphView.{operations_of}
use Rattle.graph_texts.specs.GraphText.{operands_text}
use Rattle.graph_texts.proofs.Telling.{fault_before, fault_more, told_more}
use Rattle.graph_texts.proofs.Texts.{on_error, then_on_error, then_on_ok}
use Rattle.graph_texts.proofs.graph_nodes.tell_operands_line.Goals as goal

pub returns-in_err-tell_numbered-clause-prefix : goal.returns-in_err-tell_numbered-clause-prefix
returns-in_err-tell_numbered-clause-prefix g c =
    let first = c.args.buffer.now in
    let x = operations_of c.args.net.now in
    let t0 = codes "V " ++ decimal c.args.k in
    let t1 = operands_text x (operation_node x c.args.k) in
    let t2 = 10 ∷ [] in
    let s0 = g.K.Sink.got c.args.sink.now in
    let s1 = g.K.Sink.got c.tell_numbered.new.sink in
    on_error c.from_residual.result (fault_before s0 s1 first (t0 ++ t1) t2 (fault_before s0 s1 first t0 t1 c.in_err-tell_numbered.ensures.prefix))

pub returns-in_err-tell_operands-clause-prefix : goal.returns-in_err-tell_operands-clause-prefix
returns-in_err-tell_operands-clause-prefix g c =
    let first = c.args.buffer.now in
    let x = operations_of c.args.net.now in
    let t0 = codes "V " ++ decimal c.args.k in
    let t1 = operands_text x (operation_node x c.args.k) in
    let t2 = 10 ∷ [] in
    let s0 = g.K.Sink.got c.args.sink.now in
    let s1 = g.K.Sink.got c.tell_numbered.new.sink in
    let s2 = g.K.Sink.got c.tell_operands.new.sink in
    let w1 = c.in_ok-tell_numbered.ensures.text in
    on_error c.from_residual-in_err-tell_operands.result (fault_before s0 s2 first (t0 ++ t1) t2 (fault_more s0 s1 s2 first c.tell_numbered.new.buffer t0 t1 w1 c.in_err-tell_operands.ensures.prefix))

pub returns-clause-text : goal.returns-clause-text
returns-clause-text g c =
    let first = c.args.buffer.now in
    let x = operations_of c.args.net.now in
    let t0 = codes "V " ++ decimal c.args.k in
    let t1 = operands_text x (operation_node x c.args.k) in
    let t2 = 10 ∷ [] in
    let s0 = g.K.Sink.got c.args.sink.now in
    let s1 = g.K.Sink.got c.tell_numbered.new.sink in
    let s2 = g.K.Sink.got c.tell_operands.new.sink in
    let s3 = g.K.Sink.got c.append.new.sink in
    let w1 = c.in_ok-tell_numbered.ensures.text in
    let w2 = told_more s0 s1 s2 first c.tell_numbered.new.buffer c.tell_operands.new.buffer t0 t1 w1 c.in_ok-tell_operands.ensures.text in
    then_on_ok c.append.result (told_more s0 s2 s3 first c.tell_operands.new.buffer c.append.new.self (t0 ++ t1) t2 w2) c.append.ensures.text

pub returns-clause-prefix : goal.returns-clause-prefix
returns-clause-prefix g c =
    let first = c.args.buffer.now in
    let x = operations_of c.args.net.now in
    let t0 = codes "V " ++ decimal c.args.k in
    let t1 = operands_text x (operation_node x c.args.k) in
    let t2 = 10 ∷ [] in
    let s0 = g.K.Sink.got c.args.sink.now in
    let s1 = g.K.Sink.got c.tell_numbered.new.sink in
    let s2 = g.K.Sink.got c.tell_operands.new.sink in
    let s3 = g.K.Sink.got c.append.new.sink in
    let w1 = c.in_ok-tell_numbered.ensures.text in
    let w2 = told_more s0 s1 s2 first c.tell_numbered.new.buffer c.tell_operands.new.buffer t0 t1 w1 c.in_ok-tell_operands.ensures.text in
    then_on_error c.append.result (fault_more s0 s2 s3 first c.tell_operands.new.buffer (t0 ++ t1) t2 w2) c.append.ensures.prefix
