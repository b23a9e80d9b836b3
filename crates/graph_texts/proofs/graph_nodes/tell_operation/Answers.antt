use Rattle.std.proofs.Common.{◌∙◌, ◌∷◌, ◌++◌, codes}
use Rattle.std.specs.Prelude.{filter}
use Rattle.std.specs.Fmt.{decimal}
use Rattle.std.specs.List.{range_with_len}
use Rattle.class_set.specs.ClassSet.{holds}
use Rattle.op_board.specs.OperationNets.{needed, operation_at, operation_node}
use Rattle.operation_tables.specs.GraphView.{operations_of}
use Rattle.graph_texts.specs.GraphText.{numbers_text}
use Rattle.graph_texts.specs.OperationNames.{work_name}
use Rattle.graph_texts.proofs.NodesTold.{lines_told, work_told}
use Rattle.graph_texts.proofs.Telling.{begun, begun_fault, fault_before, fault_more, told_more}
use Rattle.graph_texts.proofs.Texts.{on_error, then_on_error, then_on_ok}
use Rattle.graph_texts.proofs.graph_nodes.tell_operation.Goals as goal

pub returns-in_err-tell_two-clause-prefix : goal.returns-in_err-tell_two-clause-prefix
returns-in_err-tell_two-clause-prefix g c =
    let first = c.args.buffer.now in
    let x = operations_of c.args.net.now in
    let t0 = codes " OP " ++ decimal c.args.piece ++ 32 ∷ decimal c.args.i in
    let t1 = 32 ∷ work_name (operation_at x c.args.piece c.args.i).work in
    let t2 = numbers_text (needed x c.args.piece c.args.i) in
    let s0 = g.K.Sink.got c.args.sink.now in
    let s1 = g.K.Sink.got c.tell_two.new.sink in
    on_error c.from_residual.result (fault_before s0 s1 first (t0 ++ t1) t2 (fault_before s0 s1 first t0 t1 c.in_err-tell_two.ensures.prefix))

pub returns-in_err-tell_word-clause-prefix : goal.returns-in_err-tell_word-clause-prefix
returns-in_err-tell_word-clause-prefix g c =
    let first = c.args.buffer.now in
    let x = operations_of c.args.net.now in
    let t0 = codes " OP " ++ decimal c.args.piece ++ 32 ∷ decimal c.args.i in
    let t1 = 32 ∷ work_name (operation_at x c.args.piece c.args.i).work in
    let t2 = numbers_text (needed x c.args.piece c.args.i) in
    let s0 = g.K.Sink.got c.args.sink.now in
    let s1 = g.K.Sink.got c.tell_two.new.sink in
    let s2 = g.K.Sink.got c.tell_word.new.sink in
    let work = work_told x (operation_node x c.args.k) c.args.piece c.args.i c.as_bytes.result.now c.op_name.result c.requires.operation (c.as_bytes.ensures.value ∙ c.name_of.ensures) c.op_name.ensures in
    let w1 = c.in_ok-tell_two.ensures.text in
    on_error c.from_residual-in_err-tell_word.result (fault_before s0 s2 first (t0 ++ t1) t2 (fault_more s0 s1 s2 first c.tell_two.new.buffer t0 t1 w1 (begun_fault s1 s2 c.tell_two.new.buffer (32 ∷ c.as_bytes.result.now) t1 work c.in_err-tell_word.ensures.prefix)))

pub returns-clause-text : goal.returns-clause-text
returns-clause-text g c =
    let first = c.args.buffer.now in
    let x = operations_of c.args.net.now in
    let t0 = codes " OP " ++ decimal c.args.piece ++ 32 ∷ decimal c.args.i in
    let t1 = 32 ∷ work_name (operation_at x c.args.piece c.args.i).work in
    let t2 = numbers_text (needed x c.args.piece c.args.i) in
    let s0 = g.K.Sink.got c.args.sink.now in
    let s1 = g.K.Sink.got c.tell_two.new.sink in
    let s2 = g.K.Sink.got c.tell_word.new.sink in
    let s3 = g.K.Sink.got c.tell_below.new.sink in
    let work = work_told x (operation_node x c.args.k) c.args.piece c.args.i c.as_bytes.result.now c.op_name.result c.requires.operation (c.as_bytes.ensures.value ∙ c.name_of.ensures) c.op_name.ensures in
    let lines = lines_told x (operation_node x c.args.k) c.args.piece c.args.i c.args.lines (holds c.needs.result) c.requires.operation c.requires.lines c.needs.ensures in
    let w1 = c.in_ok-tell_two.ensures.text in
    let w2 = told_more s0 s1 s2 first c.tell_two.new.buffer c.tell_word.new.buffer t0 t1 w1 (begun s1 s2 c.tell_two.new.buffer c.tell_word.new.buffer (32 ∷ c.as_bytes.result.now) t1 work c.in_ok-tell_word.ensures.text) in
    then_on_ok c.tell_below.result (λ now. told_more s0 s2 s3 first c.tell_word.new.buffer c.tell_below.new.buffer (t0 ++ t1) t2 w2 (begun s2 s3 c.tell_word.new.buffer c.tell_below.new.buffer (numbers_text (filter (holds c.needs.result) (range_with_len 0 c.args.lines))) t2 lines now)) c.tell_below.ensures.text

pub returns-clause-prefix : goal.returns-clause-prefix
returns-clause-prefix g c =
    let first = c.args.buffer.now in
    let x = operations_of c.args.net.now in
    let t0 = codes " OP " ++ decimal c.args.piece ++ 32 ∷ decimal c.args.i in
    let t1 = 32 ∷ work_name (operation_at x c.args.piece c.args.i).work in
    let t2 = numbers_text (needed x c.args.piece c.args.i) in
    let s0 = g.K.Sink.got c.args.sink.now in
    let s1 = g.K.Sink.got c.tell_two.new.sink in
    let s2 = g.K.Sink.got c.tell_word.new.sink in
    let s3 = g.K.Sink.got c.tell_below.new.sink in
    let work = work_told x (operation_node x c.args.k) c.args.piece c.args.i c.as_bytes.result.now c.op_name.result c.requires.operation (c.as_bytes.ensures.value ∙ c.name_of.ensures) c.op_name.ensures in
    let lines = lines_told x (operation_node x c.args.k) c.args.piece c.args.i c.args.lines (holds c.needs.result) c.requires.operation c.requires.lines c.needs.ensures in
    let w1 = c.in_ok-tell_two.ensures.text in
    let w2 = told_more s0 s1 s2 first c.tell_two.new.buffer c.tell_word.new.buffer t0 t1 w1 (begun s1 s2 c.tell_two.new.buffer c.tell_word.new.buffer (32 ∷ c.as_bytes.result.now) t1 work c.in_ok-tell_word.ensures.text) in
    then_on_error c.tell_below.result (λ now. fault_more s0 s2 s3 first c.tell_word.new.buffer (t0 ++ t1) t2 w2 (begun_fault s2 s3 c.tell_word.new.buffer (numbers_text (filter (holds c.needs.result) (range_with_len 0 c.args.lines))) t2 lines now)) c.tell_below.ensures.prefix
