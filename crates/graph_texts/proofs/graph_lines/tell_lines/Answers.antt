use Rattle.std.proofs.Common.{[], ◌∷◌, ◌++◌}
use Rattle.std.specs.Prelude.{codes}
use Rattle.graph_texts.specs.GraphText.{class_lines, loop_lines}
use Rattle.graph_texts.proofs.Telling.{told_more, fault_more, fault_before}
use Rattle.graph_texts.proofs.Texts.{on_error, then_on_error, then_on_ok}
use Rattle.graph_texts.proofs.graph_lines.tell_lines.Goals as goal

pub returns-in_err-append-clause-prefix : goal.returns-in_err-append-clause-prefix
returns-in_err-append-clause-prefix g c =
    let first = c.args.buffer.now in
    let s0 = g.K.Sink.got c.args.sink.now in
    let s1 = g.K.Sink.got c.append.new.sink in
    let head = codes "L 0 *OUT" ++ 10 ∷ [] in
    let classes = class_lines c.args.p.now.names c.args.c.now in
    let loops = loop_lines c.args.c.now c.args.p.now.execs in
    on_error c.from_residual.result
    (fault_before s0 s1 first (head ++ classes) loops (fault_before s0 s1 first head classes c.in_err-append.ensures.prefix))

pub returns-in_err-tell_classes-clause-prefix : goal.returns-in_err-tell_classes-clause-prefix
returns-in_err-tell_classes-clause-prefix g c =
    let first = c.args.buffer.now in
    let s0 = g.K.Sink.got c.args.sink.now in
    let s1 = g.K.Sink.got c.append.new.sink in
    let head = codes "L 0 *OUT" ++ 10 ∷ [] in
    let classes = class_lines c.args.p.now.names c.args.c.now in
    let loops = loop_lines c.args.c.now c.args.p.now.execs in
    let s2 = g.K.Sink.got c.tell_classes.new.sink in
    on_error c.from_residual-in_err-tell_classes.result
    (fault_before s0 s2 first (head ++ classes) loops (fault_more s0 s1 s2 first c.append.new.self head classes c.in_ok-append.ensures.text c.in_err-tell_classes.ensures.prefix))

pub returns-clause-text : goal.returns-clause-text
returns-clause-text g c =
    let first = c.args.buffer.now in
    let s0 = g.K.Sink.got c.args.sink.now in
    let s1 = g.K.Sink.got c.append.new.sink in
    let head = codes "L 0 *OUT" ++ 10 ∷ [] in
    let classes = class_lines c.args.p.now.names c.args.c.now in
    let loops = loop_lines c.args.c.now c.args.p.now.execs in
    let s2 = g.K.Sink.got c.tell_classes.new.sink in
    let s3 = g.K.Sink.got c.tell_loops.new.sink in
    let w2 = told_more s0 s1 s2 first c.append.new.self c.tell_classes.new.buffer head classes c.in_ok-append.ensures.text c.in_ok-tell_classes.ensures.text in
    then_on_ok c.tell_loops.result (told_more s0 s2 s3 first c.tell_classes.new.buffer c.tell_loops.new.buffer (head ++ classes) loops w2) c.tell_loops.ensures.text

pub returns-clause-prefix : goal.returns-clause-prefix
returns-clause-prefix g c =
    let first = c.args.buffer.now in
    let s0 = g.K.Sink.got c.args.sink.now in
    let s1 = g.K.Sink.got c.append.new.sink in
    let head = codes "L 0 *OUT" ++ 10 ∷ [] in
    let classes = class_lines c.args.p.now.names c.args.c.now in
    let loops = loop_lines c.args.c.now c.args.p.now.execs in
    let s2 = g.K.Sink.got c.tell_classes.new.sink in
    let s3 = g.K.Sink.got c.tell_loops.new.sink in
    let w2 = told_more s0 s1 s2 first c.append.new.self c.tell_classes.new.buffer head classes c.in_ok-append.ensures.text c.in_ok-tell_classes.ensures.text in
    then_on_error c.tell_loops.result (fault_more s0 s2 s3 first c.tell_classes.new.buffer (head ++ classes) loops w2) c.tell_loops.ensures.prefix
