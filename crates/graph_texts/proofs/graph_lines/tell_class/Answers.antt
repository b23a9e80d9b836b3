use Rattle.std.proofs.Common.{[], ◌∷◌, ◌++◌, ◌∙◌}
use Rattle.std.specs.Prelude.{codes}
use Rattle.std.specs.Fmt.{decimal}
use Rattle.graph_texts.specs.NameSets.{held_names}
use Rattle.graph_texts.proofs.Telling.{begun, begun_fault, told_more, fault_more, fault_before}
use Rattle.graph_texts.proofs.Texts.{on_error, then_on_error, then_on_ok}
use Rattle.graph_texts.proofs.graph_lines.tell_class.Goals as goal

pub returns-in_err-append-clause-prefix : goal.returns-in_err-append-clause-prefix
returns-in_err-append-clause-prefix g c =
    let first = c.args.buffer.now in
    let s0 = g.K.Sink.got c.args.sink.now in
    let s1 = g.K.Sink.got c.append.new.sink in
    let head = codes "L " ++ decimal c.args.class in
    let is = c.as_bytes.ensures ∙ c.numbered.ensures in
    let middle = held_names c.args.names.now c.args.name_sets.now c.args.class in
    on_error c.from_residual.result
    (fault_before s0 s1 first (head ++ middle) (10 ∷ []) (fault_before s0 s1 first head middle (begun_fault s0 s1 first c.as_bytes.result.now head is c.in_err-append.ensures.prefix)))

pub returns-in_err-tell_names-clause-prefix : goal.returns-in_err-tell_names-clause-prefix
returns-in_err-tell_names-clause-prefix g c =
    let first = c.args.buffer.now in
    let s0 = g.K.Sink.got c.args.sink.now in
    let s1 = g.K.Sink.got c.append.new.sink in
    let head = codes "L " ++ decimal c.args.class in
    let is = c.as_bytes.ensures ∙ c.numbered.ensures in
    let s2 = g.K.Sink.got c.tell_names.new.sink in
    let middle = held_names c.args.names.now c.args.name_sets.now c.args.class in
    let w1 = begun s0 s1 first c.append.new.self c.as_bytes.result.now head is c.in_ok-append.ensures.text in
    on_error c.from_residual-in_err-tell_names.result
    (fault_before s0 s2 first (head ++ middle) (10 ∷ []) (fault_more s0 s1 s2 first c.append.new.self head middle w1 c.in_err-tell_names.ensures.prefix))

pub returns-clause-text : goal.returns-clause-text
returns-clause-text g c =
    let first = c.args.buffer.now in
    let s0 = g.K.Sink.got c.args.sink.now in
    let s1 = g.K.Sink.got c.append.new.sink in
    let head = codes "L " ++ decimal c.args.class in
    let is = c.as_bytes.ensures ∙ c.numbered.ensures in
    let s2 = g.K.Sink.got c.tell_names.new.sink in
    let middle = held_names c.args.names.now c.args.name_sets.now c.args.class in
    let w1 = begun s0 s1 first c.append.new.self c.as_bytes.result.now head is c.in_ok-append.ensures.text in
    let s3 = g.K.Sink.got c.append-2.new.sink in
    let w2 = told_more s0 s1 s2 first c.append.new.self c.tell_names.new.buffer head middle w1 c.in_ok-tell_names.ensures.text in
    then_on_ok c.append-2.result (told_more s0 s2 s3 first c.tell_names.new.buffer c.append-2.new.self (head ++ middle) (10 ∷ []) w2) c.append-2.ensures.text

pub returns-clause-prefix : goal.returns-clause-prefix
returns-clause-prefix g c =
    let first = c.args.buffer.now in
    let s0 = g.K.Sink.got c.args.sink.now in
    let s1 = g.K.Sink.got c.append.new.sink in
    let head = codes "L " ++ decimal c.args.class in
    let is = c.as_bytes.ensures ∙ c.numbered.ensures in
    let s2 = g.K.Sink.got c.tell_names.new.sink in
    let middle = held_names c.args.names.now c.args.name_sets.now c.args.class in
    let w1 = begun s0 s1 first c.append.new.self c.as_bytes.result.now head is c.in_ok-append.ensures.text in
    let s3 = g.K.Sink.got c.append-2.new.sink in
    let w2 = told_more s0 s1 s2 first c.append.new.self c.tell_names.new.buffer head middle w1 c.in_ok-tell_names.ensures.text in
    then_on_error c.append-2.result (fault_more s0 s2 s3 first c.tell_names.new.buffer (head ++ middle) (10 ∷ []) w2) c.append-2.ensures.prefix
