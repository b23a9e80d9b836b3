use Rattle.std.proofs.Common.{◌≡◌, [], ◌∷◌, ◌++◌, ◌∙◌, ap}
use Rattle.std.specs.Prelude.{codes}
use Rattle.std.specs.Fmt.{decimal}
use Rattle.graph_texts.specs.GraphText.{numbers_text, wires_of}
use Rattle.set_columns.specs.Marks.{marked}
use Rattle.graph_texts.proofs.SetNumbers.{members}
use Rattle.graph_texts.proofs.WiresTold.{wires_are}
use Rattle.graph_texts.proofs.Telling.{begun, begun_fault, told_more, fault_more, fault_before}
use Rattle.graph_texts.proofs.Texts.{on_error, then_on_error, then_on_ok}
use Rattle.graph_texts.proofs.graph_wires.tell_wire_line.Goals as goal

pub returns-in_err-append-clause-prefix : goal.returns-in_err-append-clause-prefix
returns-in_err-append-clause-prefix g c =
    let first = c.args.buffer.now in
    let s0 = g.K.Sink.got c.args.sink.now in
    let s1 = g.K.Sink.got c.append.new.sink in
    let head = codes "W " ++ decimal c.args.line in
    let is = c.as_bytes.ensures ∙ c.numbered.ensures in
    let middle = numbers_text (wires_of c.args.g.now c.args.l.now c.args.line) in
    on_error c.from_residual.result
    (fault_before s0 s1 first (head ++ middle) (10 ∷ []) (fault_before s0 s1 first head middle (begun_fault s0 s1 first c.as_bytes.result.now head is c.in_err-append.ensures.prefix)))

pub returns-in_err-tell_edges-clause-prefix : goal.returns-in_err-tell_edges-clause-prefix
returns-in_err-tell_edges-clause-prefix g c =
    let first = c.args.buffer.now in
    let s0 = g.K.Sink.got c.args.sink.now in
    let s1 = g.K.Sink.got c.append.new.sink in
    let head = codes "W " ++ decimal c.args.line in
    let is = c.as_bytes.ensures ∙ c.numbered.ensures in
    let s2 = g.K.Sink.got c.tell_edges.new.sink in
    let middle = numbers_text (wires_of c.args.g.now c.args.l.now c.args.line) in
    let numbers = numbers_text (members (marked c.args.wires.now c.args.line) c.edges.result) in
    let same : numbers ≡ middle =
    ap (λ end. numbers_text (members (marked c.args.wires.now c.args.line) end)) c.edges.ensures.count
    ∙ wires_are c.args.g.now c.args.l.now c.args.wires.now c.args.line c.requires.wires c.requires.line in
    let w1 = begun s0 s1 first c.append.new.self c.as_bytes.result.now head is c.in_ok-append.ensures.text in
    on_error c.from_residual-in_err-tell_edges.result
    (fault_before s0 s2 first (head ++ middle) (10 ∷ []) (fault_more s0 s1 s2 first c.append.new.self head middle w1 (begun_fault s1 s2 c.append.new.self numbers middle same c.in_err-tell_edges.ensures.prefix)))

pub returns-clause-text : goal.returns-clause-text
returns-clause-text g c =
    let first = c.args.buffer.now in
    let s0 = g.K.Sink.got c.args.sink.now in
    let s1 = g.K.Sink.got c.append.new.sink in
    let head = codes "W " ++ decimal c.args.line in
    let is = c.as_bytes.ensures ∙ c.numbered.ensures in
    let s2 = g.K.Sink.got c.tell_edges.new.sink in
    let middle = numbers_text (wires_of c.args.g.now c.args.l.now c.args.line) in
    let numbers = numbers_text (members (marked c.args.wires.now c.args.line) c.edges.result) in
    let same : numbers ≡ middle =
    ap (λ end. numbers_text (members (marked c.args.wires.now c.args.line) end)) c.edges.ensures.count
    ∙ wires_are c.args.g.now c.args.l.now c.args.wires.now c.args.line c.requires.wires c.requires.line in
    let w1 = begun s0 s1 first c.append.new.self c.as_bytes.result.now head is c.in_ok-append.ensures.text in
    let s3 = g.K.Sink.got c.append-2.new.sink in
    let w2 = told_more s0 s1 s2 first c.append.new.self c.tell_edges.new.buffer head middle w1 (begun s1 s2 c.append.new.self c.tell_edges.new.buffer numbers middle same c.in_ok-tell_edges.ensures.text) in
    then_on_ok c.append-2.result (told_more s0 s2 s3 first c.tell_edges.new.buffer c.append-2.new.self (head ++ middle) (10 ∷ []) w2) c.append-2.ensures.text

pub returns-clause-prefix : goal.returns-clause-prefix
returns-clause-prefix g c =
    let first = c.args.buffer.now in
    let s0 = g.K.Sink.got c.args.sink.now in
    let s1 = g.K.Sink.got c.append.new.sink in
    let head = codes "W " ++ decimal c.args.line in
    let is = c.as_bytes.ensures ∙ c.numbered.ensures in
    let s2 = g.K.Sink.got c.tell_edges.new.sink in
    let middle = numbers_text (wires_of c.args.g.now c.args.l.now c.args.line) in
    let numbers = numbers_text (members (marked c.args.wires.now c.args.line) c.edges.result) in
    let same : numbers ≡ middle =
    ap (λ end. numbers_text (members (marked c.args.wires.now c.args.line) end)) c.edges.ensures.count
    ∙ wires_are c.args.g.now c.args.l.now c.args.wires.now c.args.line c.requires.wires c.requires.line in
    let w1 = begun s0 s1 first c.append.new.self c.as_bytes.result.now head is c.in_ok-append.ensures.text in
    let s3 = g.K.Sink.got c.append-2.new.sink in
    let w2 = told_more s0 s1 s2 first c.append.new.self c.tell_edges.new.buffer head middle w1 (begun s1 s2 c.append.new.self c.tell_edges.new.buffer numbers middle same c.in_ok-tell_edges.ensures.text) in
    then_on_error c.append-2.result (fault_more s0 s2 s3 first c.tell_edges.new.buffer (head ++ middle) (10 ∷ []) w2) c.append-2.ensures.prefix
