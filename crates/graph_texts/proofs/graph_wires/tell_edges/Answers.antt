use Rattle.std.proofs.Common.{◌∷◌, ◌++◌, ◌+◌, ◌∙◌, sym, ap, arith}
use Rattle.std.specs.Fmt.{decimal}
use Rattle.class_set.specs.Members.{first_above}
use Rattle.set_columns.specs.Marks.{marked}
use Rattle.graph_texts.specs.GraphText.{numbers_text}
use Rattle.graph_texts.proofs.SetNumbers.{members, members_all, numbers_after, numbers_left, numbers_next}
use Rattle.graph_texts.proofs.Telling.{begun, begun_fault, fault_before, fault_more, told_more}
use Rattle.graph_texts.proofs.Texts.{on_error}
use Rattle.graph_texts.proofs.graph_wires.tell_edges.Goals as goal

pub returns-in_err-append-clause-prefix : goal.returns-in_err-append-clause-prefix
returns-in_err-append-clause-prefix g c =
    let first = c.args.buffer.now in
    let test = marked c.args.table.now c.args.line in
    let end = c.args.end in
    let n = c.in-Some.edge in
    let text = numbers_text (members test (first_above c.loop-edge.before)) in
    let one = 32 ∷ decimal n in
    let is = c.as_bytes.ensures ∙ c.numbered.ensures in
    let left = numbers_left test n end in
    let s0 = g.K.Sink.got c.args.sink.now in
    let s1 = g.K.Sink.got c.loop-edge.sink in
    let s2 = g.K.Sink.got c.append.new.sink in
    let prefix = fault_more s0 s1 s2 first c.loop-edge.buffer text one c.loop-edge.invariant.written (begun_fault s1 s2 c.loop-edge.buffer c.as_bytes.result.now one is c.in_err-append.ensures.prefix) in
    on_error c.from_residual.result
    (begun_fault s0 s2 first ((text ++ one) ++ left) (numbers_text (members test end)) (sym (numbers_after test c.loop-edge.before end n c.in-Some.ensures)) (fault_before s0 s2 first (text ++ one) left prefix))

pub loop-edge-preserved : goal.loop-edge-preserved
loop-edge-preserved g c =
    let first = c.args.buffer.now in
    let test = marked c.args.table.now c.args.line in
    let end = c.args.end in
    let n = c.in-Some.edge in
    let below = c.in-Some.ensures.below in
    let text = numbers_text (members test (first_above c.loop-edge.before)) in
    let one = 32 ∷ decimal n in
    let is = c.as_bytes.ensures ∙ c.numbered.ensures in
    let s0 = g.K.Sink.got c.args.sink.now in
    let s1 = g.K.Sink.got c.loop-edge.sink in
    let s2 = g.K.Sink.got c.append.new.sink in
    record {
      written = begun s0 s2 first c.append.new.self (text ++ one) (numbers_text (members test (n + 1))) (sym (numbers_next test c.loop-edge.before end n c.in-Some.ensures))
          (told_more s0 s1 s2 first c.loop-edge.buffer c.append.new.self text one c.loop-edge.invariant.written (begun s1 s2 c.loop-edge.buffer c.append.new.self c.as_bytes.result.now one is c.in_ok-append.ensures.text));
      later = omega (arith, c.loop-edge.invariant.later, c.append.ensures.later);
      within = omega (arith, below);
    }

pub returns-clause-text : goal.returns-clause-text
returns-clause-text g c =
    let test = marked c.args.table.now c.args.line in
    let same = ap numbers_text (members_all test c.loop-edge.before c.args.end c.loop-edge.invariant.within c.in_default.ensures) in
    begun (g.K.Sink.got c.args.sink.now) (g.K.Sink.got c.loop-edge.sink) c.args.buffer.now c.loop-edge.buffer (numbers_text (members test (first_above c.loop-edge.before))) (numbers_text (members test c.args.end)) (sym same) c.loop-edge.invariant.written
