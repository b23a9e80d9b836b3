use Rattle.std.proofs.Common.{◌≡◌, ◌++◌, ◌+◌, ◌∙◌, ℕ, List, sym, ap, arith}
use Rattle.std.specs.Prelude.{flat_map}
use Rattle.class_set.specs.Members.{first_above}
use Rattle.set_columns.specs.Marks.{marked}
use Rattle.graph_texts.specs.GraphText.{hop_line, hops_text}
use Rattle.graph_texts.proofs.SetNumbers.{members, members_all, text_after, text_left, text_next}
use Rattle.graph_texts.proofs.Telling.{begun, begun_fault, fault_before, fault_more, told_more}
use Rattle.graph_texts.proofs.Texts.{on_error}
use Rattle.graph_texts.proofs.WiresTold.{hops_are}
use Rattle.graph_texts.proofs.graph_wires.tell_hops_of.Goals as goal

pub tell_hop-requires-clause-edge : goal.tell_hop-requires-clause-edge
tell_hop-requires-clause-edge g c =
    let below = c.in-Some.ensures.below in
    omega (arith, below, c.edges-end.ensures.count, c.requires.edges)

pub returns-in_err-tell_hop-clause-prefix : goal.returns-in_err-tell_hop-clause-prefix
returns-in_err-tell_hop-clause-prefix g c =
    let first = c.args.buffer.now in
    let told : ℕ → List ℕ = hop_line c.args.l.now c.args.line in
    let test = marked c.args.bypasses.now c.args.line in
    let end = c.edges-end.result in
    let n = c.in-Some.edge in
    let text = flat_map told (members test (first_above c.loop-edge.before)) in
    let left = text_left test told n end in
    let s0 = g.K.Sink.got c.args.sink.now in
    let s1 = g.K.Sink.got c.loop-edge.sink in
    let s2 = g.K.Sink.got c.tell_hop.new.sink in
    let prefix = fault_more s0 s1 s2 first c.loop-edge.buffer text (told n) c.loop-edge.invariant.written c.in_err-tell_hop.ensures.prefix in
    let all : (text ++ told n) ++ left ≡ hops_text c.args.g.now c.args.l.now c.args.line =
    sym (text_after test told c.loop-edge.before end n c.in-Some.ensures)
    ∙ ap (λ e. flat_map told (members test e)) c.edges-end.ensures.count
    ∙ hops_are c.args.g.now c.args.l.now c.args.bypasses.now c.args.line c.requires.bypasses c.requires.line in
    on_error c.from_residual.result
    (begun_fault s0 s2 first ((text ++ told n) ++ left) (hops_text c.args.g.now c.args.l.now c.args.line) all (fault_before s0 s2 first (text ++ told n) left prefix))

pub loop-edge-preserved : goal.loop-edge-preserved
loop-edge-preserved g c =
    let first = c.args.buffer.now in
    let told : ℕ → List ℕ = hop_line c.args.l.now c.args.line in
    let test = marked c.args.bypasses.now c.args.line in
    let end = c.edges-end.result in
    let n = c.in-Some.edge in
    let below = c.in-Some.ensures.below in
    let text = flat_map told (members test (first_above c.loop-edge.before)) in
    let s0 = g.K.Sink.got c.args.sink.now in
    let s1 = g.K.Sink.got c.loop-edge.sink in
    let s2 = g.K.Sink.got c.tell_hop.new.sink in
    record {
      written = begun s0 s2 first c.tell_hop.new.buffer (text ++ told n) (flat_map told (members test (n + 1))) (sym (text_next test told c.loop-edge.before end n c.in-Some.ensures))
          (told_more s0 s1 s2 first c.loop-edge.buffer c.tell_hop.new.buffer text (told n) c.loop-edge.invariant.written c.in_ok-tell_hop.ensures.text);
      later = omega (arith, c.loop-edge.invariant.later, c.tell_hop.ensures.later);
      within = omega (arith, below);
    }

pub returns-clause-text : goal.returns-clause-text
returns-clause-text g c =
    let told : ℕ → List ℕ = hop_line c.args.l.now c.args.line in
    let test = marked c.args.bypasses.now c.args.line in
    let end = c.edges-end.result in
    let all : flat_map told (members test (first_above c.loop-edge.before)) ≡ hops_text c.args.g.now c.args.l.now c.args.line =
    ap (flat_map told) (sym (members_all test c.loop-edge.before end c.loop-edge.invariant.within c.in_default.ensures))
    ∙ ap (λ e. flat_map told (members test e)) c.edges-end.ensures.count
    ∙ hops_are c.args.g.now c.args.l.now c.args.bypasses.now c.args.line c.requires.bypasses c.requires.line in
    begun (g.K.Sink.got c.args.sink.now) (g.K.Sink.got c.loop-edge.sink) c.args.buffer.now c.loop-edge.buffer (flat_map told (members test (first_above c.loop-edge.before))) (hops_text c.args.g.now c.args.l.now c.args.line) all c.loop-edge.invariant.written
