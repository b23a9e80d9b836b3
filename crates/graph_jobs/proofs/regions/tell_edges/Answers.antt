use Rattle.std.proofs.Common.{◌≡◌, ◌+◌, ℕ, ap, ◌∙◌, arith, List}
use Rattle.std.specs.Prelude.{slice_index}
use Rattle.closed_walks.specs.Graph.{edge_count, from, to}
use Rattle.graph_jobs.specs.Regions.{edge_line}
use Rattle.graph_texts.proofs.Texts.{line_told, fault_at_line, on_error}
use Rattle.graph_jobs.proofs.regions.tell_edges.Goals as goal

pub returns-in_err-append-clause-prefix : goal.returns-in_err-append-clause-prefix
returns-in_err-append-clause-prefix g c =
    let line : ℕ → List ℕ = λ e. edge_line e (from c.args.g.now e) (to c.args.g.now e) (slice_index c.args.classes.now e) in
    let e = c.loop-e.e in
    let here : e ≡ 0 + e = omega arith in
    let ends = ap (λ u. edge_line e u c.to.result (slice_index c.args.classes.now e)) c.from.ensures.node ∙ ap (λ u. edge_line e (from c.args.g.now e) u (slice_index c.args.classes.now e)) c.to.ensures.node in
    let is = c.as_bytes.ensures.value ∙ c.as_str.ensures.value ∙ c.edge_line-line.ensures ∙ ends ∙ ap line here in
    on_error c.from_residual.result
    (fault_at_line line 0 e (edge_count c.args.g.now) c.args.buffer.now c.loop-e.buffer c.as_bytes.result.now
    (g.K.Sink.got c.args.sink.now) (g.K.Sink.got c.loop-e.sink) (g.K.Sink.got c.append.new.sink)
    (grind (arith, c.loop-e-test.true, c.edges-e-end.ensures.count)) is c.loop-e.invariant.written c.in_err-append.ensures.prefix)

pub loop-e-preserved : goal.loop-e-preserved
loop-e-preserved g c =
    let line : ℕ → List ℕ = λ e. edge_line e (from c.args.g.now e) (to c.args.g.now e) (slice_index c.args.classes.now e) in
    let e = c.loop-e.e in
    let here : e ≡ 0 + e = omega arith in
    let ends = ap (λ u. edge_line e u c.to.result (slice_index c.args.classes.now e)) c.from.ensures.node ∙ ap (λ u. edge_line e (from c.args.g.now e) u (slice_index c.args.classes.now e)) c.to.ensures.node in
    let is = c.as_bytes.ensures.value ∙ c.as_str.ensures.value ∙ c.edge_line-line.ensures ∙ ends ∙ ap line here in
    record {
      written = line_told line 0 e c.args.buffer.now c.loop-e.buffer c.append.new.self c.as_bytes.result.now
          (g.K.Sink.got c.args.sink.now) (g.K.Sink.got c.loop-e.sink) (g.K.Sink.got c.append.new.sink) is c.loop-e.invariant.written c.in_ok-append.ensures.text;
      later = omega (arith, c.loop-e.invariant.later, c.append.ensures.later);
    }
