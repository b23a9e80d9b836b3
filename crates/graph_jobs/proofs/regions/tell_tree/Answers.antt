use Rattle.std.proofs.Common.{◌≡◌, ◌+◌, ◌-◌, ℕ, ap, ◌∙◌, arith, subst, List, ◌++◌}
use Rattle.df_io.specs.TextBuffer.{IsWrittenBut}
use Rattle.region_tree.specs.Tree.{region_count, entry_of, exit_of, parent_of}
use Rattle.graph_jobs.specs.Regions.{region_line, region_lines}
use Rattle.graph_texts.proofs.Texts.{line_told, fault_at_line, on_error}
use Rattle.graph_jobs.proofs.regions.tell_tree.Goals as goal

pub returns-in_err-append-clause-prefix : goal.returns-in_err-append-clause-prefix
returns-in_err-append-clause-prefix g c =
    let t = c.args.tree.now in
    let line : ℕ → List ℕ = λ r. region_line r (entry_of t r) (exit_of t r) (parent_of t r) in
    let r = c.loop-r.r in
    let k = r - 1 in
    let here : r ≡ 1 + k = omega (arith, c.loop-r.invariant.1) in
    let is = c.as_bytes.ensures.value ∙ c.as_str.ensures.value ∙ c.region_line-line.ensures
    ∙ ap (λ a. region_line r a c.exit.result c.parent.result) c.entry.ensures ∙ ap (λ a. region_line r (entry_of t r) a c.parent.result) c.exit.ensures ∙ ap (region_line r (entry_of t r) (exit_of t r)) c.parent.ensures ∙ ap line here in
    on_error c.from_residual.result
    (fault_at_line line 1 k (region_count t) c.args.buffer.now c.loop-r.buffer c.as_bytes.result.now
    (g.K.Sink.got c.args.sink.now) (g.K.Sink.got c.loop-r.sink) (g.K.Sink.got c.append.new.sink)
    (grind (arith, c.loop-r-test.true, c.count-r-end.ensures.count, c.loop-r.invariant.1)) is c.loop-r.invariant.0.written c.in_err-append.ensures.prefix)

pub loop-r-preserved : goal.loop-r-preserved
loop-r-preserved g c =
    let t = c.args.tree.now in
    let line : ℕ → List ℕ = λ r. region_line r (entry_of t r) (exit_of t r) (parent_of t r) in
    let r = c.loop-r.r in
    let k = r - 1 in
    let here : r ≡ 1 + k = omega (arith, c.loop-r.invariant.1) in
    let next : k + 1 ≡ r + 1 - 1 = omega (arith, c.loop-r.invariant.1) in
    let is = c.as_bytes.ensures.value ∙ c.as_str.ensures.value ∙ c.region_line-line.ensures
    ∙ ap (λ a. region_line r a c.exit.result c.parent.result) c.entry.ensures ∙ ap (λ a. region_line r (entry_of t r) a c.parent.result) c.exit.ensures ∙ ap (region_line r (entry_of t r) (exit_of t r)) c.parent.ensures ∙ ap line here in
    let told = line_told line 1 k c.args.buffer.now c.loop-r.buffer c.append.new.self c.as_bytes.result.now
    (g.K.Sink.got c.args.sink.now) (g.K.Sink.got c.loop-r.sink) (g.K.Sink.got c.append.new.sink) is c.loop-r.invariant.0.written c.in_ok-append.ensures.text in (
      record {
        written = subst (λ n. IsWrittenBut c.append.new.self (g.K.Sink.got c.args.sink.now) (g.K.Sink.got c.append.new.sink) (c.args.buffer.now ++ region_lines t n)) next told;
        later = omega (arith, c.loop-r.invariant.0.later, c.append.ensures.later);
      },
      omega (arith, c.loop-r.invariant.1),
    )
