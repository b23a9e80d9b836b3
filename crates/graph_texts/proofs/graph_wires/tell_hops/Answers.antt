use Rattle.std.proofs.Common.{◌≡◌, ◌+◌, ℕ, List, ap, arith}
use Rattle.graph_texts.specs.GraphText.{hops_text}
use Rattle.graph_texts.proofs.Texts.{line_told, fault_at_line, on_error}
use Rattle.graph_texts.proofs.graph_wires.tell_hops.Goals as goal

pub returns-in_err-tell_hops_of-clause-prefix : goal.returns-in_err-tell_hops_of-clause-prefix
returns-in_err-tell_hops_of-clause-prefix g c =
    let line : ℕ → List ℕ = hops_text c.args.g.now c.args.l.now in
    let k = c.loop-line.line in
    let here : k ≡ 0 + k = omega arith in
    on_error c.from_residual.result
    (fault_at_line line 0 k c.args.l.now.lines c.args.buffer.now c.loop-line.buffer (line k)
    (g.K.Sink.got c.args.sink.now) (g.K.Sink.got c.loop-line.sink) (g.K.Sink.got c.tell_hops_of.new.sink)
    (grind (arith, c.loop-line-test.true, c.lines-line-end.ensures)) (ap line here) c.loop-line.invariant.written c.in_err-tell_hops_of.ensures.prefix)

pub loop-line-preserved : goal.loop-line-preserved
loop-line-preserved g c =
    let line : ℕ → List ℕ = hops_text c.args.g.now c.args.l.now in
    let k = c.loop-line.line in
    let here : k ≡ 0 + k = omega arith in
    record {
      written = line_told line 0 k c.args.buffer.now c.loop-line.buffer c.tell_hops_of.new.buffer (line k)
          (g.K.Sink.got c.args.sink.now) (g.K.Sink.got c.loop-line.sink) (g.K.Sink.got c.tell_hops_of.new.sink) (ap line here) c.loop-line.invariant.written c.in_ok-tell_hops_of.ensures.text;
      later = omega (arith, c.loop-line.invariant.later, c.tell_hops_of.ensures.later);
    }
