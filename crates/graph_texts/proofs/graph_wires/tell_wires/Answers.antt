use Rattle.std.proofs.Common.{◌≡◌, ◌+◌, ℕ, List, ap, arith}
use Rattle.graph_texts.specs.GraphText.{wire_line}
use Rattle.graph_texts.proofs.Texts.{line_told, fault_at_line, on_error}
use Rattle.graph_texts.proofs.graph_wires.tell_wires.Goals as goal

pub returns-in_err-tell_wire_line-clause-prefix : goal.returns-in_err-tell_wire_line-clause-prefix
returns-in_err-tell_wire_line-clause-prefix g c =
    let line : ℕ → List ℕ = wire_line c.args.g.now c.args.l.now in
    let k = c.loop-line.line in
    let here : k ≡ 0 + k = omega arith in
    on_error c.from_residual.result
    (fault_at_line line 0 k c.args.l.now.lines c.args.buffer.now c.loop-line.buffer (line k)
    (g.K.Sink.got c.args.sink.now) (g.K.Sink.got c.loop-line.sink) (g.K.Sink.got c.tell_wire_line.new.sink)
    (grind (arith, c.loop-line-test.true, c.lines-line-end.ensures)) (ap line here) c.loop-line.invariant.written c.in_err-tell_wire_line.ensures.prefix)

pub loop-line-preserved : goal.loop-line-preserved
loop-line-preserved g c =
    let line : ℕ → List ℕ = wire_line c.args.g.now c.args.l.now in
    let k = c.loop-line.line in
    let here : k ≡ 0 + k = omega arith in
    record {
      written = line_told line 0 k c.args.buffer.now c.loop-line.buffer c.tell_wire_line.new.buffer (line k)
          (g.K.Sink.got c.args.sink.now) (g.K.Sink.got c.loop-line.sink) (g.K.Sink.got c.tell_wire_line.new.sink) (ap line here) c.loop-line.invariant.written c.in_ok-tell_wire_line.ensures.text;
      later = omega (arith, c.loop-line.invariant.later, c.tell_wire_line.ensures.later);
    }
