use Rattle.std.proofs.Common.{ap, arith, ◌∙◌, ℕ}
use Rattle.std.specs.Prelude.{slice_get}
use Rattle.view_output.specs.Told.{told}
use Rattle.graph_json.proofs.FiringRows.{one_firing}
use Rattle.graph_json.proofs.trace_lines.write_trace_lines.Goals as goal

pub loop-firing-preserved : goal.loop-firing-preserved
loop-firing-preserved g c =
    let kept = c.loop-firing.invariant in
    let got = g.K.Sink.got in
    record {
      counted = omega (arith, kept.counted);
      told = one_firing c.args.graphs.flow.now c.args.graphs.graph.now c.as_slice-firing-items.result.now c.args.rounds.now c.loop-firing.firing-index _ c.round_at.result (told got c.args.output.now) (told got c.loop-firing.output) (told got c.write_firing.new.output) c.loop-firing-test.true (c.round_at.ensures ∙ ap (λ (n : ℕ). slice_get c.args.rounds.now n) kept.counted) kept.told c.in_ok-write_firing.ensures;
    }
