use Rattle.std.proofs.Common.{◌+◌}
use Rattle.f77_expr.specs.Scanning.{what_is_open}
use Rattle.flat_programs.proofs.LineLemmas.{IsDeep, deep_next}
use Rattle.flat_programs.proofs.lines.depth.Goals as goal

pub loop-c-preserved : goal.loop-c-preserved
loop-c-preserved c =
    let kept = c.loop-c.invariant in
    let text = c.args.text.now in
    let i = c.loop-c.c-index in
    let before : IsDeep text (what_is_open c.loop-c.state) c.loop-c.deepest i = record { deepest = kept.deepest; least = kept.least; room = kept.room } in
    let after : IsDeep text (what_is_open c.open_after-state.result) c.greater-deepest.result (i + 1) = deep_next text (what_is_open c.loop-c.state) (what_is_open c.open_after-state.result) c.loop-c.deepest i 0 c.greater-deepest.result before c.loop-c-test.true c.open_after-state.ensures c.greater-deepest.ensures in
    record { deepest = after.deepest; least = after.least; room = after.room }
