use Rattle.std.proofs.Common.{◌∙◌, max, ap, slice_index}
use Rattle.trace_profiles.proofs.Greatest.{newest_more}
use Rattle.trace_profiles.proofs.rounds.newest_at.Goals as goal

pub loop-place-preserved : goal.loop-place-preserved
loop-place-preserved c =
    newest_more (slice_index c.args.numbers.now) c.args.places.now c.loop-place.place-index c.loop-place.newest c.greater-newest.result 0 c.loop-place-test.true c.loop-place.invariant (c.greater-newest.ensures ∙ ap (max c.loop-place.newest) c.at.ensures)
