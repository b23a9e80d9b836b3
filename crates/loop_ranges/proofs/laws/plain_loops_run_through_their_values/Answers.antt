use Rattle.loop_ranges.proofs.PlainRuns.{under-way}
use Rattle.loop_ranges.proofs.laws.plain_loops_run_through_their_values.Goals as goal

pub returns : goal.returns
returns c = λ p t input steps n loop q well classes plain inside. under-way p t input well classes c.writes_cover_changes.ensures.changed n loop q plain steps inside
