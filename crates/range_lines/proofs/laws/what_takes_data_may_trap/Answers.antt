use Rattle.range_lines.proofs.RangeRiskLemmas.{taking-may}
use Rattle.range_lines.proofs.laws.what_takes_data_may_trap.Goals as goal

pub returns : goal.returns
returns c = λ p t k well classes. taking-may p t well classes c.writes_cover_changes.ensures.changed k
