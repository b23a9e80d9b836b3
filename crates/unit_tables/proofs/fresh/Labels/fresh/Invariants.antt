use Rattle.std.proofs.Common.{◌≡◌}
use Rattle.unit_tables.proofs.fresh.Labels.fresh.Given as goal

-- the labels are what they were
abbrev pub invariant-loop-label : goal.invariant-loop-label
invariant-loop-label l = l.self ≡ l.initial.self
