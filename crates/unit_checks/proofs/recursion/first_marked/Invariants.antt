use Rattle.std.proofs.Common.{◌≡◌, ℕ, ◌<◌, None}
use Rattle.program_units.specs.Refusals.{recursion}
use Rattle.unit_checks.proofs.recursion.first_marked.Given as goal

abbrev pub invariant-loop-k : goal.invariant-loop-k
invariant-loop-k l = (j : ℕ) → j < l.k → recursion l.us j ≡ None
