use Rattle.std.proofs.Common.{◌≡◌, ℕ, nat_lt}
use Rattle.class_set.specs.ClassSet.{holds}
use Rattle.dep_routing.proofs.rows.lines_below.Given as goal

abbrev pub invariant-loop-line : goal.invariant-loop-line
invariant-loop-line g l = (k : ℕ) → holds l.set k ≡ nat_lt k l.line
