use Rattle.std.proofs.Common.{◌≡◌, ℕ, ◌<◌, get_or}
use Rattle.std.specs.Prelude.{Some, slice_get}
use Rattle.redundancy.proofs.table.find_among.Given as goal

abbrev pub invariant-loop-k : goal.invariant-loop-k
invariant-loop-k l = (j : ℕ) → j < l.k-index → slice_get l.exprs.items (get_or l.numbers j 0) ≡ Some l.e → ⊥
