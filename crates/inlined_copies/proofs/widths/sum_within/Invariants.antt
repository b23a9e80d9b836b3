use Rattle.std.proofs.Common.{◌≡◌, ◌+◌, ℕ, take, min, sum_by, get_or}
use Rattle.inlined_copies.proofs.widths.sum_within.Given as goal

abbrev pub invariant-loop-g : goal.invariant-loop-g
invariant-loop-g l = l.total ≡ min (l.own + sum_by (λ (g : ℕ). get_or l.widths g 0) (take l.g-index l.callees)) l.limit
