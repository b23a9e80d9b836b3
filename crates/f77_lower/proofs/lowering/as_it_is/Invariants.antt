use Rattle.std.proofs.Common.{◌≡◌, length, All}
use Rattle.std.specs.List.{range_with_len}
use Rattle.f77_lower.specs.Lowering.{IsLineOf}
use Rattle.f77_lower.proofs.lowering.as_it_is.Given as goal

-- the numbers so far
abbrev pub invariant-loop-number : goal.invariant-loop-number
invariant-loop-number l = (l.lines.items ≡ range_with_len 1 l.number) × (length l.lines.items ≡ l.number) × All (IsLineOf l.source) l.lines.items
