use Rattle.std.proofs.Common.{◌≡◌, length, All}
use Rattle.f77_lower.specs.Lowering.{IsLineOf}
use Rattle.f77_lower.proofs.lowering.line_map.Given as goal

-- a line for each number so far
abbrev pub invariant-loop-number : goal.invariant-loop-number
invariant-loop-number l = (length l.lines.items ≡ l.number) × All (IsLineOf l.source) l.lines.items
