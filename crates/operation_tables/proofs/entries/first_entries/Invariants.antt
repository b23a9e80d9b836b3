use Rattle.std.proofs.Common.{◌≡◌, ℕ, map, take, unwrap_or}
use Rattle.operation_tables.specs.ScratchLines.{first_at}
use Rattle.operation_tables.proofs.entries.first_entries.Given as goal

abbrev pub invariant-loop-line : goal.invariant-loop-line
invariant-loop-line l = l.entries.items ≡ map (λ (line : ℕ). unwrap_or (first_at l.scratch line) 0) (take l.line-index l.touched)
