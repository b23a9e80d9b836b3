use Rattle.std.proofs.Common.{◌≡◌, ◌==◌, ℕ, None, if◌then◌else◌, length, take}
use Rattle.std.specs.List.{list_any}
use Rattle.operation_tables.specs.ScratchLines.{before_at, first_at}
use Rattle.operation_tables.proofs.entries.clear_lines.Given as goal

abbrev pub invariant-loop-line : goal.invariant-loop-line
invariant-loop-line l = record {
  counts : length l.scratch.before.items ≡ length l.fn.scratch.before.items;
  firsts : length l.scratch.first.items ≡ length l.fn.scratch.first.items;
  before : (line : ℕ) → before_at l.scratch line ≡ if list_any (λ (other : ℕ). other == line) (take l.line-index l.touched) then 0 else before_at l.fn.scratch line;
  first : (line : ℕ) → first_at l.scratch line ≡ if list_any (λ (other : ℕ). other == line) (take l.line-index l.touched) then None else first_at l.fn.scratch line;
}
