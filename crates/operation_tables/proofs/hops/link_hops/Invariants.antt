use Rattle.std.proofs.Common.{◌≡◌, ◌==◌, ℕ, Some, if◌then◌else◌, length, take}
use Rattle.std.specs.List.{list_any}
use Rattle.operation_tables.specs.declared.hops.Hop.{Hop}
use Rattle.operation_tables.specs.ScratchLines.{first_at, linked}
use Rattle.operation_tables.proofs.HopFronts.{front_mapped}
use Rattle.operation_tables.proofs.hops.link_hops.Given as goal

abbrev pub invariant-loop-j : goal.invariant-loop-j
invariant-loop-j l = record {
  hops : l.hops.items ≡ front_mapped (linked l.fn.scratch) l.j l.fn.hops.items;
  first : (line : ℕ) → first_at l.scratch line ≡ if list_any (λ (hop : Hop). hop.line == line) (take l.j l.fn.hops.items) then Some l.i else first_at l.fn.scratch line;
  all : length l.scratch.first.items ≡ length l.fn.scratch.first.items;
  before : l.scratch.before.items ≡ l.fn.scratch.before.items;
}
