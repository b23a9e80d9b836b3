use Rattle.std.proofs.Common.{◌+◌, drop}
use Rattle.std.specs.List.{position_or_len}
use Rattle.flat_programs.specs.Marks.{ends_at, mark_count}
use Rattle.flat_programs.specs.Flow.{IsTable}
use Rattle.flat_programs.proofs.flow.range_ends.Given as goal

abbrev pub invariant-loop-place : goal.invariant-loop-place
invariant-loop-place l = IsTable (λ number. l.place + position_or_len (λ s. ends_at number s.stmt) (drop l.place l.flat)) (mark_count l.flat + 2) l.ends.items
