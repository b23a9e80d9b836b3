-- The counters' own order: the feeder, the writer or the trap, the counter, in turn.
use Rattle.std.specs.Prelude.{◌≡◌, ℕ, nat_lt, if◌then◌else◌, Option, Some, None}
use Rattle.firing.specs.Control.{Course}
use Rattle.sample_nets.specs.declared.counts.Counts.{Counts}
use Rattle.sample_nets.specs.declared.turn.Turn.{Turn}
use Rattle.sample_nets.specs.declared.turn.Turn.TheVariants.{Feed, Write, Count}

abbrev pub turn_after : Turn → Turn
turn_after Feed = Write
turn_after Write = Count
turn_after Count = Feed

abbrev pub due_in : Counts → Turn → Option ℕ
due_in m Feed = if nat_lt 0 m.supply then Some 0 else None
due_in m Write = if nat_lt 0 m.lines then Some 2 else Some 3
due_in m Count = Some 1

abbrev pub counter_course : Course Counts Turn
counter_course = record { due = due_in; moved = λ m turn. turn_after turn }

-- what the feeder gave to the counter and to the writer, and they haven't taken
pub record AreLeft (m : Counts) (left right : ℕ) : Type 0 where
  pub counter_has : m.left ≡ left
  pub writer_has : m.right ≡ right

abbrev pub in_turn : Counts → Turn → Type 0
in_turn m Feed = AreLeft m 0 0
in_turn m Write = AreLeft m 1 1
in_turn m Count = AreLeft m 1 0
