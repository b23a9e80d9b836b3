-- What contracts see of the counters.
use Rattle.std.specs.Prelude.{◌≡◌, ℕ, Bool, true, List, Option, None, take}
use Rattle.firing.specs.Marks.{AreMarks}
use Rattle.sample_nets.specs.declared.counters.Counters.{Counters}
use Rattle.sample_nets.specs.declared.counts.Counts.{Counts}
use Rattle.sample_nets.specs.declared.turn.Turn.{Turn}
use Rattle.sample_nets.specs.Counting.{counter_moves, is_ready}

-- all but the marks
pub record Unmarked : Type 0 where
  pub counts : Counts
  pub turn : Option Turn
  pub last_fired : ℕ
  pub line : List ℕ
  pub kept : Bool

abbrev pub rest_of : Counters → Unmarked
rest_of s = record { counts = s.counts; turn = s.turn; last_fired = s.last_fired; line = take s.len s.text; kept = s.kept }

-- the ready nodes are marked, if nothing has trapped
pub record KeepsSet (s : Counters) : Type 0 where
  pub kept : s.kept ≡ true
  pub marks : counter_moves.trap s.counts ≡ None → AreMarks 4 (is_ready s.counts) s.set
