-- What contracts see of swings.
use Rattle.std.specs.Prelude.{◌≡◌, ◌*◌, ℕ, Bool, true, List}
use Rattle.firing.specs.Marks.{AreMarks}
use Rattle.bench_firing.specs.declared.swings.Swings.{Swings}
use Rattle.bench_firing.specs.Swinging.{Pairs, is_ready}

-- all but the marks
pub record Unmarked : Type 0 where
  pub pairs : Pairs
  pub even_has : List Bool
  pub kept : Bool
  -- the nodes that the last firing can have made ready
  pub woken : List ℕ

abbrev pub pairs_of : Swings → Pairs
pairs_of s = record { count = s.count; first = s.first }

abbrev pub rest_of : Swings → Unmarked
rest_of s = record { pairs = pairs_of s; even_has = s.even_has.items; kept = s.kept; woken = s.woken }

-- the ready nodes are marked
pub record KeepsSet (s : Swings) : Type 0 where
  pub kept : s.kept ≡ true
  pub marks : AreMarks (2 * s.count) (is_ready (pairs_of s) s.even_has.items) s.set
