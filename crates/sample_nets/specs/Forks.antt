-- A word that two readers copy, in either order, before a writer replaces it.
use Rattle.std.specs.Prelude.{◌+◌, ◌&&◌, ℕ, zero, suc, Bool, true, false, not, List, Option, Some, None, codes}
use Rattle.firing.specs.declared.system.NodeName.TheVariants.{Act}
use Rattle.firing.specs.Moves.{Moves}

pub record Fork : Type 0 where
  -- whether each reader has the word
  pub first_read : Bool
  pub second_read : Bool
  pub word : ℕ
  -- what each reader copied last
  pub first_copy : ℕ
  pub second_copy : ℕ

-- the readers 0 and 1, and the writer
abbrev pub fork_ready : Fork → ℕ → Bool
fork_ready m zero = not m.first_read
fork_ready m (suc zero) = not m.second_read
fork_ready m (suc (suc k)) = m.first_read && m.second_read

abbrev pub fork_fired : Fork → ℕ → Fork
fork_fired m zero = record m { first_read = true; first_copy = m.word }
fork_fired m (suc zero) = record m { second_read = true; second_copy = m.word }
fork_fired m (suc (suc k)) = record m { first_read = false; second_read = false; word = m.word + 1 }

-- the writer tells that it was here
abbrev pub fork_line : ℕ → Option (List ℕ)
fork_line (suc (suc k)) = Some (codes "new\n")
fork_line _ = None

abbrev pub is_writer : ℕ → Bool
is_writer (suc (suc k)) = true
is_writer _ = false

abbrev pub fork_moves : Moves Fork
fork_moves = record {
  nodes = 3;
  name = λ k. Act k;
  serial = is_writer;
  ready = fork_ready;
  fired = fork_fired;
  line = λ m k. fork_line k;
  trap = λ m. None;
}

abbrev pub any_fork : Fork → Type 0
any_fork m = Unit {0}

-- ---- parts

-- the line tells who has the word
pub data Part : Type 0 where
  Line : Part
  Word : Part
  First : Part
  Second : Part

pub record Readers : Type 0 where
  pub first : Bool
  pub second : Bool

abbrev pub Value : Part → Type 0
Value Line = Readers
Value Word = ℕ
Value First = ℕ
Value Second = ℕ

abbrev pub at : Fork → (part : Part) → Value part
at m Line = record { first = m.first_read; second = m.second_read }
at m Word = m.word
at m First = m.first_copy
at m Second = m.second_copy

abbrev pub foot : ℕ → Part → Bool
foot zero Second = false
foot (suc zero) First = false
foot (suc (suc k)) First = false
foot (suc (suc k)) Second = false
foot _ _ = true

-- the readers share the line and the word
abbrev pub shares : ℕ → Part → Bool
shares zero Line = true
shares zero Word = true
shares (suc zero) Line = true
shares (suc zero) Word = true
shares _ _ = false

-- a reader leaves the word, and puts itself down on the line
abbrev pub update : ℕ → (part : Part) → Value part → Value part
update zero Line v = record { first = true; second = v.second }
update (suc zero) Line v = record { first = v.first; second = true }
update _ _ v = v
