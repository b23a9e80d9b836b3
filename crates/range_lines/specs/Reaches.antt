-- How far plain DOs reach: through which values their variables run, and where they are incremented.
use Rattle.std.specs.Prelude.{◌≡◌, ℕ, zero, suc, ◌<◌, ◌≤◌, pos, ◌-◌, Bool, if◌then◌else◌, List, length, Option, Some, None, slice_get, slice_index, slice_index_or}
use Rattle.std.specs.Ordering.{int_eq}
use Rattle.f77_tree.specs.declared.programs.Exec.{Exec}
use Rattle.f77_tree.specs.declared.programs.Program.{Program}
use Rattle.f77_tree.specs.Loops.{Loop, incremented_at, is_number, do_start, do_next}
use Rattle.alias_classes.specs.Classes.{ClassTable}
use Rattle.alias_classes.specs.Writes.{ExecWrites}
use Rattle.loop_ranges.specs.Plain.{Parameters, count_of, value_after, IsPlain}
use Rattle.range_lines.specs.declared.reaches.Reach.{Reach}

-- ---- from parameters

abbrev pub reached : (next : ℕ) → Parameters → (count : ℕ) → Option Reach
reached next q zero = None
reached next q (suc m) = Some (record { first = q.first; last = value_after q m; next = next })

-- how far a DO with these parameters reaches, where they are known, the step isn't 0, and the range is executed
abbrev pub reach_with : (next : ℕ) → Option Parameters → Option Reach
reach_with next None = None
reach_with next (Some q) = if int_eq q.step (pos 0) then None else reached next q (count_of q)

-- the executable k increments the DO of this number
abbrev pub increments_loop : List Exec → (k n : ℕ) → Bool
increments_loop execs k n = is_number n (incremented_at execs k)

-- ---- of plain DOs

-- how far the plain DO n with these parameters reaches
abbrev pub reach_of : Program → (n : ℕ) → Parameters → Reach
reach_of p n q = record { first = q.first; last = value_after q (count_of q - 1); next = do_next p.execs n }

-- a plain DO that the executable k begins, and its reach
pub record Begins (p : Program) (t : ClassTable) (k : ℕ) (reach : Reach) : Type 0 where
  pub number : ℕ
  pub loop : Loop
  pub parameters : Parameters
  pub plain : IsPlain p t number loop parameters
  pub here : do_start p.execs number ≡ k
  pub is : reach ≡ reach_of p number parameters

-- the reach of the plain DO that the executable k begins, or none where it begins none
pub record IsReach (p : Program) (t : ClassTable) (k : ℕ) (reach : Option Reach) : Type 0 where
  pub sound : (r : Reach) → reach ≡ Some r → Begins p t k r
  pub whole : (n : ℕ) (loop : Loop) (q : Parameters) → IsPlain p t n loop q → do_start p.execs n ≡ k → reach ≡ Some (reach_of p n q)

pub record AreReaches (p : Program) (t : ClassTable) (reaches : List (Option Reach)) : Type 0 where
  pub each : length reaches ≡ length p.execs
  pub right : (k : ℕ) → k < length p.execs → IsReach p t k (slice_index_or reaches k None)

-- ---- where classes are written

-- the executable k writes the class
pub record Writes (p : Program) (t : ClassTable) (k class : ℕ) : Type 0 where
  pub exec : Exec
  pub at : slice_get p.execs k ≡ Some exec
  pub writes : ExecWrites t exec.kind class

-- j is the first executable from k on that writes the class, or the end of the program where none does
pub record IsNextWrite (p : Program) (t : ClassTable) (k class j : ℕ) : Type 0 where
  pub from : k ≤ j
  pub within : j ≤ length p.execs
  pub none : (i : ℕ) → k ≤ i → i < j → Writes p t i class → ⊥
  pub some : j < length p.execs → Writes p t j class

-- for each class where it is written next
abbrev pub AreNextWrites : Program → ClassTable → (k : ℕ) → List ℕ → Type 0
AreNextWrites p t k next = (class : ℕ) → class < length next → IsNextWrite p t k class (slice_index next class)
