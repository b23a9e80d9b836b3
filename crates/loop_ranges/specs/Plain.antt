-- DOs of which it is known before the program runs how often their range is executed, and with which values of the variable
-- (ANSI X3.9-1978, section 11.10).
use Rattle.std.specs.Prelude.{◌≡◌, ◌≢◌, ℕ, ◌<◌, ◌≤◌, ℤ, pos, ◌+ℤ◌, ◌*ℤ◌, ◌-◌, List, Option, Some, None, slice_get, slice_index}
use Rattle.op_table.specs.Trips.{trip_count}
use Rattle.f77_tree.specs.declared.programs.ExecKind.{ExecKind}
use Rattle.f77_tree.specs.declared.programs.ExecKind.TheVariants.{DoStart}
use Rattle.f77_tree.specs.declared.programs.Exec.{Exec}
use Rattle.f77_tree.specs.declared.programs.Program.{Program}
use Rattle.f77_tree.specs.Execution.{Memory}
use Rattle.f77_tree.specs.Known.{known}
use Rattle.f77_tree.specs.Loops.{Loop, begun_at, do_start, do_next}
use Rattle.f77_tree.specs.Value.{place_of, word_at}
use Rattle.alias_classes.specs.Classes.{ClassTable, class_of_word}
use Rattle.alias_classes.specs.Writes.{ExecWrites}

-- ---- parameters

-- the initial, the terminal and the incrementation parameter of a DO
pub record Parameters : Type 0 where
  pub first : ℤ
  pub last : ℤ
  pub step : ℤ

abbrev pub all_three : (first last step : Option ℤ) → Option Parameters
all_three (Some first) (Some last) (Some step) = Some (record { first = first; last = last; step = step })
all_three _ _ _ = None

-- the parameters of the DO that an executable begins, where all three are known before the program runs
abbrev pub parameters : ExecKind → Option Parameters
parameters (DoStart loop_no var first last step body exit) = all_three (known first) (known last) (known step)
parameters _ = None

abbrev pub parameters_in : Option Exec → Option Parameters
parameters_in None = None
parameters_in (Some exec) = parameters exec.kind

-- how often the range is executed
abbrev pub count_of : Parameters → ℕ
count_of q = trip_count q.first q.last q.step

-- the variable after i increments, over whole numbers
abbrev pub value_after : Parameters → ℕ → ℤ
value_after q i = q.first +ℤ pos i *ℤ q.step

-- ---- plain DOs

-- the executable k lies between the DoStart and the DoNext of the DO n
pub record IsBetween (execs : List Exec) (n k : ℕ) : Type 0 where
  pub after_start : do_start execs n < k
  pub before_next : k < do_next execs n

-- The parameters of the DO n are known, its step isn't 0, its range is executed, and between its DoStart and its DoNext
-- nothing writes the class of its variable's word.
pub record IsPlain (p : Program) (t : ClassTable) (n : ℕ) (loop : Loop) (q : Parameters) : Type 0 where
  pub known_loop : n < p.loops
  pub begins : begun_at p.execs (do_start p.execs n) ≡ Some loop
  pub are_known : parameters_in (slice_get p.execs (do_start p.execs n)) ≡ Some q
  pub step : q.step ≢ pos 0
  pub some : 1 ≤ count_of q
  pub keeps : (k : ℕ) (exec : Exec) → IsBetween p.execs n k → slice_get p.execs k ≡ Some exec → ExecWrites t exec.kind (class_of_word t (place_of p.names loop.variable)) → ⊥

-- The memory while control is in the range of such a DO: its step is the known one, its count is from 1 to the one at the beginning,
-- and its variable has been incremented once for each iteration that is over.
pub record IsUnderWay (p : Program) (n : ℕ) (loop : Loop) (q : Parameters) (m : Memory) : Type 0 where
  pub step : word_at m.steps n ≡ q.step
  pub some : 1 ≤ slice_index m.counts n
  pub most : slice_index m.counts n ≤ count_of q
  pub variable : word_at m.store (place_of p.names loop.variable) ≡ value_after q (count_of q - slice_index m.counts n)
