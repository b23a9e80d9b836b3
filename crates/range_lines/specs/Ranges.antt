-- What is told of the subscripts of a program.
use Rattle.std.specs.Prelude.{◌≡◌, ℕ, ◌<◌, ◌≤◌, ◌↔◌, Bool, true, false, List, [], length, Option, Some, slice_get, slice_set, slice_index_or}
use Rattle.f77_tree.specs.declared.programs.Exec.{Exec}
use Rattle.f77_tree.specs.declared.programs.ExecKind.{ExecKind}
use Rattle.f77_tree.specs.declared.programs.ExecKind.TheVariants.{DoStart}
use Rattle.f77_tree.specs.declared.programs.Program.{Program}
use Rattle.f77_tree.specs.Loops.{Loop, do_start, do_next}
use Rattle.alias_classes.specs.Classes.{ClassTable}
use Rattle.loop_ranges.specs.Plain.{Parameters, IsPlain}
use Rattle.loop_ranges.specs.Seen.{IsSeenInRange}
use Rattle.loop_ranges.specs.Subscripts.{Subscript, subscripts_of}
use Rattle.range_lines.specs.declared.reaches.Reach.{Reach}
use Rattle.range_lines.specs.Reaches.{reach_of}

-- ---- the reaches of names

-- the reach of the DO that an executable begins is that of its variable
abbrev pub after_exec : ExecKind → Option Reach → List (Option Reach) → List (Option Reach)
after_exec (DoStart loop_no var first last step body exit) reach current = slice_set current var reach
after_exec _ reach current = current

-- a plain DO with this variable that begins before the executable k, and its reach
pub record BeginsBefore (p : Program) (t : ClassTable) (k variable : ℕ) (reach : Reach) : Type 0 where
  pub number : ℕ
  pub loop : Loop
  pub parameters : Parameters
  pub plain : IsPlain p t number loop parameters
  pub is_variable : loop.variable ≡ variable
  pub before : do_start p.execs number < k
  pub is : reach ≡ reach_of p number parameters

-- The reach of a name is that of a plain DO which begins before the executable k. Each plain DO in whose range k lies is the one of
-- its variable.
pub record IsCurrent (p : Program) (t : ClassTable) (k : ℕ) (current : List (Option Reach)) : Type 0 where
  pub each : length current ≡ length p.names
  pub sound : (variable : ℕ) (reach : Reach) → slice_get current variable ≡ Some (Some reach) → BeginsBefore p t k variable reach
  pub whole : (n : ℕ) (loop : Loop) (q : Parameters) → IsPlain p t n loop q → do_start p.execs n < k → k ≤ do_next p.execs n → slice_get current loop.variable ≡ Some (Some (reach_of p n q))

-- ---- rows

-- a mark for each subscript of the executable k, which tells whether it is seen in range
pub record IsRow (p : Program) (t : ClassTable) (k : ℕ) (exec : Exec) (row : List Bool) : Type 0 where
  pub as_many : length row ≡ length (subscripts_of p.names exec.kind)
  pub right : (j : ℕ) (s : Subscript) → slice_get (subscripts_of p.names exec.kind) j ≡ Some s → (slice_index_or row j false ≡ true) ↔ IsSeenInRange p t k s.sub s.dim

-- such a row for each executable of the program
pub record AreRanges (p : Program) (t : ClassTable) (rows : List (List Bool)) : Type 0 where
  pub each : length rows ≡ length p.execs
  pub right : (k : ℕ) (exec : Exec) → slice_get p.execs k ≡ Some exec → IsRow p t k exec (slice_index_or rows k [])
