-- What is known of the units of a text, of the list that they come to, and of a copy of a unit in it.
use Rattle.std.proofs.Common.{◌≡◌, ℕ, ◌+◌, ◌<◌, Bool, true, false, ◌&&◌, ◌||◌, List, [], drop, None, Some}
use Rattle.std.specs.List.{range_with_len, slice_get}
use Rattle.f77_tree.specs.declared.programs.Exec.{Exec}
use Rattle.f77_tree.specs.declared.statements.Labelled.{Labelled}
use Rattle.layout_rules.specs.Executables.{is_do_to, loops_to}
use Rattle.layout_rules.specs.Faults.{first_line}
use Rattle.layout_rules.specs.Jumps.{end_after, is_block_if, is_end_if}
use Rattle.layout_rules.specs.Labels.{is_arm, is_labelled_twice, statement_of}
use Rattle.layout_rules.specs.Source.{IsSource}
use Rattle.program_units.specs.Units.{is_end, standing_in, unit_at}
use Rattle.program_units.specs.Widths.{labels_written}
use Rattle.program_units.specs.Copies.{Context}
use Rattle.program_units.specs.Contexts.{IsReached}
use Rattle.program_units.specs.CopiedLoops.{HasItsLoops, HaveEnds}
use Rattle.program_units.specs.ListedCopies.{StandsIn}
use Rattle.program_units.specs.OpenBlocks.{AreClosedUnits, IsEnded}
use Rattle.called_runs.proofs.ListedExecutables.{LabelsLead}

-- the statement at which an arm or a block of IF ends
pub record StopsAt (arms : Bool) (stmts : List Labelled) (place : ℕ) : Type 0 where
  pub s : Labelled
  pub is : slice_get stmts place ≡ Some s
  pub ends : (is_end_if s.stmt || (arms && is_arm s.stmt)) ≡ true

-- of one copy, or of the main program
pub record IsCopied (us : List (List Labelled)) (list : List Labelled) (c : Context) (at : ℕ → ℕ) : Type 0 where
  pub deep : 0 < c.depth
  pub stands : StandsIn us list c at
  pub loops : HasItsLoops us list c at
  pub ended : IsEnded (unit_at us c.unit)
  pub source : IsSource (standing_in (unit_at us c.unit))
  pub once : first_line is_labelled_twice (standing_in (unit_at us c.unit)) ≡ None
  pub stops : (arms : Bool) (i : ℕ) (s : Labelled) → slice_get (unit_at us c.unit) i ≡ Some s → (is_block_if s.stmt || is_arm s.stmt) ≡ true → StopsAt arms (unit_at us c.unit) (end_after arms 0 (drop (i + 1) (unit_at us c.unit)) (i + 1))
  pub open_ended : (place label : ℕ) (s t : Labelled) → slice_get (unit_at us c.unit) place ≡ Some s → is_do_to label s.stmt ≡ true → slice_get (unit_at us c.unit) (statement_of (unit_at us c.unit) label) ≡ Some t → is_end t.stmt ≡ false
  pub execs : List Exec
  pub leads : LabelsLead (standing_in (unit_at us c.unit)) execs

pub record AreLaid (us : List (List Labelled)) (list : List Labelled) : Type 0 where
  pub closed : AreClosedUnits us
  pub have : HaveEnds us
  pub count : ℕ
  pub rows : labels_written list ≡ range_with_len 1 count
  pub nought : loops_to list 0 ≡ []
  pub execs : List Exec
  pub leads : LabelsLead list execs
  pub copied : (c : Context) (at : ℕ → ℕ) → IsReached us c at → IsCopied us list c at
