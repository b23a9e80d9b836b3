-- What is known of units, of the program that they come to, and of a storage.
use Rattle.std.proofs.Common.{◌≡◌, ℕ, ◌+◌, ◌<◌, ◌==◌, Bool, true, false, List, find, Some, slice_get}
use Rattle.f77_tree.specs.declared.programs.Exec.{Exec}
use Rattle.f77_tree.specs.declared.programs.ExecKind.{ExecKind}
use Rattle.f77_tree.specs.declared.programs.NameInfo.{NameInfo}
use Rattle.f77_tree.specs.declared.programs.Program.{Program}
use Rattle.f77_tree.specs.declared.statements.Labelled.{Labelled}
use Rattle.f77_tree.specs.Loops.{AreLoops}
use Rattle.f77_tree.specs.Value.{ArePlaced}
use Rattle.layout_rules.specs.Executables.{beyond, first_of, increments, loops_to, met, own_executables, own_kinds}
use Rattle.layout_rules.specs.Labels.{is_executable}
use Rattle.layout_rules.specs.Source.{EndsWithEnd}
use Rattle.copied_values.specs.ChangedTables.{AreChangedTables}
use Rattle.copied_values.specs.SideBySide.{IsPairing}
use Rattle.program_units.specs.declared.entity.Entity.{Entity}
use Rattle.program_units.specs.Contexts.{IsReached}
use Rattle.program_units.specs.Copies.{Context, changes}
use Rattle.program_units.specs.Expansion.{whole_list}
use Rattle.program_units.specs.Layouts.{own_program}
use Rattle.program_units.specs.ListedCopies.{main_place}
use Rattle.program_units.specs.Storage.{placed}
use Rattle.program_units.specs.Units.{inner, is_return, standing_in, unit_at}
use Rattle.called_runs.specs.CopiedPositions.{AreCopiedLoops}
use Rattle.called_runs.specs.FramesInStep.{IsInside}
use Rattle.called_runs.proofs.CopiedOutcomes.{IsTiedStatement}
use Rattle.called_runs.proofs.Grounds.{AreLaid}

-- the executables of statements stand one after another
pub record StandInOrder (stmts : List Labelled) (names : List NameInfo) (checked : Bool) (execs : List Exec) : Type 0 where
  pub own : (place j : ℕ) (s : Labelled) (kind : ExecKind) → slice_get stmts place ≡ Some s → slice_get (own_kinds names checked stmts place (first_of stmts place) (beyond stmts place s) s.stmt) j ≡ Some kind → slice_get execs (first_of stmts place + j) ≡ Some (record { line = s.line; kind = kind })
  pub increments : (place j : ℕ) (s : Labelled) (kind : ExecKind) → slice_get stmts place ≡ Some s → slice_get (increments names stmts place (first_of stmts place + own_executables s.stmt) (loops_to stmts s.label)) j ≡ Some kind → slice_get execs (first_of stmts place + own_executables s.stmt + j) ≡ Some (record { line = s.line; kind = kind })

-- the table of a frame in a context
abbrev pub table_of : List (List Labelled) → (checked : Bool) → (spot : Entity → ℕ) → Context → List NameInfo
table_of us checked spot c = placed us spot c.unit c.arguments (own_program (unit_at us c.unit) checked).names

module _ (us : List (List Labelled)) (checked : Bool) (spot : Entity → ℕ) (p : Program) (words : ℕ) (Paired : ℕ → ℕ → Type 0) where
  -- of a context that is reached
  pub record IsGrounded (c : Context) (at : ℕ → ℕ) : Type 0 where
    pub loops : AreLoops (own_program (unit_at us c.unit) checked).execs (own_program (unit_at us c.unit) checked).loops
    pub loops_paired : IsPairing (AreCopiedLoops us (whole_list us) c at)
    pub loops_numbered : (i j : ℕ) → AreCopiedLoops us (whole_list us) c at i j → (i < (own_program (unit_at us c.unit) checked).loops) × (j < p.loops)
    pub tables : AreChangedTables (table_of us checked spot c) p.names (changes us c)
    pub placed : ArePlaced (table_of us checked spot c) words
    pub tied : (place : ℕ) (s : Labelled) → slice_get (unit_at us c.unit) place ≡ Some s → is_executable s.stmt ≡ true → IsTiedStatement Paired (table_of us checked spot c) p.names (changes us c) s.stmt
    pub execs : StandInOrder (standing_in (unit_at us c.unit)) (table_of us checked spot c) checked (own_program (unit_at us c.unit) checked).execs
    pub lines : (place : ℕ) (s : Labelled) → slice_get (unit_at us c.unit) place ≡ Some s → find (λ t. t.line == s.line) (unit_at us c.unit) ≡ Some s
    pub no_return : c.unit ≡ 0 → (place : ℕ) (s : Labelled) → slice_get (unit_at us c.unit) place ≡ Some s → is_return (inner s.stmt) ≡ false

  pub record AreRunGrounds : Type 0 where
    pub laid : AreLaid us (whole_list us)
    pub words_paired : IsPairing Paired
    pub inside : (v w : ℕ) → Paired v w → (v < words) × (w < p.words)
    pub placed : ArePlaced p.names p.words
    pub execs : StandInOrder (whole_list us) p.names checked p.execs
    pub begins : met (whole_list us) (main_place us 0) ≡ 0
    pub ended : EndsWithEnd (whole_list us)
    pub contexts : (c : Context) (at : ℕ → ℕ) → IsReached us c at → IsGrounded c at
    pub apart : (c d : Context) (at there : ℕ → ℕ) (i j k : ℕ) → IsReached us c at → IsInside us c at d there → AreCopiedLoops us (whole_list us) c at i j → AreCopiedLoops us (whole_list us) d there k j → ⊥
