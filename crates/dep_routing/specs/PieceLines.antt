-- The lines in a set. No public clause cites this module.
use Rattle.std.proofs.Common.{suc}
use Rattle.std.specs.Prelude.{◌≡◌, ℕ, ◌<◌, ◌↔◌, ◌⊎◌, Bool, true, List, length, slice_get}
use Rattle.class_set.specs.ClassSet.{holds}
use Rattle.class_set.specs.declared.ClassSet.{ClassSet}
use Rattle.f77_tree.specs.declared.programs.ExecKind.{ExecKind}
use Rattle.f77_tree.specs.declared.programs.Program.{Program}
use Rattle.f77_tree.specs.Touched.{ExecReadsData}
use Rattle.alias_classes.specs.Classes.{ClassTable}
use Rattle.cfg_build.specs.declared.pieces.Piece.{Piece}
use Rattle.cfg_build.specs.declared.pieces.PieceKind.{PieceKind}
use Rattle.cfg_build.specs.declared.pieces.PieceKind.TheVariants.{Act, Branch, Hold}
use Rattle.dep_routing.specs.Touch.{touches_in}
use Rattle.dep_routing.specs.Touches.{BranchNeeds, BranchTraps, Prints, TouchesBy, KindNeeds}
use Rattle.cfg_build.specs.Passes.{kind_in}

module _ {W : ℕ} where
  -- the set holds the line of output where `out` says so, and the classes that are needed
  pub record AreLines (set : ClassSet W) (out : Type 0) (needs : ℕ → Type 0) : Type 0 where
    pub output : (holds set 0 ≡ true) ↔ out
    pub classes : (n : ℕ) → (holds set (suc n) ≡ true) ↔ needs (suc n)

  -- the sets tell which lines the pieces below a number touch
  abbrev pub TellBelow : Program → ClassTable → (may : ℕ → Type 0) → List (ClassSet W) → (k : ℕ) → Type 0
  TellBelow p c may sets k = (node line : ℕ) → node < k → (touches_in sets node line ≡ true) ↔ TouchesBy p c may node line

-- why a branch touches the line of output, where it is told whether its executable may trap, and whether the branch lies on a cycle that
-- a run may go round for ever
abbrev pub BranchNeedsOut : ClassTable → (may : Type 0) → ExecKind → (round : Bool) → Type 0
BranchNeedsOut c may kind round = BranchTraps may kind ⊎ ((round ≡ true) ⊎ ((n : ℕ) → BranchNeeds c kind n → ⊥))

-- why a piece touches the line of output, where it is told the same
abbrev pub KindNeedsOutIf : ClassTable → (may : Type 0) → (round : Bool) → PieceKind → ExecKind → Type 0
KindNeedsOutIf c may round Act kind = Prints kind ⊎ (ExecReadsData kind ⊎ may)
KindNeedsOutIf c may round Branch kind = BranchNeedsOut c may kind round
KindNeedsOutIf c may round Hold kind = Unit {0}
KindNeedsOutIf c may round _ kind = ⊥

-- an act or a branch has its executable in the program
abbrev pub HasExecutable : Program → PieceKind → (exec : ℕ) → Type 0
HasExecutable p Act exec = exec < length p.execs
HasExecutable p Branch exec = exec < length p.execs
HasExecutable p _ exec = Unit {0}

abbrev pub RunsExecutable : Program → Piece → Type 0
RunsExecutable p piece = HasExecutable p piece.kind piece.exec

-- the lines that a piece touches, of which it is told whether it may go round for ever, and whether its executable may trap
abbrev pub AreLinesOf : {W : ℕ} → Program → ClassTable → Piece → (round may : Bool) → ClassSet W → Type 0
AreLinesOf p c piece round may lines =
    let exec = kind_in (slice_get p.execs piece.exec) in
    AreLines lines (KindNeedsOutIf c (may ≡ true) round piece.kind exec) (KindNeeds c piece.kind exec)
