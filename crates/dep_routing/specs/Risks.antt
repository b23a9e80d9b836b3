-- Which executables may trap, as a premise of what touches tell.
use Rattle.std.specs.Prelude.{◌≡◌, ℕ, ℤ, Bool, List, All, slice_get}
use Rattle.op_table.specs.Words.{IsWord}
use Rattle.f77_tree.specs.declared.programs.ExecKind.{ExecKind}
use Rattle.f77_tree.specs.declared.programs.Program.{Program}
use Rattle.f77_tree.specs.Execution.{outcome}
use Rattle.f77_tree.specs.Run.{Running, State, source}
use Rattle.f77_tree.specs.Steps.{DoesNotTrap}
use Rattle.f77_tree.specs.WellFormed.{IsWellFormed}
use Rattle.alias_classes.specs.Classes.{ClassTable}
use Rattle.cfg_build.specs.Flow.{flow}
use Rattle.cfg_build.specs.Passes.{kind_in}
use Rattle.region_tree.specs.Tree.{Tree, IsRegionTree}
use Rattle.dep_routing.specs.KnownTraps.{ExecKnownToTrap}
use Rattle.dep_routing.specs.Leaving.{MarksTraps}
use Rattle.dep_routing.specs.Sound.{IsSound}
use Rattle.dep_routing.specs.Touches.{AreTouchesBy, CanTrapAt, IsFlagged}

-- the executable with this number
abbrev pub kind_of_exec : Program → (k : ℕ) → ExecKind
kind_of_exec p k = kind_in (slice_get p.execs k)

-- the executable at which a run is doesn't trap there
abbrev pub StepDoesNotTrap : Program → List ℤ → State → Type 0
StepDoesNotTrap p input x = DoesNotTrap (outcome p.names input x.memory (kind_of_exec p x.position))

-- Only executables that can trap by their text may trap, and those that are known to trap may. In a run over words, one that may not
-- trap doesn't.
pub record AreRisks (p : Program) (may : ℕ → Type 0) : Type 0 where
  pub sound : (k : ℕ) → may k → CanTrapAt p k
  pub known : (k : ℕ) → ExecKnownToTrap p.names (kind_of_exec p k) → may k
  pub whole : (input : List ℤ) (n : ℕ) → All IsWord input → (source p input n).mark ≡ Running → (may (source p input n).position → ⊥) → StepDoesNotTrap p input (source p input n)

-- ---- what touches by such risks give, where flags tell them

-- a piece touches the line of output where a run traps
abbrev pub RisksMarkTraps : Type 0
RisksMarkTraps = (p : Program) (c : ClassTable) (flags : List Bool) (touches : ℕ → ℕ → Bool)
    → IsWellFormed p → AreTouchesBy p c (IsFlagged flags) touches → AreRisks p (IsFlagged flags) → MarksTraps p touches

-- the touches are sound
abbrev pub RisksAreSound : Type 0
RisksAreSound = (p : Program) (c : ClassTable) (flags : List Bool) (t : Tree) (touches : ℕ → ℕ → Bool)
    → IsWellFormed p → IsRegionTree (flow p.execs).graph t → AreTouchesBy p c (IsFlagged flags) touches → AreRisks p (IsFlagged flags) → IsSound p c t touches
