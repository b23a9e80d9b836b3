-- Laws on runs over lines, as statements.
use Rattle.std.specs.Prelude.{◌≡◌, ℕ, Bool, ℤ, List, All, true}
use Rattle.region_tree.specs.Tree.{Tree, IsRegionTree}
use Rattle.f77_tree.specs.declared.programs.Program.{Program}
use Rattle.op_table.specs.Words.{IsWord}
use Rattle.f77_tree.specs.Run.{Running}
use Rattle.cfg_build.specs.Flow.{flow}
use Rattle.cfg_build.specs.Passes.{passes, pass}
use Rattle.alias_classes.specs.Classes.{ClassTable}
use Rattle.dep_routing.specs.Sound.{IsSound, comes_to, DoesTrap}
use Rattle.f77_tree.specs.WellFormed.{AreExecs, IsWellFormed}
use Rattle.dep_routing.specs.Leaving.{KeepsMoving}
use Rattle.dep_routing.specs.Touches.{AreTouches}

-- a run that goes on comes again and again to nodes that are free for the line of output
abbrev pub OutputKeepsMoving : Type 0
OutputKeepsMoving = (p : Program) (c : ClassTable) (t : Tree) (touches : ℕ → ℕ → Bool) (input : List ℤ) (n : ℕ)
    → AreExecs p.names p.execs p.loops → IsRegionTree (flow p.execs).graph t → IsSound p c t touches → All IsWord input
    → (passes p input n).mark ≡ Running → KeepsMoving p t touches input n

-- where a run over data of words traps, the piece touches the line of output
abbrev pub TrapsTouchOutput : Type 0
TrapsTouchOutput = (p : Program) (c : ClassTable) (touches : ℕ → ℕ → Bool) (input : List ℤ) (n : ℕ)
    → IsWellFormed p → AreTouches p c touches → All IsWord input → (passes p input n).mark ≡ Running
    → DoesTrap (pass p input (passes p input n).edge (passes p input n).memory) → touches (comes_to p input n) 0 ≡ true

-- what firings ask of the lines that pieces touch holds of the touches of a program
abbrev pub TouchesAreSound : Type 0
TouchesAreSound = (p : Program) (c : ClassTable) (t : Tree) (touches : ℕ → ℕ → Bool)
    → IsWellFormed p → IsRegionTree (flow p.execs).graph t → AreTouches p c touches → IsSound p c t touches
