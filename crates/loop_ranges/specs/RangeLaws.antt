-- Laws on the ranges of DOs and on subscripts, as statements.
use Rattle.std.specs.Prelude.{ℕ, ℤ, List, Option, Some, ◌≡◌, slice_get, All}
use Rattle.f77_tree.specs.declared.programs.Program.{Program}
use Rattle.f77_tree.specs.Loops.{Loop, InRange}
use Rattle.alias_classes.specs.Classes.{ClassTable, IsClasses}
use Rattle.loop_ranges.specs.Plain.{Parameters, IsPlain, IsUnderWay}
use Rattle.f77_tree.specs.Run.{source}
use Rattle.f77_tree.specs.WellFormed.{IsWellFormed}
use Rattle.f77_tree.specs.declared.expressions.Expr.{Expr}
use Rattle.f77_tree.specs.declared.declarations.Dim.{Dim}
use Rattle.f77_tree.specs.Known.{IsInBounds, ExecMayTrapBut}
use Rattle.f77_tree.specs.Value.{value}
use Rattle.loop_ranges.specs.Seen.{IsSeenInRange}
use Rattle.f77_tree.specs.declared.programs.Exec.{Exec}
use Rattle.op_table.specs.Words.{IsWord}
use Rattle.f77_tree.specs.Execution.{outcome}
use Rattle.f77_tree.specs.Steps.{DoesNotTrap}

-- while control is in the range of a plain DO, the variable of the DO has the value that the number of iterations gives
abbrev pub PlainLoopsAreUnderWay : Type 0
PlainLoopsAreUnderWay = (p : Program) (t : ClassTable) (input : List ℤ) (steps n : ℕ) (loop : Loop) (q : Parameters)
    → IsWellFormed p → IsClasses p t → IsPlain p t n loop q → InRange p.execs n (source p input steps).position
    → IsUnderWay p n loop q (source p input steps).memory

-- a subscript that is seen in range has a value within the bounds of its dimension
abbrev pub SeenSubscriptsAreInBounds : Type 0
SeenSubscriptsAreInBounds = (p : Program) (t : ClassTable) (input : List ℤ) (steps : ℕ) (next : Option ℤ) (sub : Expr) (dim : Dim)
    → IsWellFormed p → IsClasses p t → IsSeenInRange p t (source p input steps).position sub dim
    → IsInBounds dim (value p.names (source p input steps).memory.store next sub)

-- an executable that can't trap but in such subscripts doesn't trap
abbrev pub SeenSubscriptsDoNotTrap : Type 0
SeenSubscriptsDoNotTrap = (p : Program) (t : ClassTable) (input : List ℤ) (steps : ℕ) (exec : Exec)
    → IsWellFormed p → IsClasses p t → All IsWord input → slice_get p.execs (source p input steps).position ≡ Some exec
    → (ExecMayTrapBut (IsSeenInRange p t (source p input steps).position) p.names exec.kind → ⊥)
    → DoesNotTrap (outcome p.names input (source p input steps).memory exec.kind)
