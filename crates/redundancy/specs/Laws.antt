-- Laws on tables of available expressions.
use Rattle.f77_tree.specs.declared.programs.Program.{Program}
use Rattle.alias_classes.specs.Classes.{ClassTable, IsClasses}
use Rattle.cfg_build.specs.Joined.{FlowGraph}
use Rattle.redundancy.specs.Available.{Availability, IsAvailability, AreSameAvailability, IsAvailable}
use Rattle.std.specs.Prelude.{◌≡◌, ℕ, List, All, ℤ}
use Rattle.f77_tree.specs.declared.expressions.Expr.{Expr}
use Rattle.cfg_build.specs.Flow.{flow}
use Rattle.cfg_build.specs.Passes.{passes}
use Rattle.f77_tree.specs.WellFormed.{IsWellFormed}
use Rattle.op_table.specs.Words.{IsWord}
use Rattle.f77_tree.specs.Run.{Running}
use Rattle.redundancy.specs.Runs.{comes_to, KeepsValue}

-- Two tables of available expressions of a program tell the same, whatever table of its classes each is made over.
abbrev pub AvailabilityIsOneTable : Type 0
AvailabilityIsOneTable = (p : Program) (f : FlowGraph) (c d : ClassTable) (a b : Availability)
    → IsClasses p c → IsClasses p d → IsAvailability p f c a → IsAvailability p f d b
    → AreSameAvailability f a b

-- Where a run comes to a piece at which an expression is available, the expression has kept a value.
abbrev pub AvailableExpressionsKeepTheirValues : Type 0
AvailableExpressionsKeepTheirValues = (p : Program) (c : ClassTable) (input : List ℤ) (n : ℕ) (e : Expr)
    → IsWellFormed p → IsClasses p c → All IsWord input → (passes p input n).mark ≡ Running
    → IsAvailable p (flow p.execs) c e (comes_to p input n) → KeepsValue p input n e
