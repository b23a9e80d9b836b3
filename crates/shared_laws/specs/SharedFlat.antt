-- The statements of the shared form of a flat program are flat.
use Rattle.std.specs.Prelude.{ℕ, List, Option}
use Rattle.f77_tree.specs.declared.expressions.Expr.{Expr}
use Rattle.f77_tree.specs.declared.programs.Program.{Program}
use Rattle.flat_programs.specs.declared.statements.FlatLine.{FlatLine}
use Rattle.flat_programs.specs.FlatForm.{IsFlat}
use Rattle.redundancy.specs.Available.{Availability}
use Rattle.shared_forms.specs.Shared.{shared_flat}

-- Flat statements stay flat where temporaries stand for candidates, whatever numbers these have.
abbrev pub SharedStatementsAreFlat : Type 0
SharedStatementsAreFlat = (q : Program) (a : Availability) (number : Expr → Option ℕ) (flat : List FlatLine) → IsFlat flat → IsFlat (shared_flat q a number flat)
