-- How many operations a run takes.
use Rattle.std.proofs.Common.{◌≡◌, ℕ, zero, suc, ◌+◌, ◌*◌, ◌≤◌, Option, Some, None, refl, arith}
use Rattle.std.specs.Prelude.{slice_get}
use Rattle.f77_tree.specs.declared.programs.Exec.{Exec}
use Rattle.f77_tree.specs.declared.programs.Program.{Program}
use Rattle.f77_tree.specs.Operations.{exec_operations, most_operations}
use Rattle.f77_tree.specs.Run.{source}
use Rattle.simplified_laws.specs.InStep.{operations_in, operations_of_run, RunsTakeFewOperations}

module _ (most : (p : Program) (k : ℕ) (exec : Exec) → slice_get p.execs k ≡ Some exec → exec_operations exec.kind ≤ most_operations p) where
  one-few : (p : Program) (k : ℕ) (o : Option Exec) → slice_get p.execs k ≡ o → operations_in o ≤ most_operations p
  one-few p k None is = omega arith
  one-few p k (Some exec) is = most p k exec is

  pub runs-few : RunsTakeFewOperations
  runs-few p input zero = omega arith
  runs-few p input (suc n) =
      let m = most_operations p in
      let rest = runs-few p input n in
      let here = one-few p (source p input n).position (slice_get p.execs (source p input n).position) refl in
      sum-few (operations_of_run p input n) (operations_in (slice_get p.execs (source p input n).position)) m n rest here
    where
      sum-few : (a b m n : ℕ) → a ≤ m * n → b ≤ m → a + b ≤ m * suc n
      sum-few a b m n first second = omega (arith, first, second)
