-- Statements that trap whenever they are executed.
use Rattle.std.specs.Prelude.{◌≡◌, ◌==◌, ℕ, suc, ℤ, ⊤, List, [], ◌∷◌, ◌++◌, if◌then◌else◌, Option, Some, None, IsErr, slice_get}
use Rattle.std.specs.List.{list_any}
use Rattle.op_table.specs.declared.Trap.{Trap}
use Rattle.f77_tree.specs.declared.expressions.Expr.{Expr, Row_of-Expr, end_of-Expr, more_of-Expr}
use Rattle.f77_tree.specs.declared.expressions.Expr.TheVariants.{Const, Truth, Input, Read', Apply'}
use Rattle.f77_tree.specs.declared.programs.Exec.{Exec}
use Rattle.f77_tree.specs.declared.programs.ExecKind.{ExecKind}
use Rattle.f77_tree.specs.declared.programs.NameInfo.{NameInfo}
use Rattle.f77_tree.specs.declared.programs.Program.{Program}
use Rattle.f77_tree.specs.Execution.{Memory, Outcome, Goes, Stops, Ends, outcome}
use Rattle.f77_tree.specs.Run.{Running, Trapped, source}
use Rattle.f77_tree.specs.Value.{value}
use Rattle.sure_traps.specs.Causes.{cause_of}
use Rattle.sure_traps.specs.declared.causes.Cause.{Cause}
use Rattle.sure_traps.specs.declared.causes.SureTrap.{SureTrap}

-- ---- what is sure

-- the expression has no value, whatever the words of the store and the next word of the data
abbrev pub ExpressionTraps : List NameInfo → Expr → Type 0
ExpressionTraps names e = (store : List ℤ) (next : Option ℤ) → IsErr (value names store next e)

abbrev pub IsStop : Outcome → Type 0
IsStop (Goes next memory text) = ⊥
IsStop (Stops trap) = ⊤
IsStop Ends = ⊥

-- the executable traps, whatever the data and the memory
abbrev pub ExecutableTraps : List NameInfo → ExecKind → Type 0
ExecutableTraps names kind = (input : List ℤ) (m : Memory) → IsStop (outcome names input m kind)

-- a run that comes to an executable of this line traps there at its next step
pub record TrapsNext (p : Program) (input : List ℤ) (n line : ℕ) : Type 0 where
  pub trap : Trap
  pub is : (source p input (suc n)).mark ≡ Trapped trap line

-- each run that comes to this executable of the program traps there
pub record IsSure (p : Program) (trap : SureTrap) : Type 0 where
  pub place : ℕ
  pub exec : Exec
  pub stands : slice_get p.execs place ≡ Some exec
  pub at_line : exec.line ≡ trap.line
  pub traps : (input : List ℤ) (n : ℕ) → (source p input n).mark ≡ Running → (source p input n).position ≡ place → TrapsNext p input n trap.line

-- ---- what is told

-- one more, where none of its line was told before
abbrev pub with_trap : List SureTrap → (line : ℕ) → Option Cause → List SureTrap
with_trap told line None = told
with_trap told line (Some cause) = if list_any (λ trap. trap.line == line) told then told else told ++ record { line = line; cause = cause } ∷ []

abbrev pub traps_among : List NameInfo → List SureTrap → List Exec → List SureTrap
traps_among names told [] = told
traps_among names told (exec ∷ execs) = traps_among names (with_trap told exec.line (cause_of names exec.kind)) execs

-- the first of each line
abbrev pub traps_of : Program → List SureTrap
traps_of p = traps_among p.names [] p.execs

-- ---- constants

abbrev mutual
  -- nothing in the expression depends on the store or on the data
  pub IsConstant : Expr → Type 0
  IsConstant (Const z) = ⊤
  IsConstant (Truth b) = ⊤
  IsConstant Input = ⊥
  IsConstant (Read' name shape subs) = ⊥
  IsConstant (Apply' op shape args) = AreConstant args

  pub AreConstant : {m : _} → Row_of-Expr m → Type 0
  AreConstant end_of-Expr = ⊤
  AreConstant (more_of-Expr e rest) = IsConstant e × AreConstant rest
