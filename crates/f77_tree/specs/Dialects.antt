-- The two dialects of arithmetic: where the result of an operation is no word, it is wrapped around in the plain dialect,
-- and traps in the checked one.
use Rattle.std.specs.Prelude.{◌≡◌, Bool, true, false, not, All}
use Rattle.op_table.specs.declared.Op.{Op}
use Rattle.op_table.specs.declared.Op.TheVariants.{Add, Sub, Mul, Neg, Abs, Pow, AddChecked, SubChecked, MulChecked, NegChecked, AbsChecked, PowChecked}
use Rattle.f77_tree.specs.declared.expressions.Expr.{Expr, Row_of-Expr, end_of-Expr, more_of-Expr}
use Rattle.f77_tree.specs.declared.expressions.Expr.TheVariants.{Const, Truth, Input, Read', Apply'}
use Rattle.f77_tree.specs.declared.programs.Exec.{Exec}
use Rattle.f77_tree.specs.declared.programs.ExecKind.{ExecKind}
use Rattle.f77_tree.specs.declared.programs.ExecKind.TheVariants.{Assign, Print, Pass, Test, Sign, Pick, DoStart, DoNext, End}
use Rattle.f77_tree.specs.declared.programs.Item.{Item}
use Rattle.f77_tree.specs.declared.programs.Item.TheVariants.{Value, Chars}
use Rattle.f77_tree.specs.declared.programs.Program.{Program}

-- ---- operators

-- an operator of the plain dialect alone
abbrev pub wraps_around : Op → Bool
wraps_around Add = true
wraps_around Sub = true
wraps_around Mul = true
wraps_around Neg = true
wraps_around Abs = true
wraps_around Pow = true
wraps_around _ = false

-- an operator of the checked dialect alone
abbrev pub is_checked : Op → Bool
is_checked AddChecked = true
is_checked SubChecked = true
is_checked MulChecked = true
is_checked NegChecked = true
is_checked AbsChecked = true
is_checked PowChecked = true
is_checked _ = false

-- an operator of a dialect: of this one alone, or of both
abbrev pub is_of_dialect : (checked : Bool) → Op → Bool
is_of_dialect true op = not (wraps_around op)
is_of_dialect false op = not (is_checked op)

-- ---- expressions and executables

abbrev mutual
  -- every operator of the expression is of the dialect
  pub HasDialect : (checked : Bool) → Expr → Type 0
  HasDialect checked (Const z) = Unit {0}
  HasDialect checked (Truth b) = Unit {0}
  HasDialect checked Input = Unit {0}
  HasDialect checked (Read' name shape subs) = HaveDialect checked subs
  HasDialect checked (Apply' op shape args) = (is_of_dialect checked op ≡ true) × HaveDialect checked args

  -- so it is in each of a row
  pub HaveDialect : {m : _} → (checked : Bool) → Row_of-Expr m → Type 0
  HaveDialect checked end_of-Expr = Unit {0}
  HaveDialect checked (more_of-Expr e rest) = HasDialect checked e × HaveDialect checked rest

abbrev pub ItemHasDialect : (checked : Bool) → Item → Type 0
ItemHasDialect checked (Value e) = HasDialect checked e
ItemHasDialect checked (Chars text) = Unit {0}

-- every operator of the executable's expressions is of the dialect
abbrev pub ExecHasDialect : (checked : Bool) → ExecKind → Type 0
ExecHasDialect checked (Assign target e next) = All (HasDialect checked) target.subs × HasDialect checked e
ExecHasDialect checked (Print items next) = All (ItemHasDialect checked) items
ExecHasDialect checked (Pass next) = Unit {0}
ExecHasDialect checked (Test cond if_true if_false) = HasDialect checked cond
ExecHasDialect checked (Sign e neg zero pos) = HasDialect checked e
ExecHasDialect checked (Pick e targets other) = HasDialect checked e
ExecHasDialect checked (DoStart loop_no var first last step body exit) = HasDialect checked first × HasDialect checked last × HasDialect checked step
ExecHasDialect checked (DoNext loop_no var body exit) = Unit {0}
ExecHasDialect checked End = Unit {0}

-- ---- programs

-- every operator of the program's expressions is of the one dialect
abbrev pub IsOfDialect : (checked : Bool) → Program → Type 0
IsOfDialect checked p = All (λ (exec : Exec). ExecHasDialect checked exec.kind) p.execs
