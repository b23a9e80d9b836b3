-- What is known to trap before a program runs: an operator whose operands all have known values, at which it traps.
use Rattle.std.specs.Prelude.{◌≡◌, ℕ, ℤ, ◌⊎◌, List, [], ◌∷◌, Option, Some, IsErr, Any}
use Rattle.op_table.specs.declared.Op.{Op}
use Rattle.op_table.specs.declared.Op.TheVariants.{Bound, Step}
use Rattle.op_table.specs.Known.{all_known}
use Rattle.op_table.specs.Operators.{applied}
use Rattle.f77_tree.specs.declared.declarations.Dim.{Dim}
use Rattle.f77_tree.specs.declared.expressions.Access.{Access}
use Rattle.f77_tree.specs.declared.expressions.Expr.{Expr, Row_of-Expr, end_of-Expr, more_of-Expr}
use Rattle.f77_tree.specs.declared.expressions.Expr.TheVariants.{Const, Truth, Input, Read, Read', Apply'}
use Rattle.f77_tree.specs.declared.programs.ExecKind.{ExecKind}
use Rattle.f77_tree.specs.declared.programs.ExecKind.TheVariants.{Assign, Print, Pass as Passing, Test, Sign, Pick, DoStart, DoNext, End as Ending}
use Rattle.f77_tree.specs.declared.programs.Item.{Item}
use Rattle.f77_tree.specs.declared.programs.Item.TheVariants.{Value, Chars}
use Rattle.f77_tree.specs.declared.programs.NameInfo.{NameInfo}
use Rattle.f77_tree.specs.declared.programs.Program.{Program}
use Rattle.f77_tree.specs.Known.{known, row_known}
use Rattle.f77_tree.specs.Value.{dims_of}
use Rattle.cfg_build.specs.declared.pieces.PieceKind.{PieceKind}
use Rattle.cfg_build.specs.declared.pieces.PieceKind.TheVariants.{Act, Branch}
use Rattle.dep_routing.specs.Touches.{BranchTraps, exec_kind, piece_kind}

-- all operands are known, and the operator traps at them
pub record TrapsAt (op : Op) (operands : List (Option ℤ)) : Type 0 where
  pub args : List ℤ
  pub are_known : all_known operands ≡ Some args
  pub traps : IsErr (applied op args)

-- a subscript is known to lie outside the bounds of its dimension
abbrev pub IsKnownOutside : Dim → Expr → Type 0
IsKnownOutside dim sub = TrapsAt Bound (known sub ∷ Some dim.lo ∷ Some dim.hi ∷ [])

abbrev mutual
  -- something in the expression is known to trap: an operator, or a subscript at its bounds
  pub IsKnownToTrap : List NameInfo → Expr → Type 0
  IsKnownToTrap names (Const z) = ⊥
  IsKnownToTrap names (Truth b) = ⊥
  IsKnownToTrap names Input = ⊥
  IsKnownToTrap names (Read' name shape subs) = SubscriptsKnownToTrap names (dims_of names name) subs
  IsKnownToTrap names (Apply' op shape args) = SomeKnownToTrap names args ⊎ TrapsAt op (row_known args)

  pub SomeKnownToTrap : {m : _} → List NameInfo → Row_of-Expr m → Type 0
  SomeKnownToTrap names end_of-Expr = ⊥
  SomeKnownToTrap names (more_of-Expr e rest) = IsKnownToTrap names e ⊎ SomeKnownToTrap names rest

  -- something in the subscripts of these dimensions
  pub SubscriptsKnownToTrap : {m : _} → List NameInfo → List Dim → Row_of-Expr m → Type 0
  SubscriptsKnownToTrap names dims end_of-Expr = ⊥
  SubscriptsKnownToTrap names [] (more_of-Expr e rest) = IsKnownToTrap names e ⊎ SubscriptsKnownToTrap names [] rest
  SubscriptsKnownToTrap names (dim ∷ dims) (more_of-Expr e rest) = (IsKnownToTrap names e ⊎ IsKnownOutside dim e) ⊎ SubscriptsKnownToTrap names dims rest

abbrev pub AccessKnownToTrap : List NameInfo → Access → Type 0
AccessKnownToTrap names access = IsKnownToTrap names (Read access)

abbrev pub ItemKnownToTrap : List NameInfo → Item → Type 0
ItemKnownToTrap names (Value e) = IsKnownToTrap names e
ItemKnownToTrap names (Chars text) = ⊥

-- something in an executable is known to trap; of a DO also the step, where it is known to be 0
abbrev pub ExecKnownToTrap : List NameInfo → ExecKind → Type 0
ExecKnownToTrap names (Assign target e next) = AccessKnownToTrap names target ⊎ IsKnownToTrap names e
ExecKnownToTrap names (Print items next) = Any (ItemKnownToTrap names) items
ExecKnownToTrap names (Passing next) = ⊥
ExecKnownToTrap names (Test cond on_true on_false) = IsKnownToTrap names cond
ExecKnownToTrap names (Sign e neg zero pos) = IsKnownToTrap names e
ExecKnownToTrap names (Pick e targets other) = IsKnownToTrap names e
ExecKnownToTrap names (DoStart loop_no var first last step body exit) = IsKnownToTrap names first ⊎ (IsKnownToTrap names last ⊎ (IsKnownToTrap names step ⊎ TrapsAt Step (known step ∷ [])))
ExecKnownToTrap names (DoNext loop_no var body exit) = ⊥
ExecKnownToTrap names Ending = ⊥

-- so of a piece: of an act, and of a branch but the test of a DO, which only looks at the count
abbrev pub KindKnownToTrap : List NameInfo → PieceKind → ExecKind → Type 0
KindKnownToTrap names Act kind = ExecKnownToTrap names kind
KindKnownToTrap names Branch kind = BranchTraps (ExecKnownToTrap names kind) kind
KindKnownToTrap names _ kind = ⊥

abbrev pub PieceKnownToTrap : Program → (node : ℕ) → Type 0
PieceKnownToTrap p node = KindKnownToTrap p.names (piece_kind p node) (exec_kind p node)
