-- What is known of an expression before the program runs: its value, and whether it can trap.
use Rattle.std.specs.Prelude.{◌≡◌, ℤ, ◌≤ℤ◌, Result, Ok, List, [], ◌∷◌, Option, Some, None, ◌⊎◌, Any}
use Rattle.op_table.specs.declared.Op.TheVariants.{Bound, Step}
use Rattle.op_table.specs.declared.Trap.{Trap}
use Rattle.op_table.specs.Words.{truth}
use Rattle.op_table.specs.Known.{folded, CanTrap}
use Rattle.f77_tree.specs.declared.declarations.Dim.{Dim}
use Rattle.f77_tree.specs.declared.expressions.Access.{Access}
use Rattle.f77_tree.specs.declared.expressions.Expr.{Expr, Row_of-Expr, end_of-Expr, more_of-Expr}
use Rattle.f77_tree.specs.declared.expressions.Expr.TheVariants.{Const, Truth, Input, Read, Read', Apply'}
use Rattle.f77_tree.specs.declared.programs.ExecKind.{ExecKind}
use Rattle.f77_tree.specs.declared.programs.ExecKind.TheVariants.{Assign, Print, Pass, Test, Sign, Pick, DoStart, DoNext, End}
use Rattle.f77_tree.specs.declared.programs.Item.{Item}
use Rattle.f77_tree.specs.declared.programs.Item.TheVariants.{Value, Chars}
use Rattle.f77_tree.specs.declared.programs.NameInfo.{NameInfo}
use Rattle.f77_tree.specs.Value.{dims_of}

abbrev mutual
  -- the known value: a constant's, or an operator's where the values of all its operands are known and it does not trap
  -- at them; nothing is known of what is read
  pub known : Expr → Option ℤ
  known (Const z) = Some z
  known (Truth b) = Some (truth b)
  known Input = None
  known (Read' name shape subs) = None
  known (Apply' op shape args) = folded op (row_known args)

  pub row_known : {m : _} → Row_of-Expr m → List (Option ℤ)
  row_known end_of-Expr = []
  row_known (more_of-Expr e rest) = known e ∷ row_known rest

-- the subscript may lie outside the bounds of its dimension
abbrev pub MayLieOutside : Dim → Expr → Type 0
MayLieOutside dim sub = CanTrap Bound (known sub ∷ Some dim.lo ∷ Some dim.hi ∷ [])

-- ---- what can trap, where some subscripts are excepted: they are seen by other means to have values within the bounds of
-- their dimensions, and nothing in them counts

-- a subscript has a value within the bounds of its dimension
pub record IsInBounds (dim : Dim) (r : Result ℤ Trap) : Type 0 where
  pub result : ℤ
  pub is : r ≡ Ok result
  pub lower : dim.lo ≤ℤ result
  pub upper : result ≤ℤ dim.hi

-- a subscript that isn't excepted can trap, or may lie outside its bounds
abbrev pub SubscriptMayTrap : (Expr → Dim → Type 0) → Dim → (sub : Expr) → (trap : Type 0) → Type 0
SubscriptMayTrap excepted dim sub trap = (excepted sub dim → ⊥) × (trap ⊎ MayLieOutside dim sub)

abbrev mutual
  -- something in the expression can trap, given what is known of its operands: an operator, a subscript at its bounds,
  -- or the end of the data
  pub MayTrapBut : (Expr → Dim → Type 0) → List NameInfo → Expr → Type 0
  MayTrapBut excepted names (Const z) = ⊥
  MayTrapBut excepted names (Truth b) = ⊥
  MayTrapBut excepted names Input = Unit {0}
  MayTrapBut excepted names (Read' name shape subs) = SubscriptsMayTrap excepted names (dims_of names name) subs
  MayTrapBut excepted names (Apply' op shape args) = SomeMayTrap excepted names args ⊎ CanTrap op (row_known args)

  pub SomeMayTrap : {m : _} → (Expr → Dim → Type 0) → List NameInfo → Row_of-Expr m → Type 0
  SomeMayTrap excepted names end_of-Expr = ⊥
  SomeMayTrap excepted names (more_of-Expr e rest) = MayTrapBut excepted names e ⊎ SomeMayTrap excepted names rest

  -- something in the subscripts of these dimensions can trap
  pub SubscriptsMayTrap : {m : _} → (Expr → Dim → Type 0) → List NameInfo → List Dim → Row_of-Expr m → Type 0
  SubscriptsMayTrap excepted names dims end_of-Expr = ⊥
  SubscriptsMayTrap excepted names [] (more_of-Expr e rest) = MayTrapBut excepted names e ⊎ SubscriptsMayTrap excepted names [] rest
  SubscriptsMayTrap excepted names (dim ∷ dims) (more_of-Expr e rest) = SubscriptMayTrap excepted dim e (MayTrapBut excepted names e) ⊎ SubscriptsMayTrap excepted names dims rest

-- something in an access can trap: in a subscript, or at the bounds of one
abbrev pub AccessMayTrapBut : (Expr → Dim → Type 0) → List NameInfo → Access → Type 0
AccessMayTrapBut excepted names access = MayTrapBut excepted names (Read access)

abbrev pub ItemMayTrapBut : (Expr → Dim → Type 0) → List NameInfo → Item → Type 0
ItemMayTrapBut excepted names (Value e) = MayTrapBut excepted names e
ItemMayTrapBut excepted names (Chars text) = ⊥

-- something in an executable can trap; a DO can trap also where its step may be 0
abbrev pub ExecMayTrapBut : (Expr → Dim → Type 0) → List NameInfo → ExecKind → Type 0
ExecMayTrapBut excepted names (Assign target e next) = AccessMayTrapBut excepted names target ⊎ MayTrapBut excepted names e
ExecMayTrapBut excepted names (Print items next) = Any (ItemMayTrapBut excepted names) items
ExecMayTrapBut excepted names (Pass next) = ⊥
ExecMayTrapBut excepted names (Test cond on_true on_false) = MayTrapBut excepted names cond
ExecMayTrapBut excepted names (Sign e neg zero pos) = MayTrapBut excepted names e
ExecMayTrapBut excepted names (Pick e targets other) = MayTrapBut excepted names e
ExecMayTrapBut excepted names (DoStart loop_no var first last step body exit) = MayTrapBut excepted names first ⊎ (MayTrapBut excepted names last ⊎ (MayTrapBut excepted names step ⊎ CanTrap Step (known step ∷ [])))
ExecMayTrapBut excepted names (DoNext loop_no var body exit) = ⊥
ExecMayTrapBut excepted names End = ⊥

-- ---- what can trap, where none is excepted

abbrev pub none : Expr → Dim → Type 0
none sub dim = ⊥

abbrev pub MayTrap : List NameInfo → Expr → Type 0
MayTrap names e = MayTrapBut none names e

abbrev pub AccessMayTrap : List NameInfo → Access → Type 0
AccessMayTrap names access = AccessMayTrapBut none names access

abbrev pub ItemMayTrap : List NameInfo → Item → Type 0
ItemMayTrap names item = ItemMayTrapBut none names item

abbrev pub ExecMayTrap : List NameInfo → ExecKind → Type 0
ExecMayTrap names kind = ExecMayTrapBut none names kind
