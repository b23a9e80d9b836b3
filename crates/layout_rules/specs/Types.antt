-- Kinds of expressions as they are read, over what the program declares (ANSI X3.9-1978, sections 4, 6, 10, 11 and 15.10).
use Rattle.std.specs.Prelude.{ℕ, ◌+◌, Bool, true, false, not, if◌then◌else◌, ◌&&◌, ◌||◌, nat_lt, ◌==◌, List, [], ◌∷◌, length, Option, Some, None, bytes_eq, codes}
use Rattle.std.specs.List.{list_any, list_all}
use Rattle.std.specs.Option.{is_some}
use Rattle.op_table.specs.declared.Op.{Op}
use Rattle.op_table.specs.declared.Op.TheVariants.{Mod, Abs, Sign, Max, Min}
use Rattle.f77_tree.specs.declared.declarations.Kind.{Kind}
use Rattle.f77_tree.specs.declared.declarations.Kind.TheVariants.{Integer, Logical}
use Rattle.f77_tree.specs.declared.declarations.Dim.{Dim}
use Rattle.f77_tree.specs.declared.statements.RawExpr.{RawExpr, Row_of-RawExpr, end_of-RawExpr, more_of-RawExpr}
use Rattle.f77_tree.specs.declared.statements.RawExpr.TheVariants.{Int, Truth, Named, Call', Apply'}
use Rattle.f77_tree.specs.declared.statements.RawItem.{RawItem}
use Rattle.f77_tree.specs.declared.statements.RawItem.TheVariants.{Value, Chars}
use Rattle.f77_tree.specs.declared.statements.Stmt.{Stmt, more_of-Stmt}
use Rattle.f77_tree.specs.declared.statements.Stmt.TheVariants.{Assign, Print, Take, PickGoTo, SignIf, ThenIf', BlockIf, ElseIf, Do}
use Rattle.f77_tree.specs.declared.programs.NameInfo.{NameInfo}
use Rattle.f77_tree.specs.Value.{kind_of, dims_of}
use Rattle.f77_tree.specs.Declarations.{index_of}
use Rattle.f77_tree.specs.Kinds.{operand_kind}
use Rattle.f77_tree.specs.Line.{kind_of_op}

-- ---- intrinsic functions

pub record Intrinsic : Type 0 where
  pub name : List ℕ
  pub op : Op
  -- it takes so many arguments, or, where it takes a list of them, so many and more
  pub arguments : ℕ
  pub list : Bool

abbrev pub intrinsics : List Intrinsic
intrinsics =
    record { name = codes "MOD"; op = Mod; arguments = 2; list = false } ∷
    record { name = codes "ABS"; op = Abs; arguments = 1; list = false } ∷
    record { name = codes "IABS"; op = Abs; arguments = 1; list = false } ∷
    record { name = codes "SIGN"; op = Sign; arguments = 2; list = false } ∷
    record { name = codes "ISIGN"; op = Sign; arguments = 2; list = false } ∷
    record { name = codes "MAX"; op = Max; arguments = 2; list = true } ∷
    record { name = codes "MAX0"; op = Max; arguments = 2; list = true } ∷
    record { name = codes "MIN"; op = Min; arguments = 2; list = true } ∷
    record { name = codes "MIN0"; op = Min; arguments = 2; list = true } ∷ []

abbrev pub is_intrinsic : List ℕ → Bool
is_intrinsic name = list_any (λ f. bytes_eq f.name name) intrinsics

-- an intrinsic function of this name takes so many arguments
abbrev pub takes : List ℕ → ℕ → Bool
takes name count = list_any (λ f. bytes_eq f.name name && (f.arguments == count || (f.list && nat_lt f.arguments count))) intrinsics

-- ---- names, over the table of names; one that isn't in it is an integer scalar

abbrev pub dims_named : List NameInfo → List ℕ → List Dim
dims_named names name = dims_of names (index_of names name)

abbrev pub kind_named : List NameInfo → List ℕ → Kind
kind_named names name = kind_of names (index_of names name)

-- a name with dimensions
abbrev pub is_array_in : List NameInfo → List ℕ → Bool
is_array_in names name = nat_lt 0 (length (dims_named names name))

-- ---- kinds

abbrev pub is_kind : Kind → Option Kind → Bool
is_kind Integer (Some Integer) = true
is_kind Logical (Some Logical) = true
is_kind _ _ = false

abbrev pub count_of_row : {m : _} → Row_of-RawExpr m → ℕ
count_of_row end_of-RawExpr = 0
count_of_row (more_of-RawExpr e rest) = 1 + count_of_row rest

-- an array has as many subscripts as dimensions; another name is that of an intrinsic function
abbrev pub kind_of_call : List NameInfo → List ℕ → ℕ → Option Kind
kind_of_call names name count =
    if is_array_in names name then (if length (dims_named names name) == count then Some (kind_named names name) else None)
    else if takes name count then Some Integer
    else None

abbrev mutual
  -- the kind of an expression, or none where an operand, a subscript or an argument is wrong
  pub kind_in : List NameInfo → RawExpr → Option Kind
  kind_in names (Int z) = Some Integer
  kind_in names (Truth b) = Some Logical
  kind_in names (Named name) = if is_array_in names name then None else Some (kind_named names name)
  kind_in names (Call' name shape args) = if is_row_of names Integer args then kind_of_call names name (count_of_row args) else None
  kind_in names (Apply' op shape args) = if is_row_of names (operand_kind op) args then Some (kind_of_op op) else None

  pub is_row_of : {m : _} → List NameInfo → Kind → Row_of-RawExpr m → Bool
  is_row_of names kind end_of-RawExpr = true
  is_row_of names kind (more_of-RawExpr e rest) = is_kind kind (kind_in names e) && is_row_of names kind rest

abbrev pub is_of_kind : List NameInfo → Kind → RawExpr → Bool
is_of_kind names kind e = is_kind kind (kind_in names e)

-- ---- statements

-- a variable or an element of an array can be given a value
abbrev pub is_variable : List NameInfo → RawExpr → Bool
is_variable names (Named name) = true
is_variable names (Call' name shape args) = is_array_in names name
is_variable names _ = false

abbrev pub is_target : List NameInfo → RawExpr → Bool
is_target names e = is_variable names e && is_some (kind_in names e)

abbrev pub is_item : List NameInfo → RawItem → Bool
is_item names (Value e) = is_some (kind_in names e)
is_item names (Chars text) = true

abbrev pub is_step : List NameInfo → Option RawExpr → Bool
is_step names None = true
is_step names (Some e) = is_of_kind names Integer e

-- the kind of the value is that of the target
abbrev pub is_kind_of_target : Option Kind → Option Kind → Bool
is_kind_of_target None value = false
is_kind_of_target (Some kind) value = is_kind kind value

-- the expressions of the statement have the kinds that their places ask for
abbrev pub is_well_kinded : List NameInfo → Stmt → Bool
is_well_kinded names (Assign target value) = is_variable names target && is_kind_of_target (kind_in names target) (kind_in names value)
is_well_kinded names (Print items) = list_all (is_item names) items
is_well_kinded names (Take targets) = list_all (is_target names) targets
is_well_kinded names (PickGoTo labels index) = is_of_kind names Integer index
is_well_kinded names (SignIf value negative zero positive) = is_of_kind names Integer value
is_well_kinded names (ThenIf' condition shape (more_of-Stmt stmt rest)) = is_of_kind names Logical condition && is_well_kinded names stmt
is_well_kinded names (BlockIf condition) = is_of_kind names Logical condition
is_well_kinded names (ElseIf condition) = is_of_kind names Logical condition
is_well_kinded names (Do label variable first last step) =
    not (is_array_in names variable)
    && is_kind Integer (Some (kind_named names variable))
    && is_of_kind names Integer first
    && is_of_kind names Integer last
    && is_step names step
is_well_kinded names _ = true
