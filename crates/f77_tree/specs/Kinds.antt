-- Expressions of a program: the names, subscripts, operators and kinds that they may have (ANSI X3.9-1978, section 6).
use Rattle.std.specs.Prelude.{◌≡◌, ◌<◌, ◌⊎◌, ℤ, pos, ◌≤ℤ◌, Bool, true, false, List, [], ◌∷◌, length}
use Rattle.op_table.specs.declared.Op.{Op}
use Rattle.op_table.specs.declared.Op.TheVariants.{Not, And, Or, Eqv, Neqv, Truth, Bound, Place, Three, Pick, Step}
use Rattle.op_table.specs.Operators.{arity_of}
use Rattle.f77_tree.specs.declared.declarations.Kind.{Kind}
use Rattle.f77_tree.specs.declared.declarations.Kind.TheVariants.{Integer, Logical}
use Rattle.f77_tree.specs.declared.expressions.Access.{Access}
use Rattle.f77_tree.specs.declared.expressions.Expr.{Expr, Row_of-Expr, end_of-Expr, more_of-Expr}
use Rattle.f77_tree.specs.declared.expressions.Expr.TheVariants.{Const, Truth as TruthOf, Input, Read, Apply, Read', Apply'}
use Rattle.f77_tree.specs.declared.programs.NameInfo.{NameInfo}
use Rattle.f77_tree.specs.Value.{kind_of, dims_of, row_length}
use Rattle.f77_tree.specs.Line.{kind_of_expression}
use Rattle.f77_tree.specs.Grammar.{greatest_constant}

-- ---- operators

-- whether a source can write the operator, as a sign between operands or as an intrinsic function
abbrev pub is_written : Op → Bool
is_written Truth = false
is_written Bound = false
is_written Place = false
is_written Three = false
is_written Pick = false
is_written Step = false
is_written _ = true

-- the kind of the operands: arithmetic and relations take integers, logical operators take logicals
abbrev pub operand_kind : Op → Kind
operand_kind Not = Logical
operand_kind And = Logical
operand_kind Or = Logical
operand_kind Eqv = Logical
operand_kind Neqv = Logical
operand_kind _ = Integer

-- ---- expressions

-- a constant that a source can write without a sign
pub record IsConstant (z : ℤ) : Type 0 where
  pub least : pos 0 ≤ℤ z
  pub most : z ≤ℤ pos greatest_constant

abbrev mutual
  -- an expression of the program: a source can write each constant; an access names an index of the table and has an integer
  -- subscript for each dimension of that name; an operator is one that a source can write, and has as many operands as
  -- it takes, of the kind that it takes; data words are read by no expression
  pub IsProper : List NameInfo → Expr → Type 0
  IsProper names (Const z) = IsConstant z
  IsProper names (TruthOf b) = Unit {0}
  IsProper names Input = ⊥
  IsProper names (Read' name shape subs) = (name < length names) × (row_length subs ≡ length (dims_of names name)) × AllOfKind names Integer subs
  IsProper names (Apply' op shape args) = (is_written op ≡ true) × (row_length args ≡ arity_of op) × AllOfKind names (operand_kind op) args

  -- each of a row is an expression of the program, of one kind
  pub AllOfKind : {m : _} → List NameInfo → Kind → Row_of-Expr m → Type 0
  AllOfKind names kind end_of-Expr = Unit {0}
  AllOfKind names kind (more_of-Expr e rest) = IsProper names e × (kind_of_expression names e ≡ kind) × AllOfKind names kind rest

-- an expression of the program, of a kind
pub record IsOfKind (names : List NameInfo) (kind : Kind) (e : Expr) : Type 0 where
  pub proper : IsProper names e
  pub of_kind : kind_of_expression names e ≡ kind

-- a scalar or an array element: what can be read can be a target
abbrev pub IsProperAccess : List NameInfo → Access → Type 0
IsProperAccess names access = IsProper names (Read access)

-- ---- assignment

-- the next data word, taken as a value of this kind: the value that READ assigns
abbrev pub taken_as : Kind → Expr
taken_as Integer = Input
taken_as Logical = Apply Truth (Input ∷ [])

-- the target's kind is the value's, or the value is the next data word, taken as the target's kind
pub record IsAssignment (names : List NameInfo) (target : Access) (value : Expr) : Type 0 where
  pub access : IsProperAccess names target
  pub of_kind : IsOfKind names (kind_of names target.name) value ⊎ (value ≡ taken_as (kind_of names target.name))
