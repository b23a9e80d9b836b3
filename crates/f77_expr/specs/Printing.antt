-- Expressions as they are printed: with the brackets that the grammar needs, and no others.
use Rattle.std.specs.Prelude.{ℕ, nat_abs, false, if◌then◌else◌, nat_le, List, [], ◌∷◌, ◌++◌, map, Option, Some, None, codes, decimal, slice_get}
use Rattle.op_table.specs.declared.Op.{Op}
use Rattle.op_table.specs.declared.Op.TheVariants.{Add, Sub, Mul, Pow, Neg, Not, Mod, Abs, Sign, Max, Min, AddChecked, SubChecked, MulChecked, NegChecked, AbsChecked, PowChecked}
use Rattle.f77_tree.specs.declared.expressions.Expr.{Expr, Row_of-Expr, end_of-Expr, more_of-Expr}
use Rattle.f77_tree.specs.declared.expressions.Expr.TheVariants.{Const, Truth, Input, Read', Apply'}
use Rattle.f77_tree.specs.declared.programs.NameInfo.{NameInfo}
use Rattle.f77_tree.specs.declared.statements.RawExpr.{RawExpr}
use Rattle.f77_tree.specs.declared.statements.RawExpr.TheVariants.{Int, Truth as RawTruth, Named, Call, Apply}
use Rattle.f77_tree.specs.Grammar.{Written, Arguments, level, left_level, right_level, spelling}

-- ---- names

abbrev pub name_in : Option NameInfo → List ℕ
name_in None = []
name_in (Some info) = info.name

-- the name with an index in the table
abbrev pub name_at : List NameInfo → ℕ → List ℕ
name_at names k = name_in (slice_get names k)

-- the operator that a checked one is where nothing overflows: both are written alike
abbrev pub plain : Op → Op
plain AddChecked = Add
plain SubChecked = Sub
plain MulChecked = Mul
plain NegChecked = Neg
plain AbsChecked = Abs
plain PowChecked = Pow
plain op = op

-- ---- as it is printed

-- between brackets where its level is too low for its place
abbrev pub enclosed : (least : ℕ) → Written → Written
enclosed least w = if nat_le least (level w) then w else Written.bracketed w

-- one argument more, after others
abbrev pub and_last : Arguments → Written → Arguments
and_last (Arguments.last a) w = Arguments.before a (Arguments.last w)
and_last (Arguments.before a more) w = Arguments.before a (and_last more w)

-- an expression as it is printed alone, and as it is listed among the arguments of a MAX or of a MIN: one that is itself a
-- MAX gives its own arguments to a MAX
pub record Printed : Type 0 where
  pub alone : Written
  pub in_max : Arguments
  pub in_min : Arguments

abbrev pub not_listed : Written → Printed
not_listed w = record { alone = w; in_max = Arguments.last w; in_min = Arguments.last w }

abbrev pub printed_max : Arguments → Printed
printed_max arguments =
    let w = Written.call (codes "MAX") arguments in
    record { alone = w; in_max = arguments; in_min = Arguments.last w }

abbrev pub printed_min : Arguments → Printed
printed_min arguments =
    let w = Written.call (codes "MIN") arguments in
    record { alone = w; in_max = Arguments.last w; in_min = arguments }

-- an operator with one operand
abbrev pub printed_one : Op → Printed → Printed
printed_one Neg a = not_listed (Written.minus (enclosed 6 a.alone))
printed_one Not a = not_listed (Written.negation (enclosed 4 a.alone))
printed_one Abs a = not_listed (Written.call (codes "ABS") (Arguments.last a.alone))
printed_one _ a = a

-- an operator with two operands
abbrev pub printed_two : Op → Printed → Printed → Printed
printed_two Mod a b = not_listed (Written.call (codes "MOD") (Arguments.before a.alone (Arguments.last b.alone)))
printed_two Sign a b = not_listed (Written.call (codes "SIGN") (Arguments.before a.alone (Arguments.last b.alone)))
printed_two Max a b = printed_max (and_last a.in_max b.alone)
printed_two Min a b = printed_min (and_last a.in_min b.alone)
printed_two op a b = not_listed (Written.binary op (enclosed (left_level op) a.alone) (enclosed (right_level op) b.alone))

-- what no source can write
abbrev pub unprintable : Printed
unprintable = not_listed (Written.truth false)

-- an operator at its operands
abbrev pub printed_operator : Op → List Printed → Printed
printed_operator op (a ∷ []) = printed_one op a
printed_operator op (a ∷ b ∷ []) = printed_two op a b
printed_operator op _ = unprintable

abbrev pub listed : Printed → List Printed → Arguments
listed a [] = Arguments.last a.alone
listed a (b ∷ more) = Arguments.before a.alone (listed b more)

-- a scalar, or an array element with its subscripts
abbrev pub printed_access : List ℕ → List Printed → Printed
printed_access name [] = not_listed (Written.name name)
printed_access name (a ∷ more) = not_listed (Written.call name (listed a more))

abbrev mutual
  pub printed : List NameInfo → Expr → Printed
  printed names (Const z) = not_listed (Written.number (decimal (nat_abs z)))
  printed names (Truth b) = not_listed (Written.truth b)
  printed names Input = unprintable
  printed names (Read' k shape subs) = printed_access (name_at names k) (row_printed names subs)
  printed names (Apply' op shape args) = printed_operator (plain op) (row_printed names args)

  pub row_printed : {m : _} → List NameInfo → Row_of-Expr m → List Printed
  row_printed names end_of-Expr = []
  row_printed names (more_of-Expr e rest) = printed names e ∷ row_printed names rest

-- the text of an expression
abbrev pub printed_text : List NameInfo → Expr → List ℕ
printed_text names e = spelling (printed names e).alone

-- ---- the expression as a source has it

-- its form alone, and the arguments that it gives to a MAX or a MIN around it
pub record Form : Type 0 where
  pub alone : RawExpr
  pub in_max : List RawExpr
  pub in_min : List RawExpr

abbrev pub plain_form : RawExpr → Form
plain_form e = record { alone = e; in_max = e ∷ []; in_min = e ∷ [] }

abbrev pub max_form : List RawExpr → Form
max_form arguments =
    let e = Call (codes "MAX") arguments in
    record { alone = e; in_max = arguments; in_min = e ∷ [] }

abbrev pub min_form : List RawExpr → Form
min_form arguments =
    let e = Call (codes "MIN") arguments in
    record { alone = e; in_max = e ∷ []; in_min = arguments }

abbrev pub forms_alone : List Form → List RawExpr
forms_alone forms = map (λ (form : Form). form.alone) forms

-- intrinsic functions are calls of their names, and other operators are themselves
abbrev pub operator_form : Op → List Form → Form
operator_form Abs (a ∷ []) = plain_form (Call (codes "ABS") (a.alone ∷ []))
operator_form Mod (a ∷ b ∷ []) = plain_form (Call (codes "MOD") (a.alone ∷ b.alone ∷ []))
operator_form Sign (a ∷ b ∷ []) = plain_form (Call (codes "SIGN") (a.alone ∷ b.alone ∷ []))
operator_form Max (a ∷ b ∷ []) = max_form (a.in_max ++ (b.alone ∷ []))
operator_form Min (a ∷ b ∷ []) = min_form (a.in_min ++ (b.alone ∷ []))
operator_form op args = plain_form (Apply op (forms_alone args))

-- a scalar is its name, and an array element a call of it
abbrev pub access_form : List ℕ → List Form → Form
access_form name [] = plain_form (Named name)
access_form name (a ∷ more) = plain_form (Call name (forms_alone (a ∷ more)))

abbrev mutual
  pub form : List NameInfo → Expr → Form
  form names (Const z) = plain_form (Int z)
  form names (Truth b) = plain_form (RawTruth b)
  form names Input = plain_form (RawTruth false)
  form names (Read' k shape subs) = access_form (name_at names k) (row_forms names subs)
  form names (Apply' op shape args) = operator_form (plain op) (row_forms names args)

  pub row_forms : {m : _} → List NameInfo → Row_of-Expr m → List Form
  row_forms names end_of-Expr = []
  row_forms names (more_of-Expr e rest) = form names e ∷ row_forms names rest

-- an expression of a program as a source has it: constants are themselves, a scalar is its name, an array element and an
-- intrinsic function are calls, and checked operators are written as plain ones
abbrev pub raw_form : List NameInfo → Expr → RawExpr
raw_form names e = (form names e).alone
