-- Expressions as they are written (ANSI X3.9-1978, section 6), and the expressions that are read from them. Texts are
-- free of blanks.
use Rattle.std.specs.Prelude.{◌≡◌, ◌≤◌, ◌*◌, ◌+◌, ◌-◌, ℕ, pos, Bool, true, false, if◌then◌else◌, ◌&&◌, ◌||◌, nat_lt, List, [], ◌∷◌, ◌++◌, length, codes}
use Rattle.std.specs.List.{list_all}
use Rattle.op_table.specs.declared.Op.{Op}
use Rattle.op_table.specs.declared.Op.TheVariants.{Add, Sub, Mul, Div, Pow, Neg, Lt, Le, Eq, Ne, Ge, Gt, Not, And, Or, Eqv, Neqv}
use Rattle.f77_tree.specs.declared.statements.RawExpr.{RawExpr}
use Rattle.f77_tree.specs.declared.statements.RawExpr.TheVariants.{Int, Truth, Named, Call, Apply}
use Rattle.f77_tree.specs.Name.{is_figure, is_name}

-- ---- operators between two operands

-- how an operator between two operands is written
abbrev pub symbol : Op → List ℕ
symbol Add = codes "+"
symbol Sub = codes "-"
symbol Mul = codes "*"
symbol Div = codes "/"
symbol Pow = codes "**"
symbol Lt = codes ".LT."
symbol Le = codes ".LE."
symbol Eq = codes ".EQ."
symbol Ne = codes ".NE."
symbol Ge = codes ".GE."
symbol Gt = codes ".GT."
symbol And = codes ".AND."
symbol Or = codes ".OR."
symbol Eqv = codes ".EQV."
symbol Neqv = codes ".NEQV."
symbol _ = []

-- The levels of the grammar, from the operators that bind least: 0 .EQV. and .NEQV., 1 .OR., 2 .AND., 3 .NOT., 4 the
-- relations, 5 sums and signs, 6 products, 7 powers, 8 primaries. No operand has level 9.
abbrev pub operator_level : Op → ℕ
operator_level Eqv = 0
operator_level Neqv = 0
operator_level Or = 1
operator_level And = 2
operator_level Lt = 4
operator_level Le = 4
operator_level Eq = 4
operator_level Ne = 4
operator_level Ge = 4
operator_level Gt = 4
operator_level Add = 5
operator_level Sub = 5
operator_level Mul = 6
operator_level Div = 6
operator_level Pow = 7
operator_level _ = 9

-- the least level of the operand on the left: a chain of one level is grouped from the left, but relations make no chain,
-- and powers are grouped from the right
abbrev pub left_level : Op → ℕ
left_level Eqv = 0
left_level Neqv = 0
left_level Or = 1
left_level And = 2
left_level Lt = 5
left_level Le = 5
left_level Eq = 5
left_level Ne = 5
left_level Ge = 5
left_level Gt = 5
left_level Add = 5
left_level Sub = 5
left_level Mul = 6
left_level Div = 6
left_level Pow = 8
left_level _ = 9

-- the least level of the operand on the right
abbrev pub right_level : Op → ℕ
right_level Eqv = 1
right_level Neqv = 1
right_level Or = 2
right_level And = 3
right_level Lt = 5
right_level Le = 5
right_level Eq = 5
right_level Ne = 5
right_level Ge = 5
right_level Gt = 5
right_level Add = 6
right_level Sub = 6
right_level Mul = 7
right_level Div = 7
right_level Pow = 7
right_level _ = 9

-- ---- expressions as they are written

mutual
  pub data Written : Type 0 where
    -- digits
    number : List ℕ → Written
    -- .TRUE. or .FALSE.
    truth : Bool → Written
    name : List ℕ → Written
    -- a name with arguments or subscripts between brackets
    call : List ℕ → Arguments → Written
    bracketed : Written → Written
    -- signs, which stand before a whole term
    plus : Written → Written
    minus : Written → Written
    -- .NOT.
    negation : Written → Written
    -- an operator between two operands
    binary : Op → Written → Written → Written

  -- one or more expressions, with commas between them
  pub data Arguments : Type 0 where
    last : Written → Arguments
    before : Written → Arguments → Arguments

abbrev pub level : Written → ℕ
level (plus w) = 5
level (minus w) = 5
level (negation w) = 3
level (binary op a b) = operator_level op
level _ = 8

-- one or more digits
abbrev pub is_number : List ℕ → Bool
is_number digits = nat_lt 0 (length digits) && list_all is_figure digits

abbrev mutual
  -- the grammar: each operand has the level that its place asks for
  pub IsGrammatical : Written → Type 0
  IsGrammatical (number digits) = is_number digits ≡ true
  IsGrammatical (truth b) = Unit {0}
  IsGrammatical (name n) = is_name n ≡ true
  IsGrammatical (call n arguments) = (is_name n ≡ true) × AreGrammatical arguments
  IsGrammatical (bracketed w) = IsGrammatical w
  IsGrammatical (plus w) = IsGrammatical w × (6 ≤ level w)
  IsGrammatical (minus w) = IsGrammatical w × (6 ≤ level w)
  IsGrammatical (negation w) = IsGrammatical w × (4 ≤ level w)
  IsGrammatical (binary op a b) = IsGrammatical a × IsGrammatical b × (left_level op ≤ level a) × (right_level op ≤ level b)

  pub AreGrammatical : Arguments → Type 0
  AreGrammatical (last w) = IsGrammatical w
  AreGrammatical (before w more) = IsGrammatical w × AreGrammatical more

-- how a logical constant is written
abbrev pub truth_text : Bool → List ℕ
truth_text b = if b then codes ".TRUE." else codes ".FALSE."

abbrev mutual
  -- the text
  pub spelling : Written → List ℕ
  spelling (number digits) = digits
  spelling (truth b) = truth_text b
  spelling (name n) = n
  spelling (call n arguments) = n ++ codes "(" ++ spellings arguments ++ codes ")"
  spelling (bracketed w) = codes "(" ++ spelling w ++ codes ")"
  spelling (plus w) = codes "+" ++ spelling w
  spelling (minus w) = codes "-" ++ spelling w
  spelling (negation w) = codes ".NOT." ++ spelling w
  spelling (binary op a b) = spelling a ++ symbol op ++ spelling b

  pub spellings : Arguments → List ℕ
  spellings (last w) = spelling w
  spellings (before w more) = spelling w ++ codes "," ++ spellings more

-- ---- the expressions that are read from them

-- the number that digits write, after those that write n
abbrev pub decimal_after : ℕ → List ℕ → ℕ
decimal_after n [] = n
decimal_after n (digit ∷ digits) = decimal_after (10 * n + (digit - 48)) digits

-- the number that digits write
abbrev pub number_of : List ℕ → ℕ
number_of digits = decimal_after 0 digits

abbrev mutual
  -- brackets and a sign + leave no trace
  pub reading : Written → RawExpr
  reading (number digits) = Int (pos (number_of digits))
  reading (truth b) = Truth b
  reading (name n) = Named n
  reading (call n arguments) = Call n (readings arguments)
  reading (bracketed w) = reading w
  reading (plus w) = reading w
  reading (minus w) = Apply Neg (reading w ∷ [])
  reading (negation w) = Apply Not (reading w ∷ [])
  reading (binary op a b) = Apply op (reading a ∷ reading b ∷ [])

  pub readings : Arguments → List RawExpr
  readings (last w) = reading w ∷ []
  readings (before w more) = reading w ∷ readings more

-- the greatest integer constant
abbrev pub greatest_constant : ℕ
greatest_constant = 2147483647

abbrev mutual
  -- some number in it is above the greatest constant
  pub has_great_number : Written → Bool
  has_great_number (number digits) = nat_lt greatest_constant (number_of digits)
  has_great_number (truth b) = false
  has_great_number (name n) = false
  has_great_number (call n arguments) = have_great_number arguments
  has_great_number (bracketed w) = has_great_number w
  has_great_number (plus w) = has_great_number w
  has_great_number (minus w) = has_great_number w
  has_great_number (negation w) = has_great_number w
  has_great_number (binary op a b) = has_great_number a || has_great_number b

  pub have_great_number : Arguments → Bool
  have_great_number (last w) = has_great_number w
  have_great_number (before w more) = has_great_number w || have_great_number more

-- an expression of the grammar that a text spells
pub record IsWritten (text : List ℕ) (w : Written) : Type 0 where
  pub grammatical : IsGrammatical w
  pub is : spelling w ≡ text
