-- What the parts of the reader answer, by the reader on lists.
use Rattle.std.specs.Prelude.{◌≡◌, ℕ, ℤ, pos, ◌<◌, Bool, false, ◌||◌, ◌&&◌, ◌==◌, nat_le, nat_lt, if◌then◌else◌, List, [], ◌∷◌, length, codes, Option, Some, None, Result, Ok, Err}
use Rattle.std.specs.Borrow.{Bor}
use Rattle.op_table.specs.declared.Op.{Op}
use Rattle.op_table.specs.declared.Op.TheVariants.{Neg, Not}
use Rattle.f77_tree.specs.declared.statements.RawExpr.{RawExpr}
use Rattle.f77_tree.specs.declared.statements.RawExpr.TheVariants.{Int, Truth, Named, Call, Apply}
use Rattle.f77_tree.specs.Name.{is_capital}
use Rattle.f77_tree.specs.Grammar.{Written, Arguments, level, operator_level, left_level, number_of, greatest_constant, has_great_number, have_great_number}
use Rattle.f77_expr.specs.declared.parsed.ExprEnd.{ExprEnd}
use Rattle.f77_expr.specs.declared.parsed.ExprEnd.TheVariants.{BadConstant}
use Rattle.f77_expr.specs.declared.parsed.Parsed.{Parsed}
use Rattle.f77_expr.specs.declared.parsed.ReadEnd.{ReadEnd}
use Rattle.f77_expr.specs.declared.parsed.ReadEnd.TheVariants.{NoForm, NoMemory}
use Rattle.f77_expr.specs.declared.parsed.ReadExpr.{ReadExpr}
use Rattle.f77_expr.specs.declared.operators.Prefix.{Prefix}
use Rattle.f77_expr.specs.declared.operators.Prefix.TheVariants.{Plus, Minus, Negation}
use Rattle.f77_expr.specs.Reader.{Reads, this_or, after_prefix, Prefix as WrittenPrefix, expression_at, chain_at}

-- ---- parts of a text

-- what is read, and what a reference to the rest refers to
abbrev pub seen : {A : Type 0} → Option (A × Bor (List ℕ)) → Reads A
seen None = None
seen (Some (a, rest)) = Some (a, rest.now)

-- a prefix of the code
abbrev pub meant : Prefix → WrittenPrefix
meant Plus = WrittenPrefix.Plus
meant Minus = WrittenPrefix.Minus
meant Negation = WrittenPrefix.Negation

-- the level of an expression that begins with a prefix
abbrev pub prefix_level : Prefix → ℕ
prefix_level Plus = 5
prefix_level Minus = 5
prefix_level Negation = 3

-- the sign with which a text begins
abbrev pub sign_at : List ℕ → Reads WrittenPrefix
sign_at text = this_or WrittenPrefix.Plus (after_prefix (codes "+") text) (this_or WrittenPrefix.Minus (after_prefix (codes "-") text) None)

-- a text that begins with the first character of some operator
abbrev pub begins_operator : List ℕ → Bool
begins_operator [] = false
begins_operator (c ∷ text) = c == 42 || c == 47 || c == 43 || c == 45 || c == 46

-- an operator, where it may stand after an operand of this level
abbrev pub allowed : (least : ℕ) → (beyond : ℕ) → Reads Op → Reads Op
allowed least beyond None = None
allowed least beyond (Some (op, rest)) = if nat_le least (operator_level op) && nat_le (left_level op) beyond then Some (op, rest) else None

-- the text after a character
abbrev pub passed : ℕ → List ℕ → Option (List ℕ)
passed c [] = None
passed c (d ∷ text) = if d == c then Some text else None

-- a text that begins with a letter
abbrev pub starts_name : List ℕ → Bool
starts_name [] = false
starts_name (c ∷ text) = is_capital c

-- ---- expressions while reading goes on

-- digits that write a number above the greatest constant
abbrev pub too_great : List ℕ → Bool
too_great digits = nat_lt greatest_constant (number_of digits)

-- the constant that digits write, or none where it is too great
abbrev pub constant_of : List ℕ → Option ℕ
constant_of digits = if too_great digits then None else Some (number_of digits)

-- as a signed number
abbrev pub as_word : Option ℕ → Option ℤ
as_word None = None
as_word (Some n) = Some (pos n)

-- a constant that is too great is kept as 0
abbrev pub kept_number : Option ℕ → RawExpr
kept_number None = Int (pos 0)
kept_number (Some n) = Int (pos n)

abbrev mutual
  -- the expression that is kept of what was read
  pub kept : Written → RawExpr
  kept (Written.number digits) = kept_number (constant_of digits)
  kept (Written.truth b) = Truth b
  kept (Written.name n) = Named n
  kept (Written.call n arguments) = Call n (kept_arguments arguments)
  kept (Written.bracketed w) = kept w
  kept (Written.plus w) = kept w
  kept (Written.minus w) = Apply Neg (kept w ∷ [])
  kept (Written.negation w) = Apply Not (kept w ∷ [])
  kept (Written.binary op a b) = Apply op (kept a ∷ kept b ∷ [])

  pub kept_arguments : Arguments → List RawExpr
  kept_arguments (Arguments.last w) = kept w ∷ []
  kept_arguments (Arguments.before w more) = kept w ∷ kept_arguments more

-- the expression of a prefix and its operand
abbrev pub kept_prefixed : Prefix → RawExpr → RawExpr
kept_prefixed Plus e = e
kept_prefixed Minus e = Apply Neg (e ∷ [])
kept_prefixed Negation e = Apply Not (e ∷ [])

-- ---- answers

-- what is read from the beginning of a text, with the text after it, and whether some number so far is too great
pub record IsRead (text : List ℕ) (great : Bool) (read : Reads Written) (e : RawExpr) (rest : List ℕ) (great_now : Bool) : Type 0 where
  pub written : Written
  pub is_read : read ≡ Some (written, rest)
  pub is_kept : e ≡ kept written
  pub is_great : great_now ≡ (great || has_great_number written)
  pub shorter : length rest < length text

-- the same of arguments
pub record AreRead (text : List ℕ) (great : Bool) (read : Reads Arguments) (es : List RawExpr) (rest : List ℕ) (great_now : Bool) : Type 0 where
  pub written : Arguments
  pub are_read : read ≡ Some (written, rest)
  pub are_kept : es ≡ kept_arguments written
  pub is_great : great_now ≡ (great || have_great_number written)
  pub shorter : length rest < length text

-- what an expression of this level or a higher one begins with: reading goes on after it
pub record IsBegun (least : ℕ) (text : List ℕ) (great : Bool) (e : RawExpr) (its_level : ℕ) (rest : List ℕ) (great_now : Bool) : Type 0 where
  pub written : Written
  pub goes_on : expression_at least text ≡ chain_at least written rest
  pub is_kept : e ≡ kept written
  pub has_level : its_level ≡ level written
  pub is_great : great_now ≡ (great || has_great_number written)
  pub shorter : length rest < length text

-- a result that is good, or NoForm where there is none
abbrev pub Answers : {A : Type 0} → (A → Type 0) → Type 0 → Result A ReadEnd → Type 0
Answers Good NoneIs (Ok a) = Good a
Answers Good NoneIs (Err NoForm) = NoneIs
Answers Good NoneIs (Err NoMemory) = Unit {0}

-- what was read, where each constant in it is in range
abbrev pub kept_in_range : ReadExpr → Result Parsed ExprEnd
kept_in_range read = if read.has_great_constant then Err BadConstant else Ok (record { expr = read.expr; next = read.next })
