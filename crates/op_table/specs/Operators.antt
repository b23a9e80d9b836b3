-- The value of each operator: a whole number, which is then wrapped to a word, or a trap.
use Rattle.std.specs.Prelude.{Bool, true, false, ℕ, zero, suc, ℤ, pos, negsuc, neg_ℤ, ◌+ℤ◌, ◌-ℤ◌, ◌*ℤ◌, not, ◌&&◌, ◌||◌, if◌then◌else◌, List, [], ◌∷◌, Result, Ok, Err, int_lt, int_le, int_div, unsigned_abs}
use Rattle.std.specs.Int.{int_max, int_min}
use Rattle.std.specs.Bool.{beq}
use Rattle.std.specs.Ordering.{int_eq}
use Rattle.op_table.specs.declared.Op.{Op}
use Rattle.op_table.specs.declared.Op.TheVariants.{Add, Sub, Mul, Div, Pow, Neg, Lt, Le, Eq, Ne, Ge, Gt, Not, And, Or, Eqv, Neqv, Mod, Abs, Sign, Max, Min, Truth, Bound, Place, Three, Pick, Step, AddChecked, SubChecked, MulChecked, NegChecked, AbsChecked, PowChecked}
use Rattle.op_table.specs.declared.Trap.{Trap}
use Rattle.op_table.specs.declared.Trap.TheVariants.{Divide, Subscript, Step as NoStep, Overflow}
use Rattle.op_table.specs.Words.{is_word, wrapped, is_true, truth}

-- how many operands an operator has
abbrev pub arity_of : Op → ℕ
arity_of Neg = 1
arity_of Not = 1
arity_of Abs = 1
arity_of Truth = 1
arity_of Three = 1
arity_of Step = 1
arity_of NegChecked = 1
arity_of AbsChecked = 1
arity_of Bound = 3
arity_of Place = 3
arity_of _ = 2

-- whether an operator traps at any words
abbrev pub can_trap : Op → Bool
can_trap Div = true
can_trap Pow = true
can_trap Mod = true
can_trap Bound = true
can_trap Step = true
can_trap AddChecked = true
can_trap SubChecked = true
can_trap MulChecked = true
can_trap NegChecked = true
can_trap AbsChecked = true
can_trap PowChecked = true
can_trap _ = false

-- a / b, cut towards zero
abbrev pub quotient : ℤ → ℤ → Result ℤ Trap
quotient a b = if int_eq b (pos 0) then Err Divide else Ok (int_div a b)

-- what the quotient leaves of a
abbrev pub remainder : ℤ → ℤ → Result ℤ Trap
remainder a b = if int_eq b (pos 0) then Err Divide else Ok (a -ℤ int_div a b *ℤ b)

-- the product of n factors a
unfoldable pub power : ℤ → ℕ → ℤ
power a zero = pos 1
power a (suc n) = a *ℤ power a n

-- the absolute value
abbrev pub absolute : ℤ → ℤ
absolute a = pos (unsigned_abs a)

-- the absolute value of a with the sign of b
abbrev pub with_sign : ℤ → ℤ → ℤ
with_sign a (pos b) = absolute a
with_sign a (negsuc b) = neg_ℤ (absolute a)

-- 0, 1, 2 for a negative number, zero, a positive one
abbrev pub which_of_three : ℤ → ℤ
which_of_three (negsuc n) = pos 0
which_of_three (pos zero) = pos 1
which_of_three (pos (suc n)) = pos 2

-- v - 1 where v is one of 1 to n, else n
abbrev pub picked : ℤ → ℤ → ℤ
picked v n = if int_le (pos 1) v && int_le v n then v -ℤ pos 1 else n

-- how far v lies above the lower bound
abbrev pub offset : ℤ → ℤ → ℤ → Result ℤ Trap
offset v low high = if int_lt v low || int_lt high v then Err Subscript else Ok (v -ℤ low)

-- a number that the checked dialect takes only as a word
abbrev pub checked : ℤ → Result ℤ Trap
checked z = if is_word z then Ok z else Err Overflow

-- a ** b, where a negative exponent means 1 / a ** (-b)
abbrev pub raised : ℤ → ℤ → Result ℤ Trap
raised a (pos n) = Ok (power a n)
raised a (negsuc n) = quotient (pos 1) (power a (suc n))

abbrev pub raised_checked : ℤ → ℤ → Result ℤ Trap
raised_checked a (pos n) = checked (power a n)
raised_checked a (negsuc n) = quotient (pos 1) (power a (suc n))

-- ---- the rows, over whole numbers: an operator stands in the table of its arity, and has no meaning in another

-- operators of one operand
unfoldable pub unary : Op → ℤ → Result ℤ Trap
unary Neg a = Ok (neg_ℤ a)
unary Not a = Ok (truth (not (is_true a)))
unary Abs a = Ok (absolute a)
unary Truth a = Ok (truth (is_true a))
unary Three a = Ok (which_of_three a)
unary Step a = if int_eq a (pos 0) then Err NoStep else Ok a
unary NegChecked a = checked (neg_ℤ a)
unary AbsChecked a = checked (absolute a)
unary _ a = Ok (pos 0)

-- operators of two operands
unfoldable pub binary : Op → ℤ → ℤ → Result ℤ Trap
binary Add a b = Ok (a +ℤ b)
binary Sub a b = Ok (a -ℤ b)
binary Mul a b = Ok (a *ℤ b)
binary Div a b = quotient a b
binary Pow a b = raised a b
binary Lt a b = Ok (truth (int_lt a b))
binary Le a b = Ok (truth (int_le a b))
binary Eq a b = Ok (truth (int_eq a b))
binary Ne a b = Ok (truth (not (int_eq a b)))
binary Ge a b = Ok (truth (int_le b a))
binary Gt a b = Ok (truth (int_lt b a))
binary And a b = Ok (truth (is_true a && is_true b))
binary Or a b = Ok (truth (is_true a || is_true b))
binary Eqv a b = Ok (truth (beq (is_true a) (is_true b)))
binary Neqv a b = Ok (truth (not (beq (is_true a) (is_true b))))
binary Mod a b = remainder a b
binary Sign a b = Ok (with_sign a b)
binary Max a b = Ok (int_max a b)
binary Min a b = Ok (int_min a b)
binary Pick v n = Ok (picked v n)
binary AddChecked a b = checked (a +ℤ b)
binary SubChecked a b = checked (a -ℤ b)
binary MulChecked a b = checked (a *ℤ b)
binary PowChecked a b = raised_checked a b
binary _ a b = Ok (pos 0)

-- operators of three operands
unfoldable pub ternary : Op → ℤ → ℤ → ℤ → Result ℤ Trap
ternary Bound v low high = offset v low high
ternary Place p d size = Ok (p +ℤ d *ℤ size)
ternary _ a b c = Ok (pos 0)

-- ---- the value

-- a whole number becomes a word
abbrev pub in_a_word : Result ℤ Trap → Result ℤ Trap
in_a_word (Ok z) = Ok (wrapped z)
in_a_word (Err trap) = Err trap

-- the value of an operator at its operands, of which there are as many as its arity says
unfoldable pub applied : Op → List ℤ → Result ℤ Trap
applied op (a ∷ []) = in_a_word (unary op a)
applied op (a ∷ b ∷ []) = in_a_word (binary op a b)
applied op (a ∷ b ∷ c ∷ []) = in_a_word (ternary op a b c)
applied op _ = Ok (pos 0)
