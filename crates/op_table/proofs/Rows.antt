-- What the rows' functions compute is the rows' value.
use Rattle.std.proofs.Common.{◌≡◌, ℕ, ◌/◌, ◌^◌, ◌<◌, ◌≤◌, ℤ, pos, negsuc, neg_ℤ, ◌+ℤ◌, ◌-ℤ◌, ◌*ℤ◌, Ok, refl, sym, ap, ◌∙◌, w32, to_z, of_z, arith, suc, zero}
use Rattle.std.specs.Prelude.{int_div, int_le, unsigned_abs, Bool, true, false, Option, Some, None}
use Rattle.std.specs.Option.{SomeIff, ok_or}
use lib.IntN.{+ℤ_idl}
use Rattle.std.specs.Int.{int_wrap, int_wrapping_add, int_wrapping_sub, int_wrapping_mul, int_wrapping_neg, int_wrapping_div}
use Rattle.std.proofs.lemmas.Int.{wrapping_add_is, wrapping_sub_is, wrapping_mul_is, wrapping_neg_is, int_wrap_fits, int_wrap-add_right, int_wrap-sub_right, to_z-of_z, ints}
use Rattle.std.proofs.lemmas.Bool.Decides.{nat_tests}
use Rattle.std.proofs.Math.Nat.{div-le_self, mod-eq_of_lt}
use Rattle.op_table.specs.declared.Trap.TheVariants.{Overflow}
use Rattle.op_table.specs.Words.{IsWord, is_word, wrapped}
use Rattle.op_table.specs.Operators.{absolute, with_sign, checked, in_a_word}

-- ---- numbers that a word's bits hold

-- a number below 2 ^ 32, read as a word
pub small_back : (n : ℕ) → n < 2 ^ 32 → to_z w32 n ≡ wrapped (pos n)
unfolding int_wrap
small_back n h = ap (to_z w32) (sym (mod-eq_of_lt h))

-- a number no larger than 2 ^ 31 either way
pub back : (z : ℤ) → unsigned_abs z ≤ 2 ^ 31 → to_z w32 (of_z w32 z) ≡ wrapped z
back (pos n) h = small_back n (omega arith)
back (negsuc n) h =
    let f : IsWord (negsuc n) = record { sfits = omega arith } in
    to_z-of_z w32 (negsuc n) f ∙ sym (int_wrap_fits w32 (negsuc n) f)

pub word-unsigned_abs : (z : ℤ) → IsWord z → unsigned_abs z ≤ 2 ^ 31
word-unsigned_abs (pos n) f = omega (arith, f.sfits)
word-unsigned_abs (negsuc n) f = omega (arith, f.sfits)

unsigned_abs-neg : (n : ℕ) → unsigned_abs (neg_ℤ (pos n)) ≡ n
unsigned_abs-neg zero = refl
unsigned_abs-neg (suc n) = refl

-- a quotient is no larger than the dividend
pub int_div-le : (a b : ℤ) → unsigned_abs (int_div a b) ≤ unsigned_abs a
int_div-le (pos a) (pos b) = div-le_self a b
int_div-le (pos a) (negsuc b) = omega (arith, unsigned_abs-neg (a / suc b), div-le_self a (suc b))
int_div-le (negsuc a) (pos b) = omega (arith, unsigned_abs-neg (suc a / b), div-le_self (suc a) b)
int_div-le (negsuc a) (negsuc b) = div-le_self (suc a) (suc b)

-- ---- arithmetic that wraps

pub sum_is : (a b : ℤ) → IsWord a → IsWord b → int_wrapping_add w32 a b ≡ wrapped (a +ℤ b)
sum_is a b f g = wrapping_add_is w32 a b f g

pub difference_is : (a b : ℤ) → IsWord a → IsWord b → int_wrapping_sub w32 a b ≡ wrapped (a -ℤ b)
difference_is a b f g = wrapping_sub_is w32 a b f g

pub product_is : (a b : ℤ) → IsWord a → IsWord b → int_wrapping_mul w32 a b ≡ wrapped (a *ℤ b)
product_is a b f g = wrapping_mul_is w32 a b f g

pub negative_is : (a : ℤ) → IsWord a → int_wrapping_neg w32 a ≡ wrapped (neg_ℤ a)
negative_is a f = wrapping_neg_is w32 a f

pub magnitude_is : (a r : ℤ) → IsWord a → r ≡ to_z w32 (unsigned_abs (to_z w32 (of_z w32 a))) → r ≡ wrapped (absolute a)
magnitude_is a r f e = e ∙ ap (λ z. to_z w32 (unsigned_abs z)) (to_z-of_z w32 a f) ∙ small_back (unsigned_abs a) (omega (arith, word-unsigned_abs a f))

pub quotient_is : (a b r : ℤ) → IsWord a → IsWord b → r ≡ int_wrapping_div w32 (to_z w32 (of_z w32 a)) (to_z w32 (of_z w32 b)) → r ≡ wrapped (int_div a b)
quotient_is a b r f g e =
    e ∙ ap (λ z. int_wrapping_div w32 z (to_z w32 (of_z w32 b))) (to_z-of_z w32 a f) ∙ ap (int_wrapping_div w32 a) (to_z-of_z w32 b g)
    ∙ back (int_div a b) (omega (arith, int_div-le a b, word-unsigned_abs a f))

-- a value that went through a word's bits
pub bits_back : (z : ℤ) → IsWord z → to_z w32 (of_z w32 z) ≡ z
bits_back z f = to_z-of_z w32 z f

-- a sum with a product that was wrapped
pub place_is : (p d size m r : ℤ) → IsWord p → IsWord d → IsWord size → IsWord m → m ≡ wrapped (to_z w32 (of_z w32 d) *ℤ to_z w32 (of_z w32 size)) → r ≡ wrapped (to_z w32 (of_z w32 p) +ℤ to_z w32 (of_z w32 m)) → r ≡ wrapped (p +ℤ d *ℤ size)
place_is p d size m r fp fd fs fm e h =
    h ∙ ap (λ z. wrapped (z +ℤ to_z w32 (of_z w32 m))) (bits_back p fp) ∙ ap (λ z. wrapped (p +ℤ z)) (bits_back m fm ∙ e)
    ∙ int_wrap-add_right w32 p (to_z w32 (of_z w32 d) *ℤ to_z w32 (of_z w32 size))
    ∙ ap (λ z. wrapped (p +ℤ z *ℤ to_z w32 (of_z w32 size))) (bits_back d fd) ∙ ap (λ z. wrapped (p +ℤ d *ℤ z)) (bits_back size fs)

-- the negative of a number that was wrapped
pub negative_on : (a m r : ℤ) → IsWord a → IsWord m → m ≡ wrapped (absolute (to_z w32 (of_z w32 a))) → r ≡ wrapped (neg_ℤ (to_z w32 (of_z w32 m))) → r ≡ wrapped (neg_ℤ (absolute a))
negative_on a m r fa fm e h =
    let z = absolute a in
    h ∙ ap (λ y. wrapped (neg_ℤ y)) (bits_back m fm ∙ e ∙ ap (λ y. wrapped (absolute y)) (bits_back a fa))
    ∙ ap wrapped (sym (+ℤ_idl (neg_ℤ (wrapped z)))) ∙ int_wrap-sub_right w32 (pos 0) z ∙ ap wrapped (+ℤ_idl (neg_ℤ z))

-- a negative number takes the sign
pub with_sign_negative : (a b : ℤ) → IsWord b → int_le (pos 0) (to_z w32 (of_z w32 b)) ≡ false → with_sign a b ≡ neg_ℤ (absolute a)
with_sign_negative a b f e = by b (sym (ap (int_le (pos 0)) (bits_back b f)) ∙ e)
  where
    by : (b : ℤ) → int_le (pos 0) b ≡ false → with_sign a b ≡ neg_ℤ (absolute a)
    by (pos n) e = absurd (omega (arith, ints))
    by (negsuc n) e = refl

-- ---- numbers that have to be words

pub word-is_word : (z : ℤ) → IsWord z → is_word z ≡ true
word-is_word (pos n) f = grind (arith, nat_tests, f.sfits)
word-is_word (negsuc n) f = grind (arith, nat_tests, f.sfits)

pub is_word-word : (z : ℤ) → is_word z ≡ true → IsWord z
is_word-word (pos n) e = record { sfits = grind (arith, nat_tests) }
is_word-word (negsuc n) e = record { sfits = grind (arith, nat_tests) }

pub not_word-is_word : (z : ℤ) → (IsWord z → ⊥) → is_word z ≡ false
not_word-is_word z h = by (is_word z) refl
  where
    by : (b : Bool) → is_word z ≡ b → b ≡ false
    by true e = absurd (h (is_word-word z e))
    by false e = refl

-- a word, or overflow
pub word_or_overflow : (z : ℤ) (o : Option ℤ) → SomeIff o (IsWord z) z → ok_or o Overflow ≡ in_a_word (checked z)
word_or_overflow z None h = rw (not_word-is_word z h) refl
word_or_overflow z (Some x) h = rw (word-is_word z h.0) (ap Ok (h.1 ∙ sym (int_wrap_fits w32 z h.0)))
