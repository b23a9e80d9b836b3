-- Powers: their size, their wrapped value, and 1 divided by them.
use Rattle.std.proofs.Common.{◌≡◌, ℕ, ◌*◌, ◌%◌, ◌^◌, ◌<◌, ◌≤◌, ℤ, pos, negsuc, neg_ℤ, ◌*ℤ◌, Bool, true, false, cond, not, Ok, Err, refl, sym, ap, ◌∙◌, w32, to_z, of_z, arith, suc, zero}
use Rattle.std.specs.Ordering.{int_eq}
use Rattle.std.specs.Prelude.{int_div, unsigned_abs, if◌then◌else◌, ◌==◌}
use Rattle.std.specs.Int.{int_wrap, int_pow, int_wrapping_pow}
use Rattle.std.proofs.lemmas.Int.{int_wrap-mul_left, int_wrap-mul_right, to_z-of_z, ints, unsigned_abs-mul}
use Rattle.std.proofs.lemmas.Bool.Decides.{nat_tests, Decides-int_eq}
use Rattle.std.proofs.Math.Nat.{mod-eq_of_lt, pow-zero, pow-suc, mul_comm, one-le-pow, mul-le-mul, div-eq_of_lt}
use mir.ValLaws as laws
use Rattle.op_table.specs.declared.Trap.TheVariants.{Divide}
use Rattle.op_table.specs.Words.{IsWord, wrapped}
use Rattle.op_table.specs.Operators.{power, quotient}

-- the size of a power
pub unsigned_abs-power : (a : ℤ) (n : ℕ) → unsigned_abs (power a n) ≡ unsigned_abs a ^ n
unfolding power
unsigned_abs-power a zero = sym (pow-zero (unsigned_abs a))
unsigned_abs-power a (suc n) =
    unsigned_abs-mul a (power a n) ∙ ap (λ x. unsigned_abs a * x) (unsigned_abs-power a n)
    ∙ mul_comm (unsigned_abs a) (unsigned_abs a ^ n) ∙ sym (pow-suc (unsigned_abs a) n)

-- ---- as std has it

power-pos : (a n : ℕ) → power (pos a) n ≡ pos (a ^ n)
unfolding power
power-pos a zero = ap pos (sym (pow-zero a))
power-pos a (suc n) = ap (λ z. pos a *ℤ z) (power-pos a n) ∙ ap pos (mul_comm a (a ^ n) ∙ sym (pow-suc a n))

-- x with the sign that a negative number's power has
abbrev signed : Bool → ℕ → ℤ
signed even x = cond even (pos x) (neg_ℤ (pos x))

parity : (n : ℕ) → (suc n % 2 == 0) ≡ not (n % 2 == 0)
parity n = grind (arith, nat_tests)

negative_times : (a x : ℕ) (even : Bool) → negsuc a *ℤ signed even x ≡ signed (not even) (suc a * x)
negative_times a x true = refl
negative_times a zero false = omega (arith, ints)
negative_times a (suc x) false = refl

power-negsuc : (a n : ℕ) → power (negsuc a) n ≡ signed (n % 2 == 0) (suc a ^ n)
unfolding power
power-negsuc a zero = ap pos (sym (pow-zero (suc a)))
power-negsuc a (suc n) =
    ap (λ z. negsuc a *ℤ z) (power-negsuc a n) ∙ negative_times a (suc a ^ n) (n % 2 == 0)
    ∙ ap (λ even. signed even (suc a * suc a ^ n)) (sym (parity n))
    ∙ ap (signed (suc n % 2 == 0)) (mul_comm (suc a) (suc a ^ n) ∙ sym (pow-suc (suc a) n))

pub int_pow-power : (a : ℤ) (n : ℕ) → int_pow a n ≡ power a n
int_pow-power (pos a) n = sym (power-pos a n)
int_pow-power (negsuc a) n = sym (power-negsuc a n)

-- ---- wrapped

bits_wrapped : (a : ℤ) → IsWord a → wrapped (pos (of_z w32 a)) ≡ a
unfolding int_wrap
bits_wrapped a f = ap (to_z w32) (mod-eq_of_lt (laws.of_z_fits w32 a f).fits) ∙ to_z-of_z w32 a f

wrapped_bits : (a : ℤ) (n : ℕ) → IsWord a → wrapped (pos (of_z w32 a ^ n)) ≡ wrapped (power a n)
unfolding power
wrapped_bits a zero f = ap (λ x. wrapped (pos x)) (pow-zero (of_z w32 a))
wrapped_bits a (suc n) f =
    let u = of_z w32 a in
    ap (λ x. wrapped (pos x)) (pow-suc u n ∙ mul_comm (u ^ n) u)
    ∙ sym (int_wrap-mul_left w32 (pos u) (pos (u ^ n)))
    ∙ ap (λ z. wrapped (z *ℤ pos (u ^ n))) (bits_wrapped a f)
    ∙ sym (int_wrap-mul_right w32 a (pos (u ^ n)))
    ∙ ap (λ z. wrapped (a *ℤ z)) (wrapped_bits a n f)
    ∙ int_wrap-mul_right w32 a (power a n)

pub wrapping_pow_is : (a : ℤ) (n : ℕ) → IsWord a → int_wrapping_pow w32 a n ≡ wrapped (power a n)
unfolding int_wrap
wrapping_pow_is a n f = wrapped_bits a n f

-- ---- 1 divided by a power

zero_times : (z : ℤ) → pos 0 *ℤ z ≡ pos 0
zero_times z = omega (arith, ints)

pub power-zero : (n : ℕ) → power (pos 0) (suc n) ≡ pos 0
unfolding power
power-zero n = zero_times (power (pos 0) n)

pub power-one : (n : ℕ) → power (pos 1) n ≡ pos 1
unfolding power
power-one zero = refl
power-one (suc n) = ap (λ z. pos 1 *ℤ z) (power-one n)

one-pow : (n : ℕ) → 1 ^ n ≡ 1
one-pow zero = pow-zero 1
one-pow (suc n) = pow-suc 1 n ∙ ap (λ x. x * 1) (one-pow n)

pub power-minus_one : (n : ℕ) → power (negsuc 0) n ≡ (if n % 2 == 0 then pos 1 else negsuc 0)
power-minus_one n = power-negsuc 0 n ∙ ap (signed (n % 2 == 0)) (one-pow n)

pub two-le-pow : (x n : ℕ) → 2 ≤ x → 2 ≤ x ^ suc n
two-le-pow x n h =
    let least : 1 ≤ x ^ n = one-le-pow n x (omega arith) in
    omega (arith, pow-suc x n, mul-le-mul least h)

pub int_eq-no : (x y : ℤ) → (x ≡ y → ⊥) → int_eq x y ≡ false
int_eq-no x y h = by (int_eq x y) refl
  where
    by : (b : Bool) → int_eq x y ≡ b → b ≡ false
    by true e = absurd (h ((Decides-int_eq x y).0 e))
    by false e = refl

tiny_quotient : (p : ℤ) → 2 ≤ unsigned_abs p → int_div (pos 1) p ≡ pos 0
tiny_quotient (pos m) h = ap pos (div-eq_of_lt (omega arith))
tiny_quotient (negsuc m) h = ap (λ x. neg_ℤ (pos x)) (div-eq_of_lt (omega arith))

tiny : (p : ℤ) → 2 ≤ unsigned_abs p → quotient (pos 1) p ≡ Ok (pos 0)
tiny p h =
    ap (λ b. if b then Err Divide else Ok (int_div (pos 1) p)) (int_eq-no p (pos 0) (λ e. absurd (omega (arith, ap unsigned_abs e))))
    ∙ ap (λ z. Ok z) (tiny_quotient p h)

pub inverse-zero : (n : ℕ) → 0 < n → quotient (pos 1) (power (pos 0) n) ≡ Err Divide
inverse-zero zero h = absurd (omega arith)
inverse-zero (suc n) h = ap (quotient (pos 1)) (power-zero n)

pub inverse-one : (n : ℕ) → quotient (pos 1) (power (pos 1) n) ≡ Ok (pos 1)
inverse-one n = ap (quotient (pos 1)) (power-one n)

pub inverse-minus_one : (n : ℕ) → quotient (pos 1) (power (negsuc 0) n) ≡ Ok (if n % 2 == 0 then pos 1 else negsuc 0)
inverse-minus_one n = ap (quotient (pos 1)) (power-minus_one n) ∙ by (n % 2 == 0)
  where
    by : (even : Bool) → quotient (pos 1) (if even then pos 1 else negsuc 0) ≡ Ok (if even then pos 1 else negsuc 0)
    by true = refl
    by false = refl

pub inverse-other : (a : ℤ) (n : ℕ) → 0 < n → 2 ≤ unsigned_abs a → quotient (pos 1) (power a n) ≡ Ok (pos 0)
inverse-other a zero l h = absurd (omega arith)
inverse-other a (suc n) l h = tiny (power a (suc n)) (omega (arith, unsigned_abs-power a (suc n), two-le-pow (unsigned_abs a) n h))

pub inverse-even : (n : ℕ) → n % 2 ≡ 0 → quotient (pos 1) (power (negsuc 0) n) ≡ Ok (pos 1)
inverse-even n e = inverse-minus_one n ∙ ap (λ x. Ok (if x == 0 then pos 1 else negsuc 0)) e

pub inverse-odd : (n : ℕ) → (n % 2 ≡ 0 → ⊥) → quotient (pos 1) (power (negsuc 0) n) ≡ Ok (negsuc 0)
inverse-odd n h = let e : n % 2 ≡ 1 = omega arith in inverse-minus_one n ∙ ap (λ x. Ok (if x == 0 then pos 1 else negsuc 0)) e
