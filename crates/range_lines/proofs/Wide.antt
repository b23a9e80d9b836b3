-- A product of two words and a small constant, in 64 bits.
use Rattle.std.proofs.Common.{◌≡◌, ◌^◌, ◌*◌, ◌≤◌, ℤ, ◌+ℤ◌, ◌*ℤ◌, sym, ap, subst, ◌∙◌, w32, w64, to_z, of_z, arith, FitsSigned, true, false}
use mir.Val.{SFits}
use Rattle.std.specs.Prelude.{unsigned_abs, int_le, ◌&&◌}
use Rattle.std.proofs.lemmas.Int.{ints, to_z-of_z, fits_signed_from_abs, unsigned_abs-mul}
use Rattle.std.proofs.Math.Nat.{mul-le-mul}
use Rattle.op_table.specs.Words.{IsWord}
use Rattle.op_table.proofs.Counts.{wide}
use Rattle.f77_tree.specs.declared.declarations.Dim.{Dim}
use Rattle.range_lines.specs.Shapes.{lies_in}

word-abs : (z : ℤ) → IsWord z → unsigned_abs z ≤ 2 ^ 31
word-abs z w = omega (arith, ints, w)

module _ (a b c : ℤ) (u : IsWord a) (v : IsWord b) (small : unsigned_abs c ≤ 2 ^ 31) where
  abs_product : unsigned_abs (a *ℤ b) ≤ 2 ^ 31 * 2 ^ 31
  abs_product = subst (λ n. n ≤ 2 ^ 31 * 2 ^ 31) (sym (unsigned_abs-mul a b)) (mul-le-mul (word-abs a u) (word-abs b v))

  pub product_fits : FitsSigned w64 (a *ℤ b)
  product_fits = fits_signed_from_abs w64 (a *ℤ b) (omega (arith, abs_product))

  pub sum_fits : FitsSigned w64 (a *ℤ b +ℤ c)
  sum_fits = fits_signed_from_abs w64 (a *ℤ b +ℤ c) (omega (arith, ints, abs_product, small))

  -- as the code computes them
  module _ (f g : ℤ) (is_f : f ≡ to_z w32 (of_z w32 a)) (is_g : g ≡ to_z w32 (of_z w32 b)) where
    abbrev pub product_of : ℤ
    product_of = to_z w64 (of_z w64 (to_z w64 (of_z w64 f) *ℤ to_z w64 (of_z w64 g)))

    product_is : product_of ≡ a *ℤ b
    product_is = ap (λ x. to_z w64 (of_z w64 (x *ℤ to_z w64 (of_z w64 g)))) (wide a f u is_f) ∙ ap (λ x. to_z w64 (of_z w64 (a *ℤ x))) (wide b g v is_g) ∙ to_z-of_z w64 (a *ℤ b) product_fits

    constant_is : to_z w64 (of_z w64 c) ≡ c
    constant_is = to_z-of_z w64 c (fits_signed_from_abs w64 c (omega (arith, small)))

    same_sum : product_of +ℤ to_z w64 (of_z w64 c) ≡ a *ℤ b +ℤ c
    same_sum = ap (λ x. x +ℤ to_z w64 (of_z w64 c)) product_is ∙ ap (λ x. a *ℤ b +ℤ x) constant_is

    pub code_is : to_z w64 (of_z w64 (product_of +ℤ to_z w64 (of_z w64 c))) ≡ a *ℤ b +ℤ c
    code_is = ap (λ x. to_z w64 (of_z w64 x)) same_sum ∙ to_z-of_z w64 (a *ℤ b +ℤ c) sum_fits

-- ---- a comparison in 64 bits

module _ (dim : Dim) (z l n : ℤ) (u : IsWord dim.lo) (fits : SFits w64 n) (is : n ≡ z) (is_l : l ≡ to_z w32 (of_z w32 dim.lo)) where
  same : to_z w64 (of_z w64 n) ≡ z
  same = to_z-of_z w64 n fits ∙ is

  lower : int_le (to_z w64 (of_z w64 l)) (to_z w64 (of_z w64 n)) ≡ int_le dim.lo z
  lower = ap (λ x. int_le x (to_z w64 (of_z w64 n))) (wide dim.lo l u is_l) ∙ ap (int_le dim.lo) same

  -- the upper bound is looked at after the lower one
  pub upper_tested : (h : ℤ) → IsWord dim.hi → h ≡ to_z w32 (of_z w32 dim.hi) → int_le (to_z w64 (of_z w64 l)) (to_z w64 (of_z w64 n)) ≡ true → int_le (to_z w64 (of_z w64 n)) (to_z w64 (of_z w64 h)) ≡ lies_in dim z
  upper_tested h v is_h low =
      ap (λ x. int_le x (to_z w64 (of_z w64 h))) same ∙ ap (int_le z) (wide dim.hi h v is_h)
      ∙ ap (λ b. b && int_le z dim.hi) (sym low ∙ lower)

  pub lower_failed : int_le (to_z w64 (of_z w64 l)) (to_z w64 (of_z w64 n)) ≡ false → int_le (to_z w64 (of_z w64 l)) (to_z w64 (of_z w64 n)) ≡ lies_in dim z
  lower_failed low = low ∙ ap (λ b. b && int_le z dim.hi) (sym low ∙ lower)
