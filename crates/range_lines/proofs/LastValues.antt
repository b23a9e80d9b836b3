-- The last value of the variable of a DO, in 64 bits.
use Rattle.std.proofs.Common.{◌≡◌, ◌≢◌, ℕ, zero, suc, negsuc, ◌-◌, ◌*◌, ◌^◌, ◌<◌, ◌≤◌, ℤ, pos, ◌+ℤ◌, ◌*ℤ◌, inl, inr, refl, sym, ap, subst, ◌∙◌, w32, w64, to_z, of_z, arith, FitsSigned}
use Rattle.std.specs.Prelude.{unsigned_abs}
use Rattle.std.proofs.lemmas.Int.{ints, to_z-of_z, to_z_pos, fits_signed_from_abs, unsigned_abs-mul}
use Rattle.std.proofs.Math.Nat.{mul-le-mul_left}
use Rattle.op_table.specs.Words.{IsWord}
use Rattle.op_table.specs.Trips.{trip_count}
use Rattle.op_table.proofs.Counts.{wide}
use Rattle.loop_ranges.proofs.Multiples.{IsAmong, last_among}

step-abs : (s : ℤ) → s ≢ pos 0 → 1 ≤ unsigned_abs s
step-abs (pos zero) some = absurd (some refl)
step-abs (pos (suc n)) some = omega arith
step-abs (negsuc n) some = omega arith

among-word : (a b x : ℤ) → IsWord a → IsWord b → IsAmong a b x → IsWord x
among-word a b x u v (inl is) = let low = is.0 in let high = is.1 in omega (arith, ints, u, v, low, high)
among-word a b x u v (inr is) = let low = is.0 in let high = is.1 in omega (arith, ints, u, v, low, high)

module _ (first last s : ℤ) (count : ℕ) (u : IsWord first) (v : IsWord last) (w : IsWord s) (step : s ≢ pos 0) (is : count ≡ trip_count first last s) (some : 0 < count) where
  pub value_word : IsWord (first +ℤ pos (count - 1) *ℤ s)
  value_word = among-word first last (first +ℤ pos (count - 1) *ℤ s) u v (last_among first last s (count - 1) step (sym is ∙ counted))
    where
      counted : count ≡ suc (count - 1)
      counted = omega (arith, some)

  far : unsigned_abs (pos (count - 1) *ℤ s) ≤ 2 ^ 32
  far = omega (arith, ints, u, value_word)

  few : count - 1 ≤ 2 ^ 32
  few =
      let product : unsigned_abs (pos (count - 1) *ℤ s) ≡ (count - 1) * unsigned_abs s = unsigned_abs-mul (pos (count - 1)) s in
      let least : (count - 1) * 1 ≤ (count - 1) * unsigned_abs s = mul-le-mul_left (count - 1) (step-abs s step) in
      omega (arith, product, least, far)

  module _ (f g : ℤ) (is_f : f ≡ to_z w32 (of_z w32 first)) (is_g : g ≡ to_z w32 (of_z w32 s)) where
    abbrev product_of : ℤ
    product_of = to_z w64 (count - 1) *ℤ to_z w64 (of_z w64 g)

    product_is : product_of ≡ pos (count - 1) *ℤ s
    product_is =
        ap (λ x. x *ℤ to_z w64 (of_z w64 g)) (to_z_pos w64 (count - 1) (omega (arith, few)))
        ∙ ap (λ x. pos (count - 1) *ℤ x) (wide s g w is_g)

    pub product_fits : FitsSigned w64 product_of
    product_fits = subst (FitsSigned w64) (sym product_is) (fits_signed_from_abs w64 (pos (count - 1) *ℤ s) (omega (arith, far)))

    abbrev sum_of : ℤ
    sum_of = to_z w64 (of_z w64 f) +ℤ to_z w64 (of_z w64 product_of)

    sum_is : sum_of ≡ first +ℤ pos (count - 1) *ℤ s
    sum_is =
        ap (λ x. x +ℤ to_z w64 (of_z w64 product_of)) (wide first f u is_f)
        ∙ ap (λ x. first +ℤ x) (to_z-of_z w64 product_of product_fits ∙ product_is)

    pub sum_fits : FitsSigned w64 sum_of
    sum_fits = subst (FitsSigned w64) (sym sum_is) (fits_signed_from_abs w64 (first +ℤ pos (count - 1) *ℤ s) (omega (arith, ints, value_word)))

    wide_sum : to_z w64 (of_z w64 sum_of) ≡ first +ℤ pos (count - 1) *ℤ s
    wide_sum = to_z-of_z w64 sum_of sum_fits ∙ sum_is

    pub cast_fits : FitsSigned w32 (to_z w64 (of_z w64 sum_of))
    cast_fits = subst (FitsSigned w32) (sym wide_sum) value_word

    pub cast_is : to_z w32 (of_z w32 (to_z w64 (of_z w64 sum_of))) ≡ first +ℤ pos (count - 1) *ℤ s
    cast_is = to_z-of_z w32 (to_z w64 (of_z w64 sum_of)) cast_fits ∙ wide_sum
