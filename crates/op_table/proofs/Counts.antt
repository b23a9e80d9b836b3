-- The count of a DO, in 64 bits.
use Rattle.std.proofs.Common.{◌≡◌, ◌^◌, ◌<◌, ℤ, pos, negsuc, ◌+ℤ◌, ◌-ℤ◌, refl, sym, ap, subst, ◌∙◌, w32, w64, to_z, of_z, arith, suc, zero, FitsSigned}
use Rattle.std.specs.Prelude.{unsigned_abs, int_div, int_lt, Bool, true, false, cond}
use Rattle.std.specs.Int.{int_max}
use Rattle.std.proofs.lemmas.Int.{ints, to_z-of_z, fits_signed_from_abs}
use Rattle.op_table.specs.Words.{IsWord}
use Rattle.op_table.specs.Trips.{at_least_zero, trip_count}
use Rattle.op_table.proofs.Rows.{int_div-le}

-- the same number at 64 bits
pub wide : (x f : ℤ) → IsWord x → f ≡ to_z w32 (of_z w32 x) → to_z w64 (of_z w64 f) ≡ x
wide x f w e =
    let same : f ≡ x = e ∙ to_z-of_z w32 x w in
    let fits : FitsSigned w64 x = omega (arith, ints) in
    ap (λ z. to_z w64 (of_z w64 z)) same ∙ to_z-of_z w64 x fits

-- what is divided
abbrev pub sum_of : ℤ → ℤ → ℤ → ℤ
sum_of f l s = to_z w64 (of_z w64 (to_z w64 (of_z w64 (to_z w64 (of_z w64 l) -ℤ to_z w64 (of_z w64 f))) +ℤ to_z w64 (of_z w64 s)))

narrow : (first last step : ℤ) → IsWord first → IsWord last → IsWord step → to_z w64 (of_z w64 (to_z w64 (of_z w64 (last -ℤ first)) +ℤ step)) ≡ last -ℤ first +ℤ step
narrow first last step u v w =
    let inner : FitsSigned w64 (last -ℤ first) = omega (arith, ints) in
    let outer : FitsSigned w64 (last -ℤ first +ℤ step) = omega (arith, ints) in
    ap (λ z. to_z w64 (of_z w64 (z +ℤ step))) (to_z-of_z w64 (last -ℤ first) inner) ∙ to_z-of_z w64 (last -ℤ first +ℤ step) outer

small : (first last step : ℤ) → IsWord first → IsWord last → IsWord step → unsigned_abs (last -ℤ first +ℤ step) < 2 ^ 63
small first last step u v w = omega (arith, ints)

pub quotient_fits : (first last step : ℤ) → IsWord first → IsWord last → IsWord step → FitsSigned w64 (int_div (last -ℤ first +ℤ step) step)
quotient_fits first last step u v w = fits_signed_from_abs w64 (int_div (last -ℤ first +ℤ step) step) (omega (arith, small first last step u v w, int_div-le (last -ℤ first +ℤ step) step))

-- a number or 0, as the greater of the two
pub size_of_max : (q : ℤ) → unsigned_abs (int_max q (pos 0)) ≡ at_least_zero q
size_of_max (pos n) = by (int_lt (pos 0) (pos n)) refl
  where
    by : (b : Bool) → int_lt (pos 0) (pos n) ≡ b → unsigned_abs (cond b (pos n) (pos 0)) ≡ n
    by true e = refl
    by false e = omega (arith, ints)
size_of_max (negsuc n) = refl

bits_some : (z : ℤ) → IsWord z → (z ≡ pos 0 → ⊥) → 0 < of_z w64 z
bits_some (pos zero) w h = absurd (h refl)
bits_some (pos (suc n)) w h = omega arith
bits_some (negsuc n) w h = omega (arith, w.sfits)

module _ (first last step f l s : ℤ) (u : IsWord first) (v : IsWord last) (w : IsWord step) (ef : f ≡ to_z w32 (of_z w32 first)) (el : l ≡ to_z w32 (of_z w32 last)) (es : s ≡ to_z w32 (of_z w32 step)) where
  pub sum_is : sum_of f l s ≡ last -ℤ first +ℤ step
  sum_is =
      ap (λ z. to_z w64 (of_z w64 (to_z w64 (of_z w64 (z -ℤ to_z w64 (of_z w64 f))) +ℤ to_z w64 (of_z w64 s)))) (wide last l v el)
      ∙ ap (λ z. to_z w64 (of_z w64 (to_z w64 (of_z w64 (last -ℤ z)) +ℤ to_z w64 (of_z w64 s)))) (wide first f u ef)
      ∙ ap (λ z. to_z w64 (of_z w64 (to_z w64 (of_z w64 (last -ℤ first)) +ℤ z))) (wide step s w es)
      ∙ narrow first last step u v w

  pub divided : int_div (sum_of f l s) (to_z w64 (of_z w64 s)) ≡ int_div (last -ℤ first +ℤ step) step
  divided = ap (λ z. int_div z (to_z w64 (of_z w64 s))) sum_is ∙ ap (int_div (last -ℤ first +ℤ step)) (wide step s w es)

  pub some_step : (step ≡ pos 0 → ⊥) → 0 < of_z w64 s
  some_step h = subst (λ z. 0 < of_z w64 z) (sym (es ∙ to_z-of_z w32 step w)) (bits_some step w h)

  pub quotient_wide : FitsSigned w64 (int_div (sum_of f l s) (to_z w64 (of_z w64 s)))
  quotient_wide = subst (FitsSigned w64) (sym divided) (quotient_fits first last step u v w)

  pub count_is : (most : ℤ) → FitsSigned w64 most → most ≡ int_max (to_z w64 (of_z w64 (int_div (sum_of f l s) (to_z w64 (of_z w64 s))))) (pos 0) → unsigned_abs (to_z w64 (of_z w64 most)) ≡ trip_count first last step
  count_is most g e =
      ap unsigned_abs (to_z-of_z w64 most g ∙ e ∙ ap (λ z. int_max z (pos 0)) (to_z-of_z w64 (int_div (sum_of f l s) (to_z w64 (of_z w64 s))) quotient_wide ∙ divided))
      ∙ size_of_max (int_div (last -ℤ first +ℤ step) step)
