-- Flags that tell which executables may trap.
use Rattle.std.proofs.Common.{◌≡◌, ℕ, ◌+◌, ◌<◌, ◌≤◌, ◌↔◌, Bool, true, false, List, [], ◌∷◌, ◌++◌, length, get_or, sym, subst, ap, ◌∙◌, ⊎_elim, length-append, arith}
use Rattle.std.proofs.lemmas.Bool.{cases_lt, false≢true}
use Rattle.std.proofs.lemmas.List.{get_or_append_left, get_or_past, get_or_push}
use Rattle.dep_routing.specs.Touches.{IsFlagged}

module _ (may : ℕ → Type 0) where
  -- the flags of the executables below a number
  pub record TellRisks (i : ℕ) (flags : List Bool) : Type 0 where
    pub count : length flags ≡ i
    pub each : (k : ℕ) → k < i → IsFlagged flags k ↔ may k

  pub first-risks : (flags : List Bool) → flags ≡ [] → TellRisks 0 flags
  first-risks flags none = record { count = ap length none; each = λ k below. absurd (omega (arith, below)) }

  module _ (i : ℕ) (flags : List Bool) (flag : Bool) (told : (flag ≡ true) ↔ may i) (before : TellRisks i flags) where
    value : get_or (flags ++ flag ∷ []) i false ≡ flag
    value = get_or_push flags flag false i before.count

    here : IsFlagged (flags ++ flag ∷ []) i ↔ may i
    here = (λ h. told.0 (sym value ∙ h), λ can. value ∙ told.1 can)

    pub more-risks : TellRisks (i + 1) (flags ++ flag ∷ [])
    more-risks = record {
      count = let count = before.count in let more = length-append flags (flag ∷ []) in omega (arith, count, more);
      each = λ k below. ⊎_elim
          (λ (less : k < i).
          let count = before.count in
          let same : get_or (flags ++ flag ∷ []) k false ≡ get_or flags k false = get_or_append_left flags (flag ∷ []) false k (omega (arith, less, count)) in
          (λ h. (before.each k less).0 (sym same ∙ h), λ can. same ∙ (before.each k less).1 can))
          (λ (most : i ≤ k).
          let is : i ≡ k = omega (arith, most, below) in
          subst (λ (n : ℕ). IsFlagged (flags ++ flag ∷ []) n ↔ may n) is here)
          (cases_lt k i);
    }

  -- there are no others that may
  pub all-risks : (i end : ℕ) (flags : List Bool) → end ≤ i → ((k : ℕ) → end ≤ k → may k → ⊥) → TellRisks i flags → (k : ℕ) → IsFlagged flags k ↔ may k
  all-risks i end flags whole none told k = ⊎_elim
      (λ (less : k < i). told.each k less)
      (λ (most : i ≤ k).
      let count = told.count in
      let off : get_or flags k false ≡ false = get_or_past flags k false (omega (arith, count, most)) in
      (λ h. absurd (false≢true (sym off ∙ h)), λ can. absurd (none k (omega (arith, whole, most)) can)))
      (cases_lt k i)
