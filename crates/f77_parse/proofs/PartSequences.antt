-- Parts one after another up to the end of a text, for any reader of parts.
use Rattle.std.proofs.Common.{◌≡◌, ℕ, zero, suc, ◌≤◌, Bool, true, List, [], ◌∷◌, ◌++◌, length, flat_map, Some, refl, ap, ◌∙◌, arith, length-append}
use Rattle.f77_expr.specs.Reader.{Reads, read_as, and_then_read}
use Rattle.f77_expr.proofs.EachRead.{Each, each_then, each_as}
use Rattle.f77_parse.specs.Parts.{parts_to_end}
use Rattle.f77_parse.proofs.Followers.{IsAtStart, Every}

module _ {A : Type 0} (part : List ℕ → Reads A) (to_text : A → List ℕ) (Fits : A → Type 0) where
  -- the parts are the whole text
  abbrev pub AreAll : List ℕ → List A → List ℕ → Type 0
  AreAll text parts rest = Every Fits parts × (flat_map to_text parts ≡ text) × (rest ≡ [])

  pub parts_sound : ((text : List ℕ) → Each (λ a rest. IsAtStart Fits to_text text a rest) (part text)) → (n : ℕ) (text : List ℕ) → Each (λ parts rest. AreAll text parts rest) (parts_to_end n part text)
  parts_sound sound n [] = (tt, refl, refl)
  parts_sound sound zero (c ∷ text) = tt
  parts_sound sound (suc n) (c ∷ text) = here (λ rest. parts_sound sound n rest)
    where
      here : ((rest : List ℕ) → Each (λ parts tail. AreAll rest parts tail) (parts_to_end n part rest)) → Each (λ parts rest. AreAll (c ∷ text) parts rest) (parts_to_end (suc n) part (c ∷ text))
      here others =
          each_then (λ a rest. IsAtStart Fits to_text (c ∷ text) a rest) (λ parts rest. AreAll (c ∷ text) parts rest) (λ a rest. read_as (λ parts. a ∷ parts) (parts_to_end n part rest)) (part (c ∷ text)) (sound (c ∷ text))
          (λ a rest is. each_as (λ parts tail. AreAll rest parts tail) (λ parts rest. AreAll (c ∷ text) parts rest) (λ parts. a ∷ parts) (parts_to_end n part rest) (others rest)
          (λ parts tail h. ((is.0, h.0), ap (λ more. to_text a ++ more) h.1 ∙ is.1, h.2)))

  part_step : (n : ℕ) (text : List ℕ) → 1 ≤ length text → parts_to_end (suc n) part text ≡ and_then_read (λ a rest. read_as (λ parts. a ∷ parts) (parts_to_end n part rest)) (part text)
  part_step n [] some = absurd (omega arith)
  part_step n (c ∷ text) some = refl

  -- where each part is read before the others, and has some text
  module _ (follows : List ℕ → Bool) (ends : follows [] ≡ true) (begins : (a : A) (rest : List ℕ) → Fits a → follows (to_text a ++ rest) ≡ true) where
    pub parts_follow : (parts : List A) → Every Fits parts → follows (flat_map to_text parts) ≡ true
    parts_follow [] fit = ends
    parts_follow (a ∷ more) fit = begins a (flat_map to_text more) fit.0

    module _ (reads : (a : A) (rest : List ℕ) → Fits a → follows rest ≡ true → part (to_text a ++ rest) ≡ Some (a, rest)) (some : (a : A) → Fits a → 1 ≤ length (to_text a)) where
      few_parts : (parts : List A) → Every Fits parts → length parts ≤ length (flat_map to_text parts)
      few_parts [] fit = omega arith
      few_parts (a ∷ more) fit = omega (arith, few_parts more fit.1, some a fit.0, length-append (to_text a) (flat_map to_text more))

      read_parts : (n : ℕ) (parts : List A) → length parts ≤ n → Every Fits parts → parts_to_end n part (flat_map to_text parts) ≡ Some (parts, [])
      read_parts n [] few fit = refl
      read_parts zero (a ∷ more) few fit = absurd (omega arith)
      read_parts (suc n) (a ∷ more) few fit =
          let others : List ℕ = flat_map to_text more in
          part_step n (to_text a ++ others) (omega (arith, some a fit.0, length-append (to_text a) others))
          ∙ ap (and_then_read (λ b rest. read_as (λ parts. b ∷ parts) (parts_to_end n part rest))) (reads a others fit.0 (parts_follow more fit.1))
          ∙ ap (read_as (λ parts. a ∷ parts)) (read_parts n more (omega arith) fit.1)

      pub parts_reads : (parts : List A) → Every Fits parts → parts_to_end (length (flat_map to_text parts)) part (flat_map to_text parts) ≡ Some (parts, [])
      parts_reads parts fit = read_parts (length (flat_map to_text parts)) parts (few_parts parts fit) fit
