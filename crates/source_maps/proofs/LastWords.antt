-- The last word of an output that ends with the line of a trap.
use Rattle.std.proofs.Common.{◌≡◌, ◌<◌, ◌^◌, ◌==◌, ℕ, Bool, false, List, [], ◌∷◌, ◌++◌, if◌then◌else◌, arith, ap, refl, sym, ◌∙◌}
use Rattle.std.specs.Fmt.{decimal}
use Rattle.std.specs.List.{list_any}
use Rattle.std.proofs.lemmas.Fmt.{decimal_by_steps}
use Rattle.std.proofs.lemmas.List.{append_assoc, append_cancel_right}
use Rattle.std.proofs.lemmas.List.Folds.{list_any-append}
use Rattle.source_maps.specs.Outputs.{after_blank, line_words}

abbrev has_blank : List ℕ → Bool
has_blank text = list_any (λ c. c == 32) text

no_blank : (otherwise text : List ℕ) → has_blank text ≡ false → after_blank otherwise text ≡ otherwise
no_blank otherwise [] none = refl
no_blank otherwise (c ∷ rest) none = grind (arith, no_blank otherwise rest)

behind_blank : (otherwise front word : List ℕ) → has_blank word ≡ false → after_blank otherwise (front ++ 32 ∷ word) ≡ word
behind_blank otherwise [] word none = no_blank word word none
behind_blank otherwise (c ∷ front) word none = behind_blank (if c == 32 then front ++ 32 ∷ word else otherwise) front word none

digits_without : (line : ℕ) → line < 2 ^ 64 → has_blank (decimal line ++ 10 ∷ []) ≡ false
digits_without line small =
    decimal_by_steps (λ n digits. has_blank (digits ++ 10 ∷ []) ≡ false) (λ n low. grind (arith)) (λ n digits high so. grind (arith, list_any-append, so)) line small

-- the digits of the line and an LF
last_of_trap : (otherwise front : List ℕ) (line : ℕ) → line < 2 ^ 64 → after_blank otherwise (front ++ line_words line) ≡ decimal line ++ 10 ∷ []
last_of_trap otherwise front line small =
    let before : List ℕ = 32 ∷ 76 ∷ 73 ∷ 78 ∷ 69 ∷ [] in
    let word : List ℕ = decimal line ++ 10 ∷ [] in
    ap (λ t. after_blank otherwise t) (sym (append_assoc front before (32 ∷ word))) ∙ behind_blank otherwise (front ++ before) word (digits_without line small)

-- the last word of an output that ends so, and its digits
pub word_of_trap : (text front : List ℕ) (line : ℕ) → line < 2 ^ 64 → text ≡ front ++ line_words line → after_blank text text ≡ decimal line ++ 10 ∷ []
word_of_trap text front line small ends = ap (λ t. after_blank t t) ends ∙ last_of_trap (front ++ line_words line) front line small

pub digits_of_trap : (text digits front : List ℕ) (line : ℕ) → line < 2 ^ 64 → text ≡ front ++ line_words line → after_blank text text ≡ digits ++ 10 ∷ [] → digits ≡ decimal line
digits_of_trap text digits front line small ends last = append_cancel_right digits (decimal line) (10 ∷ []) (sym last ∙ word_of_trap text front line small ends)
