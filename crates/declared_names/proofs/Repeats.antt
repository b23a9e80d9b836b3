-- Items that stand before, one after another.
use Rattle.std.proofs.Common.{◌≡◌, ℕ, suc, ◌+◌, ◌-◌, ◌<◌, ◌||◌, Bool, true, false, List, ◌∷◌, ◌++◌, sym, ap, ◌∙◌, append_assoc, arith}
use Rattle.std.specs.List.{range_with_len}
use Rattle.layout_rules.specs.Faults.{has_repeat}
use Rattle.layout_rules.proofs.FirstLine.{has_repeat-append}

module _ {A : Type 0} (same : A → A → Bool) (seen items first rest : List A) (is : items ≡ first ++ rest) where
  -- one of the first items stands before
  pub repeats_within : has_repeat same seen first ≡ true → has_repeat same seen items ≡ true
  repeats_within there = ap (has_repeat same seen) is ∙ has_repeat-append same seen first rest ∙ ap (λ b. b || has_repeat same (seen ++ first) rest) there

  -- none of them does
  pub repeats_after : has_repeat same seen first ≡ false → has_repeat same seen items ≡ has_repeat same (seen ++ first) rest
  repeats_after absent = ap (has_repeat same seen) is ∙ has_repeat-append same seen first rest ∙ ap (λ b. b || has_repeat same (seen ++ first) rest) absent

  pub more_of_them : (seen ++ first) ++ rest ≡ seen ++ items
  more_of_them = append_assoc seen first rest ∙ ap (λ xs. seen ++ xs) (sym is)

-- the numbers from a on
pub range_next : (a b : ℕ) → a < b → range_with_len a (b - a) ≡ a ∷ range_with_len (a + 1) (b - (a + 1))
range_next a b lt =
    let longer : b - a ≡ suc (b - (a + 1)) = omega arith in
    ap (range_with_len a) longer
