-- What names become, name by name.
use Rattle.std.proofs.Common.{◌≡◌, ℕ, zero, suc, ◌+◌, ◌-◌, ◌≤◌, ◌⊎◌, ⊎_elim, length, List, [], ◌∷◌, ◌++◌, take, map, flat_map, Some, sym, ap, ◌∙◌, arith}
use Rattle.std.specs.List.{range_with_len, slice_get}
use Rattle.std.proofs.lemmas.Grind.{flat_map-append}
use Rattle.std.proofs.lemmas.List.{append-nil, append_assoc, map-append, take_more}
use Rattle.std.proofs.lemmas.List.Concat.{flat_map-cons}
use Rattle.std.proofs.lemmas.Option.{get_or_from_slice_get, slice_get_within}
use Rattle.f77_tree.specs.declared.statements.Labelled.{Labelled}
use Rattle.program_units.proofs.Counting.{range-push}
use Rattle.copied_names.specs.declared.copied.Becomes.{Becomes}
use Rattle.copied_names.specs.declared.copied.CopiedName.{CopiedName}
use Rattle.copied_names.specs.CopiedNames.{becomes, copied_name, copied_names, names_in_copies}

module _ (us : List (List Labelled)) (k : ℕ) (unit : List ℕ) (names : List (List ℕ)) where
  -- one name more
  pub rows-more : (i : ℕ) (x : List ℕ) (start old new : List CopiedName) (u n : List ℕ) (b : Becomes) → slice_get names i ≡ Some x → u ≡ unit → n ≡ x → b ≡ becomes us k x → old ≡ start ++ map (copied_name us k unit) (take i names)
      → new ≡ old ++ record { unit = u; name = n; becomes = b } ∷ [] → new ≡ start ++ map (copied_name us k unit) (take (i + 1) names)
  rows-more i x start old new u n b there same_unit same_name same_new before is =
      let f = copied_name us k unit in
      let row : CopiedName = record { unit = u; name = n; becomes = b } in
      let same : row ≡ f x =
      ap (λ (v : List ℕ). record { unit = v; name = n; becomes = b }) same_unit ∙ ap (λ (v : List ℕ). record { unit = unit; name = v; becomes = b }) same_name ∙ ap (λ (v : Becomes). record { unit = unit; name = x; becomes = v }) same_new in
      let more : take (i + 1) names ≡ take i names ++ x ∷ [] = take_more names i x (slice_get_within names i x there) ∙ ap (λ (y : List ℕ). take i names ++ y ∷ []) (get_or_from_slice_get names i x x there) in
      is
      ∙ ap (λ (rows : List CopiedName). rows ++ row ∷ []) before
      ∙ ap (λ (r : CopiedName). (start ++ map f (take i names)) ++ r ∷ []) same
      ∙ append_assoc start (map f (take i names)) (f x ∷ [])
      ∙ ap (λ (rows : List CopiedName). start ++ rows) (sym (ap (map f) more ∙ map-append f (take i names) (x ∷ [])))

module _ {Y : Type 0} (f : ℕ → List Y) where
  -- one unit more
  pub units-more : (k : ℕ) (old new : List Y) → 1 ≤ k → old ≡ flat_map f (range_with_len 1 (k - 1)) → new ≡ old ++ f k → new ≡ flat_map f (range_with_len 1 (k + 1 - 1))
  units-more zero old new some before is = absurd (omega (arith, some))
  units-more (suc n) old new some before is =
      let less : suc n - 1 ≡ n = omega arith in
      let one : suc n ≡ 1 + n = omega arith in
      let more : suc n ≡ suc n + 1 - 1 = omega arith in
      is
      ∙ ap (λ (ys : List Y). ys ++ f (suc n)) (before ∙ ap (λ (m : ℕ). flat_map f (range_with_len 1 m)) less)
      ∙ ap (λ (m : ℕ). flat_map f (range_with_len 1 n) ++ f m) one
      ∙ ap (λ (ys : List Y). flat_map f (range_with_len 1 n) ++ ys) (sym (flat_map-cons f (1 + n) [] ∙ append-nil (f (1 + n))))
      ∙ sym (ap (flat_map f) (range-push 1 n) ∙ flat_map-append f (range_with_len 1 n) ((1 + n) ∷ []))
      ∙ ap (λ (m : ℕ). flat_map f (range_with_len 1 m)) more

-- all units
pub units-all : (us : List (List Labelled)) (k : ℕ) (rows : List CopiedName) → 1 ≤ k → length us ≤ k → (k ≤ length us) ⊎ (k ≡ 1) → rows ≡ flat_map (names_in_copies us) (range_with_len 1 (k - 1)) → rows ≡ copied_names us
units-all us k rows some past most is =
    let e : k - 1 ≡ length us - 1 = ⊎_elim (λ (h : k ≤ length us). omega (arith, h, past)) (λ (h : k ≡ 1). omega (arith, h, past)) most in
    is ∙ ap (λ (n : ℕ). flat_map (names_in_copies us) (range_with_len 1 n)) e
