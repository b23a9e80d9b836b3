-- The entities that get names of their own, met unit by unit and name by name.
use Rattle.std.proofs.Common.{◌≡◌, ℕ, zero, suc, ◌+◌, ◌-◌, ◌≤◌, ◌⊎◌, ⊎_elim, Bool, true, false, not, List, [], ◌∷◌, ◌++◌, length, take, map, flat_map, filter, fold, nat_lt, Option, Some, None, if◌then◌else◌, refl, sym, ap, ◌∙◌, arith}
use Rattle.std.specs.Prelude.{bytes_eq}
use Rattle.std.specs.List.{list_any, position_or_len, range_with_len, slice_get}
use Rattle.std.specs.Option.{is_some}
use Rattle.std.proofs.lemmas.List.{map-append, take_more, append-nil}
use Rattle.std.proofs.lemmas.List.Concat.{flat_map-cons}
use Rattle.std.proofs.lemmas.List.Elements.{filter-append}
use Rattle.std.proofs.lemmas.List.Sums.{fold-append}
use Rattle.std.proofs.lemmas.Grind.{flat_map-append}
use Rattle.std.proofs.lemmas.Option.{get_or_from_slice_get, slice_get_past, slice_get_within}
use mathlib.Core.Path.{fun_ext}
use Rattle.indexmap.specs.IndexMap.{get}
use Rattle.f77_tree.specs.declared.statements.Labelled.{Labelled}
use Rattle.f77_tree.specs.Places.{same_block}
use Rattle.entity_names.specs.declared.unit_entities.UnitNames.{UnitNames}
use Rattle.program_units.specs.declared.entity.Entity.{Entity}
use Rattle.program_units.specs.declared.entity.Entity.TheVariants.{Local, InBlock}
use Rattle.program_units.specs.Entities.{entity_of, entity_or}
use Rattle.program_units.specs.Names.{has_block, is_main, names_of_unit, own_names, with_entity, y_entities}
use Rattle.entity_names.specs.UnitEntities.{AreNamesOf, entity_by, is_main_by, own_by}
use Rattle.program_units.specs.Units.{dummies_of, unit_at, unit_or_none}
use Rattle.program_units.proofs.Counting.{inside-is, range-push}

abbrev told : List ℕ → List (List ℕ) → Bool
told x dummies = list_any (bytes_eq x) dummies

-- ---- lists

-- ---- names of a unit

module _ (blocks : List (Option (List ℕ))) (kept : UnitNames) (k : ℕ) where
  pub own-append : (xs ys : List (List ℕ)) → own_by blocks kept k (xs ++ ys) ≡ own_by blocks kept k xs ++ own_by blocks kept k ys
  own-append xs ys =
      let own : List ℕ → Bool = λ x. not (is_some (get bytes_eq kept.places x)) in
      let other : Entity → Bool = λ e. not (is_main_by blocks e) in
      ap (λ (names : List (List ℕ)). filter other (map (entity_by kept k) names)) (filter-append own xs ys)
      ∙ ap (filter other) (map-append (entity_by kept k) (filter own xs) (filter own ys))
      ∙ filter-append other (map (entity_by kept k) (filter own xs)) (map (entity_by kept k) (filter own ys))

  pub own-more : (names : List (List ℕ)) (i : ℕ) (x : List ℕ) (start old new : List Entity) → slice_get names i ≡ Some x → old ≡ fold with_entity start (own_by blocks kept k (take i names))
      → new ≡ fold with_entity old (own_by blocks kept k (x ∷ [])) → new ≡ fold with_entity start (own_by blocks kept k (take (i + 1) names))
  own-more names i x start old new there before is =
      let more : take (i + 1) names ≡ take i names ++ x ∷ [] = take_more names i x (slice_get_within names i x there) ∙ ap (λ (y : List ℕ). take i names ++ y ∷ []) (get_or_from_slice_get names i x x there) in
      is
      ∙ ap (λ (seen : List Entity). fold with_entity seen (own_by blocks kept k (x ∷ []))) before
      ∙ sym (fold-append with_entity start (own_by blocks kept k (take i names)) (own_by blocks kept k (x ∷ [])))
      ∙ ap (fold with_entity start) (sym (ap (own_by blocks kept k) more ∙ own-append (take i names) (x ∷ [])))

-- ---- a unit of the text

module _ (us : List (List Labelled)) (blocks : List (Option (List ℕ))) (main : (block : Option (List ℕ)) → list_any (same_block block) blocks ≡ has_block (unit_at us 0) block) where
  abbrev others : List Entity → List Entity
  others found = filter (λ e. not (is_main us e)) found

  abbrev pub of_unit : ℕ → List Entity
  of_unit k = map (entity_of us k) (own_names us k)

  pub main-is : (e : Entity) → is_main_by blocks e ≡ is_main us e
  main-is (Local k name) = refl
  main-is (InBlock block place) = main block

  dummy-is : (kept : UnitNames) (k : ℕ) → AreNamesOf (unit_at us k) kept → (x : List ℕ) → is_some (get bytes_eq kept.places x) ≡ told x (dummies_of (unit_at us k))
  dummy-is kept k are x =
      let dummies = dummies_of (unit_at us k) in
      ap is_some (are.places x) ∙ by_test (nat_lt (position_or_len (bytes_eq x) dummies) (length dummies)) ∙ inside-is (bytes_eq x) dummies
    where
      by_test : (b : Bool) → is_some (if b then Some (position_or_len (bytes_eq x) (dummies_of (unit_at us k))) else None) ≡ b
      by_test true = refl
      by_test false = refl

  pub own-is : (kept : UnitNames) (k : ℕ) → AreNamesOf (unit_at us k) kept → own_by blocks kept k kept.names ≡ others (of_unit k)
  own-is kept k are =
      let u = unit_at us k in
      ap (own_by blocks kept k) are.names
      ∙ ap (λ (p : Entity → Bool). filter p (map (entity_by kept k) (filter (λ x. not (is_some (get bytes_eq kept.places x))) (names_of_unit u)))) (fun_ext (λ e. ap not (main-is e)))
      ∙ ap (λ (f : List ℕ → Entity). others (map f (filter (λ x. not (is_some (get bytes_eq kept.places x))) (names_of_unit u)))) (fun_ext (λ x. ap (entity_or k x) (are.blocks.entities x)))
      ∙ ap (λ (p : List ℕ → Bool). others (map (entity_of us k) (filter p (names_of_unit u)))) (fun_ext (λ x. ap not (dummy-is kept k are x)))

abbrev pub noted_to : List (List Labelled) → (n : ℕ) → List Entity
noted_to us n = filter (λ e. not (is_main us e)) (flat_map (λ k. map (entity_of us k) (own_names us k)) (range_with_len 1 n))

pub noted-more : (us : List (List Labelled)) (n : ℕ) → noted_to us (suc n) ≡ noted_to us n ++ filter (λ e. not (is_main us e)) (map (entity_of us (1 + n)) (own_names us (1 + n)))
noted-more us n =
    let of : ℕ → List Entity = λ k. map (entity_of us k) (own_names us k) in
    ap (λ (ks : List ℕ). filter (λ e. not (is_main us e)) (flat_map of ks)) (range-push 1 n)
    ∙ ap (filter (λ e. not (is_main us e))) (flat_map-append of (range_with_len 1 n) ((1 + n) ∷ []) ∙ ap (λ (es : List Entity). flat_map of (range_with_len 1 n) ++ es) (flat_map-cons of (1 + n) [] ∙ append-nil (of (1 + n))))
    ∙ filter-append (λ e. not (is_main us e)) (flat_map of (range_with_len 1 n)) (of (1 + n))

pub noted-next : (us : List (List Labelled)) (k : ℕ) (old new : List Entity) → 1 ≤ k → old ≡ fold with_entity [] (noted_to us (k - 1)) → new ≡ fold with_entity old (filter (λ e. not (is_main us e)) (map (entity_of us k) (own_names us k)))
    → new ≡ fold with_entity [] (noted_to us (k + 1 - 1))
noted-next us zero old new some before is = absurd (omega (arith, some))
noted-next us (suc n) old new some before is =
    let of : ℕ → List Entity = λ m. filter (λ e. not (is_main us e)) (map (entity_of us m) (own_names us m)) in
    let one : suc n ≡ 1 + n = omega arith in
    let less : suc n - 1 ≡ n = omega arith in
    let more : suc n ≡ suc n + 1 - 1 = omega arith in
    is
    ∙ ap (λ (m : ℕ). fold with_entity old (of m)) one
    ∙ ap (λ (seen : List Entity). fold with_entity seen (of (1 + n))) (before ∙ ap (λ (m : ℕ). fold with_entity [] (noted_to us m)) less)
    ∙ sym (fold-append with_entity [] (noted_to us n) (of (1 + n)))
    ∙ ap (fold with_entity []) (sym (noted-more us n))
    ∙ ap (λ (m : ℕ). fold with_entity [] (noted_to us m)) more

-- what is no unit has no names
pub no-unit : (us : List (List Labelled)) → own_names us (length us) ≡ []
no-unit us =
    let none : unit_at us (length us) ≡ [] = ap unit_or_none (slice_get_past us (length us) (omega arith)) in
    ap (λ (u : List Labelled). filter (λ x. not (list_any (bytes_eq x) (dummies_of u))) (names_of_unit u)) none

pub noted-all : (us : List (List Labelled)) (k : ℕ) (own : List Entity) → 1 ≤ k → length us ≤ k → k ≤ length us ⊎ k ≡ 1 → own ≡ fold with_entity [] (noted_to us (k - 1)) → own ≡ y_entities us
noted-all us k own some past most is = by_length (length us) refl
  where
    by_length : (n : ℕ) → length us ≡ n → own ≡ fold with_entity [] (noted_to us (length us))
    by_length zero none = is ∙ (let e : k - 1 ≡ length us = ⊎_elim (λ (h : k ≤ length us). absurd (omega (arith, h, none, some))) (λ (h : k ≡ 1). omega (arith, h, none)) most in ap (λ (m : ℕ). fold with_entity [] (noted_to us m)) e)
    by_length (suc n) long =
        let before : k - 1 ≡ n = ⊎_elim (λ (h : k ≤ length us). omega (arith, h, past, long)) (λ (h : k ≡ 1). omega (arith, h, past, long)) most in
        let whole : 1 + n ≡ length us = omega (arith, long) in
        let last : filter (λ e. not (is_main us e)) (map (entity_of us (1 + n)) (own_names us (1 + n))) ≡ [] =
        ap (λ (m : ℕ). filter (λ e. not (is_main us e)) (map (entity_of us m) (own_names us m))) whole ∙ ap (λ (names : List (List ℕ)). filter (λ e. not (is_main us e)) (map (entity_of us (length us)) names)) (no-unit us) in
        is
        ∙ ap (λ (m : ℕ). fold with_entity [] (noted_to us m)) before
        ∙ sym (ap (fold with_entity []) (ap (noted_to us) long ∙ noted-more us n ∙ ap (λ (es : List Entity). noted_to us n ++ es) last ∙ append-nil (noted_to us n)))
