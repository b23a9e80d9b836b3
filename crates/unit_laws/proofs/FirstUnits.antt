-- The first unit that has a block that is merged.
use Rattle.std.proofs.Common.{◌≡◌, ℕ, zero, suc, ◌<◌, Bool, true, false, not, ◌||◌, cond, List, [], ◌∷◌, length, filter, Option, Some, None, if◌then◌else◌, refl, sym, ap, ◌∙◌, arith}
use Rattle.std.specs.List.{list_any, position_or_len, slice_get}
use Rattle.std.proofs.lemmas.Bool.{and_parts, lt-ltb, or_left, or_right}
use Rattle.f77_tree.specs.declared.statements.Labelled.{Labelled}
use Rattle.program_units.specs.Expansion.{units_but_main}
use Rattle.program_units.specs.Names.{has_block}
use Rattle.program_units.specs.Merged.{first_with_block, is_merged, is_run_block}
use Rattle.program_units.specs.Units.{unit_at, unit_or_none}
use Rattle.unit_laws.proofs.ManyBlocks.{is-first}
use Rattle.program_units.proofs.Counting.{first-inside}

pub any-at : {X : Type 0} (p : X → Bool) (xs : List X) (j : ℕ) (x : X) → slice_get xs j ≡ Some x → p x ≡ true → list_any p xs ≡ true
any-at p [] j x here passes = let e : None ≡ Some x = here in absurd cc
any-at p (y ∷ ys) zero x here passes = let e : Some y ≡ Some x = here in let same : y ≡ x = cc in or_left (p y) (list_any p ys) (ap p same ∙ passes)
any-at p (y ∷ ys) (suc j) x here passes = or_right (p y) (list_any p ys) (any-at p ys j x here passes)

first-passes : {X : Type 0} (p : X → Bool) (xs : List X) (y : X) (ys : List X) → filter p xs ≡ y ∷ ys → p y ≡ true
first-passes p [] y ys is = absurd cc
first-passes p (x ∷ xs) y ys is = by (p x) refl is (first-passes p xs y ys)
  where
    by : (b : Bool) → p x ≡ b → cond b (x ∷ filter p xs) (filter p xs) ≡ y ∷ ys → (filter p xs ≡ y ∷ ys → p y ≡ true) → p y ≡ true
    by true passes e later = let same : x ≡ y = cc in ap p (sym same) ∙ passes
    by false fails e later = later e

-- a unit that has a block, and no unit before it has
pub record HasFirst (us : List (List Labelled)) (block : Option (List ℕ)) : Type 0 where
  pub unit : ℕ
  pub is : first_with_block us block ≡ Some unit
  pub inside : unit < length us
  pub has : has_block (unit_at us unit) block ≡ true
  pub behind_main : 0 < unit

module _ (us : List (List Labelled)) (block : Option (List ℕ)) where
  abbrev has : List Labelled → Bool
  has u = has_block u block

  unit-has : (k : ℕ) → has (unit_at us k) ≡ true → list_any has us ≡ true
  unit-has k is = by (slice_get us k) refl is
    where
      by : (o : Option (List Labelled)) → slice_get us k ≡ o → has (unit_or_none o) ≡ true → list_any has us ≡ true
      by None at it = let e : false ≡ true = it in absurd cc
      by (Some u) at it = any-at has us k u at it

  some-has : (ks : List ℕ) → list_any (λ k. has (unit_at us k)) ks ≡ true → list_any has us ≡ true
  some-has [] any = let e : false ≡ true = any in absurd cc
  some-has (k ∷ ks) any = by (has (unit_at us k)) refl any (some-has ks)
    where
      by : (b : Bool) → has (unit_at us k) ≡ b → (b || list_any (λ k. has (unit_at us k)) ks) ≡ true → (list_any (λ k. has (unit_at us k)) ks ≡ true → list_any has us ≡ true) → list_any has us ≡ true
      by true is it later = unit-has k is
      by false is it later = later it

  above-main : (k : ℕ) → not (has (unit_at us 0)) ≡ true → has (unit_at us k) ≡ true → 0 < k
  above-main zero lacks is = let e : false ≡ true = sym (ap not is) ∙ lacks in absurd cc
  above-main (suc k) lacks is = omega arith

  pub first-unit : is_merged us block ≡ true → HasFirst us block
  first-unit put =
      let parts = and_parts (not (has (unit_at us 0))) (is_run_block us block) put in
      let k : ℕ = position_or_len has us in
      let inside : k < length us = first-inside has us (some-has (units_but_main us) parts.1) in
      let is : first_with_block us block ≡ Some k = ap (λ (b : Bool). if b then Some k else None) (lt-ltb k (length us) inside) in
      let first = is-first block us k is in
      let it : has (unit_at us k) ≡ true = first-passes has us (unit_at us k) first.rest first.kept in
      record { unit = k; is = is; inside = inside; has = it; behind_main = above-main k parts.0 it }
