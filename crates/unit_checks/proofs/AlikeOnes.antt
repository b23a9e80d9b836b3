-- Two lists, compared index by index.
use Rattle.std.proofs.Common.{◌≡◌, ℕ, zero, suc, ◌+◌, ◌<◌, ◌≤◌, Bool, true, false, ◌&&◌, List, [], ◌∷◌, length, drop, eqb, nat_lt, Option, Some, None, ⊎_elim, refl, sym, ap, ◌∙◌, add-one, arith}
use Rattle.std.specs.Prelude.{slice_get}
use Rattle.std.proofs.lemmas.Bool.{cases_Bool, eq-eqb, ne_eqb, ltb-true, ltb-false}
use Rattle.f77_tree.specs.declared.statements.Labelled.{Labelled}
use Rattle.declared_names.specs.Described.{described}
use Rattle.program_units.specs.Refusals.{are_alike, is_alike}
use Rattle.unit_checks.specs.Alike.{are_alike_told, are_both}

module _ {A B : Type 0} (fits : A → B → Bool) where
  -- as many, which fit one by one
  abbrev pub all_fit : List A → List B → Bool
  all_fit [] [] = true
  all_fit (a ∷ as_here) (b ∷ as_there) = fits a b && all_fit as_here as_there
  all_fit _ _ = false

  abbrev empty : List B
  empty = []

  drop_none : (i : ℕ) → drop i empty ≡ empty
  drop_none zero = refl
  drop_none (suc i) = refl

  get_none : (i : ℕ) → slice_get empty i ≡ None
  get_none zero = refl
  get_none (suc i) = refl

  both-none : (a : Option A) → are_both fits a None ≡ false
  both-none None = refl
  both-none (Some a) = refl

  pub both-some : (x : Option A) (y : Option B) (a : A) (b : B) → x ≡ Some a → y ≡ Some b → fits a b ≡ are_both fits x y
  both-some x y a b left right =
      sym (ap (λ (o : Option A). are_both fits o y) left ∙ ap (are_both fits (Some a)) right)

  pub second-none : (x : Option A) (y : Option B) → y ≡ None → false ≡ are_both fits x y
  second-none x y is = sym (ap (are_both fits x) is ∙ both-none x)

  pub first-none : (x : Option A) (y : Option B) → x ≡ None → false ≡ are_both fits x y
  first-none x y is = sym (ap (λ (o : Option A). are_both fits o y) is)

  fit-next : (xs : List A) (ys : List B) (i : ℕ) → are_both fits (slice_get xs i) (slice_get ys i) ≡ true → all_fit (drop i xs) (drop i ys) ≡ all_fit (drop (suc i) xs) (drop (suc i) ys)
  fit-next [] ys zero is = let e : false ≡ true = is in absurd cc
  fit-next [] ys (suc i) is = let e : false ≡ true = is in absurd cc
  fit-next (x ∷ xs) [] zero is = let e : false ≡ true = is in absurd cc
  fit-next (x ∷ xs) [] (suc i) is = let e : false ≡ true = sym (both-none (slice_get xs i)) ∙ is in absurd cc
  fit-next (x ∷ xs) (y ∷ ys) zero is = ap (λ (b : Bool). b && all_fit xs ys) is
  fit-next (x ∷ xs) (y ∷ ys) (suc i) is = fit-next xs ys i is

  -- those at the index i fit
  pub fit-more : (xs : List A) (ys : List B) (i : ℕ) → are_both fits (slice_get xs i) (slice_get ys i) ≡ true → all_fit (drop i xs) (drop i ys) ≡ all_fit (drop (i + 1) xs) (drop (i + 1) ys)
  fit-more xs ys i is =
      fit-next xs ys i is ∙ ap (λ n. all_fit (drop n xs) (drop n ys)) (sym (add-one i))

  pub fit-inside : (xs : List A) (ys : List B) (i : ℕ) → are_both fits (slice_get xs i) (slice_get ys i) ≡ true → i < length ys
  fit-inside [] ys zero is = let e : false ≡ true = is in absurd cc
  fit-inside [] ys (suc i) is = let e : false ≡ true = is in absurd cc
  fit-inside (x ∷ xs) [] zero is = let e : false ≡ true = is in absurd cc
  fit-inside (x ∷ xs) [] (suc i) is = let e : false ≡ true = sym (both-none (slice_get xs i)) ∙ is in absurd cc
  fit-inside (x ∷ xs) (y ∷ ys) zero is = omega arith
  fit-inside (x ∷ xs) (y ∷ ys) (suc i) is = let less = fit-inside xs ys i is in omega (arith, less)

  -- those at the index i don't fit
  pub fit-none : (xs : List A) (ys : List B) (i : ℕ) → i < length xs → are_both fits (slice_get xs i) (slice_get ys i) ≡ false → all_fit (drop i xs) (drop i ys) ≡ false
  fit-none [] ys i less is = absurd (omega (arith, less))
  fit-none (x ∷ xs) [] zero less is = refl
  fit-none (x ∷ xs) [] (suc i) less is =
      ap (all_fit (drop i xs)) (sym (drop_none i)) ∙ fit-none xs [] i (omega (arith, less)) (ap (are_both fits (slice_get xs i)) (get_none i) ∙ both-none (slice_get xs i))
  fit-none (x ∷ xs) (y ∷ ys) zero less is = ap (λ (b : Bool). b && all_fit xs ys) is
  fit-none (x ∷ xs) (y ∷ ys) (suc i) less is = fit-none xs ys i (omega (arith, less)) is

  fit-equal : (xs : List A) (ys : List B) → length xs ≡ length ys → all_fit (drop (length xs) xs) (drop (length xs) ys) ≡ true
  fit-equal [] [] same = refl
  fit-equal [] (y ∷ ys) same = absurd (omega (arith, same))
  fit-equal (x ∷ xs) [] same = absurd (omega (arith, same))
  fit-equal (x ∷ xs) (y ∷ ys) same = fit-equal xs ys (omega (arith, same))

  fit-less : (xs : List A) (ys : List B) → length xs < length ys → all_fit (drop (length xs) xs) (drop (length xs) ys) ≡ false
  fit-less [] [] less = absurd (omega (arith, less))
  fit-less [] (y ∷ ys) less = refl
  fit-less (x ∷ xs) [] less = absurd (omega (arith, less))
  fit-less (x ∷ xs) (y ∷ ys) less = fit-less xs ys (omega (arith, less))

  -- all that the first list has fit
  pub fit-end : (xs : List A) (ys : List B) (i : ℕ) → i ≡ length xs → i ≤ length ys → all_fit (drop i xs) (drop i ys) ≡ eqb (length xs) (length ys)
  fit-end xs ys i at_end few =
      ap (λ n. all_fit (drop n xs) (drop n ys)) at_end
      ∙ ⊎_elim
      (λ (is : nat_lt (length xs) (length ys) ≡ true).
      let less : length xs < length ys = ltb-true (length xs) (length ys) is in
      fit-less xs ys less ∙ sym (ne_eqb (length xs) (length ys) (λ e. absurd (omega (arith, e, less)))))
      (λ (is : nat_lt (length xs) (length ys) ≡ false).
      let most : length ys ≤ length xs = ltb-false (length xs) (length ys) is in
      let same : length xs ≡ length ys = omega (arith, most, few, at_end) in
      fit-equal xs ys same ∙ sym (eq-eqb (length xs) (length ys) same))
      (cases_Bool (nat_lt (length xs) (length ys)))

-- ---- the two comparisons

-- what the declarations of two units say
pub alike-told : (u v : List Labelled) (xs ys : List (List ℕ)) → are_alike_told (described u) (described v) xs ys ≡ are_alike u v xs ys
alike-told u v [] [] = refl
alike-told u v [] (y ∷ ys) = refl
alike-told u v (x ∷ xs) [] = refl
alike-told u v (x ∷ xs) (y ∷ ys) = ap (λ (b : Bool). is_alike u v x y && b) (alike-told u v xs ys)
