-- The classes that the first items of a list need.
use Rattle.std.proofs.Common.{◌≡◌, ℕ, ◌+◌, ◌<◌, ◌≤◌, List, [], ◌∷◌, ◌++◌, length, get_or, take, Bool, true, false, ◌||◌, Any, inl, inr, ⊎_elim, refl, sym, ap, subst, ◌∙◌, length-append, arith}
use Rattle.std.specs.Prelude.{◌⊎◌, ◌↔◌}
use Rattle.std.proofs.lemmas.Bool.{cases_lt}
use Rattle.std.proofs.lemmas.List.{take_more, take_all, get_or_append_left, get_or_push}
use Rattle.class_set.specs.ClassSet.{holds}
use Rattle.class_set.specs.declared.ClassSet.{ClassSet}

or_true : (a b : Bool) → (a || b) ≡ true → (a ≡ true) ⊎ (b ≡ true)
or_true true b is = inl refl
or_true false b is = inr is

true_or : (a b : Bool) → a ≡ true → (a || b) ≡ true
true_or true b is = refl
true_or false b is = let e : false ≡ true = is in absurd cc

or_of_true : (a b : Bool) → b ≡ true → (a || b) ≡ true
or_of_true true b is = refl
or_of_true false b is = is

module _ {X : Type 0} (P : X → Type 0) where
  any-prefix : (xs : List X) (y : X) → Any P xs → Any P (xs ++ y ∷ [])
  any-prefix xs y some = (some.0, some.1, (let lt = some.2 in omega (arith, lt, length-append xs (y ∷ []))), get_or_append_left xs (y ∷ []) some.1 some.0 some.2 ∙ some.3, some.4)

  any-last : (xs : List X) (y : X) → P y → Any P (xs ++ y ∷ [])
  any-last xs y p = (length xs, y, omega (arith, length-append xs (y ∷ [])), get_or_push xs y y (length xs) refl, p)

  any-split : (xs : List X) (y : X) → Any P (xs ++ y ∷ []) → Any P xs ⊎ P y
  any-split xs y some = ⊎_elim
      (λ (l : some.0 < length xs). inl (some.0, some.1, l, sym (get_or_append_left xs (y ∷ []) some.1 some.0 l) ∙ some.3, some.4))
      (λ (m : length xs ≤ some.0).
      let lt = some.2 in
      let last : some.0 ≡ length xs = omega (arith, m, lt, length-append xs (y ∷ [])) in
      inr (subst P (sym some.3 ∙ ap (λ k. get_or (xs ++ y ∷ []) k some.1) last ∙ get_or_push xs y some.1 (length xs) refl) some.4))
      (cases_lt some.0 (length xs))

-- the set holds what the first items need
abbrev pub NeedsSoFar : {W : ℕ} {X : Type 0} → (X → ℕ → Type 0) → List X → (i : ℕ) → ClassSet W → Type 0
NeedsSoFar needs xs i set = (n : ℕ) → (holds set n ≡ true) ↔ Any (λ x. needs x n) (take i xs)

-- one item more, which needs what `more` holds
pub needs-next : {W : ℕ} {X : Type 0} (needs : X → ℕ → Type 0) (xs : List X) (i : ℕ) (x : X) (set more new : ClassSet W) → i < length xs → x ≡ get_or xs i x → NeedsSoFar needs xs i set → ((n : ℕ) → (holds more n ≡ true) ↔ needs x n) → ((n : ℕ) → holds new n ≡ (holds set n || holds more n)) → NeedsSoFar needs xs (i + 1) new
needs-next {W} {X} needs xs i x set more new lt at so_far one united n =
    let P = λ (y : X). needs y n in
    let prefix : take (i + 1) xs ≡ take i xs ++ x ∷ [] = take_more xs i x lt ∙ ap (λ (y : X). take i xs ++ y ∷ []) (sym at) in (
      λ is. subst (λ (ys : List X). Any P ys) (sym prefix)
          (⊎_elim
          (λ here. any-prefix P (take i xs) x ((so_far n).0 here))
          (λ here. any-last P (take i xs) x ((one n).0 here))
          (or_true (holds set n) (holds more n) (sym (united n) ∙ is))),
      λ some. united n ∙ ⊎_elim
          (λ here. true_or (holds set n) (holds more n) ((so_far n).1 here))
          (λ here. or_of_true (holds set n) (holds more n) ((one n).1 here))
          (any-split P (take i xs) x (subst (λ (ys : List X). Any P ys) prefix some)),
    )

-- all items
pub needs-all : {W : ℕ} {X : Type 0} (needs : X → ℕ → Type 0) (xs all : List X) (i : ℕ) (set : ClassSet W) → length xs ≤ i → xs ≡ all → NeedsSoFar needs xs i set → (n : ℕ) → (holds set n ≡ true) ↔ Any (λ x. needs x n) all
needs-all {W} {X} needs xs all i set end same so_far n =
    let whole : take i xs ≡ all = take_all i xs end ∙ same in
    let P = λ (y : X). needs y n in
    (λ is. subst (λ (ys : List X). Any P ys) whole ((so_far n).0 is), λ some. (so_far n).1 (subst (λ (ys : List X). Any P ys) (sym whole) some))
