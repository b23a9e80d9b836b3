-- Units, met one by one.
use Rattle.std.proofs.Common.{◌≡◌, ℕ, zero, suc, ◌+◌, ◌<◌, ◌≤◌, List, [], ◌∷◌, length, drop, Option, Some, None, refl, sym, ap, ◌∙◌, arith, add-one, ◌++◌, subst}
use Rattle.std.specs.Prelude.{slice_get}
use Rattle.std.proofs.lemmas.Option.{get_or_from_slice_get, slice_get_past}
use Rattle.f77_tree.specs.declared.statements.Labelled.{Labelled}
use Rattle.layout_rules.specs.Faults.{answer_or, first_answer}
use Rattle.program_units.specs.Units.{unit_at, unit_or_none}

pub unit-there : (us : List (List Labelled)) (k : ℕ) → k < length us → slice_get us k ≡ Some (unit_at us k)
unit-there [] k inside = absurd (omega (arith, inside))
unit-there (u ∷ us) zero inside = refl
unit-there (u ∷ us) (suc k) inside = unit-there us k (omega (arith, inside))

module _ {B : Type 0} (f : List Labelled → Option B) where
  dropped : (us : List (List Labelled)) (k : ℕ) → k < length us → drop k us ≡ unit_at us k ∷ drop (suc k) us
  dropped [] k inside = absurd (omega (arith, inside))
  dropped (u ∷ us) zero inside = refl
  dropped (u ∷ us) (suc k) inside = dropped us k (omega (arith, inside))

  -- the unit at the index k has an answer
  pub answer-here : (us : List (List Labelled)) (k : ℕ) (x : B) → k < length us → f (unit_at us k) ≡ Some x → first_answer f (drop k us) ≡ Some x
  answer-here us k x inside is = ap (first_answer f) (dropped us k inside) ∙ ap (λ (o : Option B). answer_or o (first_answer f (drop (suc k) us))) is

  -- it has none
  pub answer-next : (us : List (List Labelled)) (k : ℕ) → k < length us → f (unit_at us k) ≡ None → first_answer f (drop k us) ≡ first_answer f (drop (k + 1) us)
  answer-next us k inside is =
      ap (first_answer f) (dropped us k inside)
      ∙ ap (λ (o : Option B). answer_or o (first_answer f (drop (suc k) us))) is
      ∙ ap (λ (n : ℕ). first_answer f (drop n us)) (sym (add-one k))

  -- there is no further unit
  pub answer-end : (us : List (List Labelled)) (k : ℕ) → length us ≤ k → first_answer f (drop k us) ≡ None
  answer-end [] zero over = refl
  answer-end [] (suc k) over = refl
  answer-end (u ∷ us) zero over = absurd (omega (arith, over))
  answer-end (u ∷ us) (suc k) over = answer-end us k (omega (arith, over))

-- ---- what is kept of each unit

pub each-push : {X : Type 0} (P : ℕ → X → Type 0) (xs : List X) (x : X) → ((j : ℕ) (y : X) → slice_get xs j ≡ Some y → P j y) → P (length xs) x → (j : ℕ) (y : X) → slice_get (xs ++ x ∷ []) j ≡ Some y → P j y
each-push P [] x all last zero y is = subst (P 0) (get_or_from_slice_get (x ∷ []) 0 y x is) last
each-push P [] x all last (suc j) y is = absurd cc
each-push P (z ∷ zs) x all last zero y is = all 0 y is
each-push P (z ∷ zs) x all last (suc j) y is = each-push (λ k. P (suc k)) zs x (λ k w e. all (suc k) w e) last j y is

pub table-push : {X : Type 0} (Is : List Labelled → X → Type 0) (us : List (List Labelled)) (table : List X) (x : X) (k : ℕ) → length table ≡ k → ((j : ℕ) (y : X) → slice_get table j ≡ Some y → Is (unit_at us j) y) → Is (unit_at us k) x
    → (j : ℕ) (y : X) → slice_get (table ++ x ∷ []) j ≡ Some y → Is (unit_at us j) y
table-push Is us table x k long all last = each-push (λ j y. Is (unit_at us j) y) table x all (subst (λ n. Is (unit_at us n) x) (sym long) last)

pub none-behind : (us : List (List Labelled)) → unit_at us (length us) ≡ []
none-behind us = ap unit_or_none (slice_get_past us (length us) (omega arith))
