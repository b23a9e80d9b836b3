-- The first item of a list that passes a test, found item by item.
use Rattle.std.proofs.Common.{◌≡◌, ℕ, ◌+◌, ◌<◌, ◌≤◌, Bool, true, false, not, cond, eqb, List, [], ◌∷◌, ◌++◌, length, take, get_or, nat_lt, Option, Some, None, ⊎_elim, refl, sym, ap, ◌∙◌, arith, length-append, length-take-le}
use Rattle.std.specs.List.{filter, find, position_or_len, slice_get}
use Rattle.std.proofs.lemmas.Bool.{cases_Bool, eq-eqb, ne_eqb, ltb-true, ltb-false, lt-ltb, le-ltb}
use Rattle.std.proofs.lemmas.List.{take_more}
use Rattle.std.proofs.lemmas.List.Folds.{find_at, position_or_len_push}
use Rattle.std.proofs.lemmas.List.Sums.{prefix_len-le-length}
use Rattle.std.proofs.lemmas.Option.{get_or_from_slice_get}
use Rattle.f77_tree.specs.declared.statements.Labelled.{Labelled}
use Rattle.layout_rules.specs.Faults.{answer_or}
use Rattle.program_units.specs.Units.{unit_at, unit_or_none}
use Rattle.program_units.specs.CallTable.{if_below, unit_if}
use Rattle.program_units.specs.Refusals.{first_unit}

module _ (a n : ℕ) (below : a ≤ n) where
  new_one : (b : Bool) → if_below (n + cond b 0 1) (n + 1) ≡ unit_if b n
  new_one true =
      let e : n + 0 ≡ n = omega arith in
      ap (λ (x : ℕ). if_below x (n + 1)) e ∙ ap (λ (c : Bool). unit_if c n) (lt-ltb n (n + 1) (omega arith))
  new_one false = ap (λ (c : Bool). unit_if c (n + 1)) (le-ltb (n + 1) (n + 1) (omega arith))

  pub below-push : (b : Bool) → if_below (cond (eqb a n) (n + cond b 0 1) a) (n + 1) ≡ answer_or (if_below a n) (unit_if b n)
  below-push b = ⊎_elim
      (λ (there : nat_lt a n ≡ true).
      let less : a < n = ltb-true a n there in
      let apart : eqb a n ≡ false = ne_eqb a n (λ e. absurd (omega (arith, e, less))) in
      ap (λ (c : Bool). if_below (cond c (n + cond b 0 1) a) (n + 1)) apart
      ∙ ap (λ (c : Bool). unit_if c a) (lt-ltb a (n + 1) (omega (arith, less)))
      ∙ sym (ap (λ (c : Bool). answer_or (unit_if c a) (unit_if b n)) there))
      (λ (none : nat_lt a n ≡ false).
      let over : n ≤ a = ltb-false a n none in
      let same : eqb a n ≡ true = eq-eqb a n (omega (arith, over, below)) in
      ap (λ (c : Bool). if_below (cond c (n + cond b 0 1) a) (n + 1)) same
      ∙ new_one b
      ∙ sym (ap (λ (c : Bool). answer_or (unit_if c a) (unit_if b n)) none))
      (cases_Bool (nat_lt a n))

  below-none : if_below a n ≡ None → n ≡ a
  below-none none = ⊎_elim
      (λ (there : nat_lt a n ≡ true). let some : if_below a n ≡ Some a = ap (λ (c : Bool). unit_if c a) there in absurd cc)
      (λ (no : nat_lt a n ≡ false). let over : n ≤ a = ltb-false a n no in omega (arith, over, below))
      (cases_Bool (nat_lt a n))

  below-some : (k : ℕ) → if_below a n ≡ Some k → k ≡ a
  below-some k some = by (nat_lt a n) some
    where
      by : (b : Bool) → unit_if b a ≡ Some k → k ≡ a
      by true is = let e : Some a ≡ Some k = is in let same : a ≡ k = cc in sym same
      by false is = let e : None ≡ Some k = is in absurd cc

module _ {A : Type 0} (p : A → Bool) where
  abbrev first_place : List A → Option ℕ
  first_place xs = if_below (position_or_len p xs) (length xs)

  pub place-few : (xs : List A) → position_or_len p xs ≤ length xs
  place-few xs = prefix_len-le-length (λ (x : A). not (p x)) xs

  pub place-more : (xs : List A) (x : A) → first_place (xs ++ x ∷ []) ≡ answer_or (first_place xs) (unit_if (p x) (length xs))
  place-more xs x =
      let longer : length (xs ++ x ∷ []) ≡ length xs + 1 = length-append xs (x ∷ []) in
      ap (λ (n : ℕ). if_below n (length (xs ++ x ∷ []))) (position_or_len_push p xs x)
      ∙ ap (λ (n : ℕ). if_below (cond (eqb (position_or_len p xs) (length xs)) (length xs + cond (p x) 0 1) (position_or_len p xs)) n) longer
      ∙ below-push (position_or_len p xs) (length xs) (place-few xs) (p x)

  place-first : (xs : List A) (k : ℕ) (x : A) → k < length xs → slice_get xs k ≡ Some x → first_place (take (k + 1) xs) ≡ answer_or (first_place (take k xs)) (unit_if (p x) k)
  place-first xs k x inside there =
      let at : get_or xs k x ≡ x = get_or_from_slice_get xs k x x there in
      let more : take (k + 1) xs ≡ take k xs ++ x ∷ [] = take_more xs k x inside ∙ ap (λ (y : A). take k xs ++ y ∷ []) at in
      let long : length (take k xs) ≡ k = length-take-le k xs (omega (arith, inside)) in
      ap first_place more
      ∙ place-more (take k xs) x
      ∙ ap (λ (n : ℕ). answer_or (first_place (take k xs)) (unit_if (p x) n)) long

  pub place-next : (xs : List A) (k : ℕ) (x : A) (old new : Option ℕ) → k < length xs → slice_get xs k ≡ Some x → old ≡ first_place (take k xs) → new ≡ answer_or old (unit_if (p x) k) → new ≡ first_place (take (k + 1) xs)
  place-next xs k x old new inside there before is =
      is ∙ ap (λ (o : Option ℕ). answer_or o (unit_if (p x) k)) before ∙ sym (place-first xs k x inside there)

  pub place-none : (xs : List A) → first_place xs ≡ None → length xs ≡ position_or_len p xs
  place-none xs none = below-none (position_or_len p xs) (length xs) (place-few xs) none

  pub place-some : (xs : List A) (k : ℕ) → first_place xs ≡ Some k → k ≡ position_or_len p xs
  place-some xs k some = below-some (position_or_len p xs) (length xs) (place-few xs) k some

-- ---- the first unit that passes

found-first : (p : List Labelled → Bool) (us : List (List Labelled)) → first_unit (filter p us) ≡ unit_or_none (find p us)
found-first p [] = refl
found-first p (u ∷ us) = by (p u) (found-first p us)
  where
    by : (b : Bool) → first_unit (filter p us) ≡ unit_or_none (find p us) → first_unit (cond b (u ∷ filter p us) (filter p us)) ≡ unit_or_none (cond b (Some u) (find p us))
    by true same = refl
    by false same = same

pub first-at-place : (p : List Labelled → Bool) (us : List (List Labelled)) → first_unit (filter p us) ≡ unit_at us (position_or_len p us)
first-at-place p us = found-first p us ∙ ap unit_or_none (find_at p us)
