-- Items of a list that pass a test, counted from its beginning.
use Rattle.std.proofs.Common.{◌≡◌, ℕ, zero, suc, ◌+◌, ◌-◌, ◌<◌, ◌≤◌, Bool, true, false, cond, List, [], ◌∷◌, length, take, Some, All, get_or, refl, ap, ◌∙◌, subst, ⊎_elim, arith}
use Rattle.std.specs.Prelude.{slice_get, not}
use Rattle.std.specs.List.{count_by, position_or_len}
use Rattle.std.proofs.lemmas.Bool.{cases_lt}
use Rattle.list_laws.specs.Member.{Member}
use Rattle.list_laws.proofs.Members.{Member-at, at_of}
use Rattle.list_laws.proofs.Counts.{bit, count-append, count-cons}
use Rattle.flat_programs.proofs.MarkLemmas.{take_next}

module _ {X : Type 0} (p : X → Bool) where
  -- the item that passes after so many others
  pub record IsNth (xs : List X) (n : ℕ) : Type 0 where
    pub place : ℕ
    pub item : X
    pub is : slice_get xs place ≡ Some item
    pub passes : p item ≡ true
    pub above : count_by p (take place xs) ≡ n

  nth-by : (x : X) (xs : List X) (n : ℕ) (b : Bool) → ((m : ℕ) → m < count_by p xs → IsNth xs m) → p x ≡ b → n < count_by p (x ∷ xs) → IsNth (x ∷ xs) n
  nth-by x xs zero true rest is less = record { place = 0; item = x; is = refl; passes = is; above = refl }
  nth-by x xs (suc n) true rest is less =
      let size : count_by p (x ∷ xs) ≡ 1 + count_by p xs = count-cons p x xs ∙ ap (λ b. bit b + count_by p xs) is in
      let r = rest n (omega (arith, size, less)) in
      let more : count_by p (x ∷ take r.place xs) ≡ 1 + count_by p (take r.place xs) = count-cons p x (take r.place xs) ∙ ap (λ b. bit b + count_by p (take r.place xs)) is in
      record { place = suc r.place; item = r.item; is = r.is; passes = r.passes; above = more ∙ (let a = r.above in omega (arith, a)) }
  nth-by x xs n false rest is less =
      let size : count_by p (x ∷ xs) ≡ 0 + count_by p xs = count-cons p x xs ∙ ap (λ b. bit b + count_by p xs) is in
      let r = rest n (omega (arith, size, less)) in
      let more : count_by p (x ∷ take r.place xs) ≡ 0 + count_by p (take r.place xs) = count-cons p x (take r.place xs) ∙ ap (λ b. bit b + count_by p (take r.place xs)) is in
      record { place = suc r.place; item = r.item; is = r.is; passes = r.passes; above = more ∙ (let a = r.above in omega (arith, a)) }

  pub nth : (xs : List X) (n : ℕ) → n < count_by p xs → IsNth xs n
  nth [] n less = absurd (omega (arith, less))
  nth (x ∷ xs) n less = nth-by x xs n (p x) (nth xs) refl less

  pub count-rises : (xs : List X) (a d : ℕ) → count_by p (take a xs) ≤ count_by p (take (a + d) xs)
  count-rises [] zero zero = omega arith
  count-rises [] zero (suc d) = omega arith
  count-rises [] (suc a) d = omega arith
  count-rises (x ∷ xs) zero d = omega arith
  count-rises (x ∷ xs) (suc a) d =
      let a1 = count-cons p x (take a xs) in
      let a2 = count-cons p x (take (a + d) xs) in
      let less = count-rises xs a d in
      let e : suc a + d ≡ suc (a + d) = omega arith in
      let same = ap (λ n. count_by p (take n (x ∷ xs))) e in
      omega (arith, a1, a2, less, same)

  pub count-next : (xs : List X) (a : ℕ) (x : X) → slice_get xs a ≡ Some x → p x ≡ true → count_by p (take (a + 1) xs) ≡ count_by p (take a xs) + 1
  count-next xs a x is passes =
      let one : count_by p (x ∷ []) ≡ bit (p x) = let c = count-cons p x [] in omega (arith, c) in
      ap (count_by p) (take_next xs a x is) ∙ count-append p (take a xs) (x ∷ []) ∙ ap (λ n. count_by p (take a xs) + n) (one ∙ ap bit passes)

  -- of two that pass the earlier one has fewer before it
  pub counts-less : (xs : List X) (a b : ℕ) (x : X) → slice_get xs a ≡ Some x → p x ≡ true → a < b → count_by p (take a xs) < count_by p (take b xs)
  counts-less xs a b x is passes less =
      let d = b - (a + 1) in
      let e : (a + 1) + d ≡ b = omega (arith, less) in
      let same = ap (λ n. count_by p (take n xs)) e in
      let next = count-next xs a x is passes in
      let rises = count-rises xs (a + 1) d in
      omega (arith, same, next, rises)

  pub one-place : (xs : List X) (a b : ℕ) (x y : X) → slice_get xs a ≡ Some x → p x ≡ true → slice_get xs b ≡ Some y → p y ≡ true → count_by p (take a xs) ≡ count_by p (take b xs) → a ≡ b
  one-place xs a b x y is passes also passes2 same =
      ⊎_elim
      (λ (less : a < b). let l = counts-less xs a b x is passes less in absurd (omega (arith, l, same)))
      (λ (le : b ≤ a). ⊎_elim
      (λ (less : b < a). let l = counts-less xs b a y also passes2 less in absurd (omega (arith, l, same)))
      (λ (ge : a ≤ b). omega (arith, le, ge))
      (cases_lt b a))
      (cases_lt a b)

  pub position-is : (xs : List X) (i : ℕ) (x : X) → slice_get xs i ≡ Some x → p x ≡ true → ((k : ℕ) (y : X) → k < i → slice_get xs k ≡ Some y → p y ≡ false) → position_or_len p xs ≡ i
  position-is [] i x is passes none = absurd cc
  position-is (y ∷ ys) zero x is passes none =
      let same : y ≡ x = cc in
      let here : p y ≡ true = ap p same ∙ passes in
      ap (λ b. cond (not b) (1 + position_or_len p ys) 0) here
  position-is (y ∷ ys) (suc i) x is passes none =
      let here : p y ≡ false = none zero y (omega arith) refl in
      let rest = position-is ys i x is passes (λ k z less at. none (suc k) z (omega (arith, less)) at) in
      ap (λ b. cond (not b) (1 + position_or_len p ys) 0) here ∙ ap (λ n. 1 + n) rest ∙ omega arith

  -- what is found at the position passes
  pub record IsFirst (xs : List X) : Type 0 where
    pub item : X
    pub is : slice_get xs (position_or_len p xs) ≡ Some item
    pub passes : p item ≡ true

  first-by : (x : X) (xs : List X) (b : Bool) → (position_or_len p xs < length xs → IsFirst xs) → p x ≡ b → position_or_len p (x ∷ xs) < length (x ∷ xs) → IsFirst (x ∷ xs)
  first-by x xs true rest is less =
      let here : position_or_len p (x ∷ xs) ≡ 0 = ap (λ b. cond (not b) (1 + position_or_len p xs) 0) is in
      record { item = x; is = ap (slice_get (x ∷ xs)) here; passes = is }
  first-by x xs false rest is less =
      let here : position_or_len p (x ∷ xs) ≡ 1 + position_or_len p xs = ap (λ b. cond (not b) (1 + position_or_len p xs) 0) is in
      let r = rest (omega (arith, here, less)) in
      let next : position_or_len p (x ∷ xs) ≡ suc (position_or_len p xs) = omega (arith, here) in
      record { item = r.item; is = ap (slice_get (x ∷ xs)) next ∙ r.is; passes = r.passes }

  pub first-found : (xs : List X) → position_or_len p xs < length xs → IsFirst xs
  first-found [] less = absurd (omega (arith, less))
  first-found (x ∷ xs) less = first-by x xs (p x) (first-found xs) refl less

-- what holds of each member, or of each item at an index, holds of all
pub All-members : {X : Type 0} (P : X → Type 0) (xs : List X) → ((x : X) → Member xs x → P x) → All P xs
All-members P xs each k d less = each (get_or xs k d) (Member-at xs k d less)

pub All-items : {X : Type 0} (P : X → Type 0) (xs : List X) → ((k : ℕ) (x : X) → slice_get xs k ≡ Some x → P x) → All P xs
All-items P [] each k d less = absurd (omega (arith, less))
All-items P (x ∷ xs) each zero d less = each zero x refl
All-items P (x ∷ xs) each (suc k) d less = All-items P xs (λ j y at. each (suc j) y at) k d (omega (arith, less))

pub All-member : {X : Type 0} (P : X → Type 0) (xs : List X) (x : X) → All P xs → Member xs x → P x
All-member P xs x all member = let r = at_of xs x member in subst P (r.is x) (all r.place x r.exists)
