-- Lists of things that take so many places each: where each begins, and to which one a place belongs.
use Rattle.std.proofs.Common.{◌≡◌, ℕ, zero, suc, ◌+◌, ◌-◌, ◌<◌, ◌≤◌, List, [], ◌∷◌, length, get_or, take, sum_by, ⊎_elim, arith}
use Rattle.std.proofs.lemmas.Bool.{cases_lt}
use Rattle.std.proofs.lemmas.List.Sums.{sum_by-cons}

module _ {X : Type 0} (places : X → ℕ) where
  -- the place at which the one with this number begins
  abbrev pub begins_at : List X → ℕ → ℕ
  begins_at xs j = sum_by places (take j xs)

  pub begins_at_suc : (x : X) (xs : List X) (j : ℕ) → begins_at (x ∷ xs) (suc j) ≡ places x + begins_at xs j
  begins_at_suc x xs j = sum_by-cons places x (take j xs)

  pub begins_before : (xs : List X) (i j : ℕ) (d : X) → i < j → j ≤ length xs → begins_at xs i + places (get_or xs i d) ≤ begins_at xs j
  begins_before [] i j d less within = absurd (omega (arith, less, within))
  begins_before (x ∷ xs) i zero d less within = absurd (omega (arith, less))
  begins_before (x ∷ xs) zero (suc j) d less within = grind (arith, begins_at_suc x xs j)
  begins_before (x ∷ xs) (suc i) (suc j) d less within = grind (arith, begins_at_suc x xs j, begins_at_suc x xs i, begins_before xs i j d)

  pub ends_within : (xs : List X) (i : ℕ) (d : X) → i < length xs → begins_at xs i + places (get_or xs i d) ≤ sum_by places xs
  ends_within [] i d some = absurd (omega (arith, some))
  ends_within (x ∷ xs) zero d some = grind (arith, sum_by, sum_by places xs, sum_by-cons places x xs)
  ends_within (x ∷ xs) (suc i) d some = grind (arith, sum_by, sum_by places xs, sum_by-cons places x xs, begins_at_suc x xs i, ends_within xs i d)

  -- the place is the `nth` of the one with the number `one`
  pub record IsPlace (xs : List X) (d : X) (place : ℕ) : Type 0 where
    pub one : ℕ
    pub nth : ℕ
    pub exists : one < length xs
    pub within : nth < places (get_or xs one d)
    pub at : place ≡ begins_at xs one + nth

  pub place_of : (xs : List X) (d : X) (place : ℕ) → place < sum_by places xs → IsPlace xs d place
  place_of [] d place below = absurd (omega (arith, below))
  place_of (x ∷ xs) d place below =
      let e : sum_by places (x ∷ xs) ≡ places x + sum_by places xs = sum_by-cons places x xs in
      ⊎_elim
      (λ (here : place < places x). record { one = 0; nth = place; exists = omega arith; within = here; at = omega arith })
      (λ (later : places x ≤ place).
      let there : IsPlace xs d (place - places x) = place_of xs d (place - places x) (omega (arith, e, below, later)) in
      let f : begins_at (x ∷ xs) (suc there.one) ≡ places x + begins_at xs there.one = begins_at_suc x xs there.one in
      let at : place - places x ≡ begins_at xs there.one + there.nth = there.at in
      record { one = suc there.one; nth = there.nth; exists = omega (arith, there.exists); within = there.within; at = omega (arith, at, later, f) })
      (cases_lt place (places x))
