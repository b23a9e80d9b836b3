-- The lines that a piece touches rise, so that a line is found among them.
use Rattle.std.proofs.Common.{◌≡◌, ◌<◌, ◌≤◌, ◌⊎◌, inl, inr, ℕ, zero, suc, ◌+◌, Bool, true, false, cond, List, ◌∷◌, length, filter, get_or, Some, slice_get, Ok, Err, ap, ◌∙◌, subst, nat_cmp, arith}
use Rattle.std.specs.List.{range_with_len}
use Rattle.std.specs.List.Sorted.{IsBinarySearchResult}
use Rattle.std.proofs.lemmas.List.Sorted.{searched}
use Rattle.std.proofs.lemmas.Option.{slice_get-get_or}
use Rattle.list_laws.proofs.Members.{IsAt, Member-at, Member-filter, Member-filtered, Member-in_range, Member-range, at_of}
use Rattle.net_board.specs.Nodes.{NetOf, touched}

module _ (test : ℕ → Bool) where
  -- what passes the test of a row of numbers is at least the first of them
  low_item : (a n i : ℕ) → i < length (filter test (range_with_len a n)) → a ≤ get_or (filter test (range_with_len a n)) i 0
  low_item a n i low =
      let m = Member-filtered test (range_with_len a n) (get_or (filter test (range_with_len a n)) i 0) (Member-at (filter test (range_with_len a n)) i 0 low) in
      (Member-in_range a n (get_or (filter test (range_with_len a n)) i 0) m.0).0

  Rises : List ℕ → Type 0
  Rises xs = (i j : ℕ) → i ≤ j → j < length xs → get_or xs i 0 ≤ get_or xs j 0

  one_more : (a : ℕ) (rest : List ℕ) → ((i : ℕ) → i < length rest → a + 1 ≤ get_or rest i 0) → Rises rest → (b : Bool) → Rises (cond b (a ∷ rest) rest)
  unfolding Rises
  one_more a rest high rises true zero zero le low = omega arith
  one_more a rest high rises true zero (suc j) le low = let h = high j (omega (arith, low)) in omega (arith, h)
  one_more a rest high rises true (suc i) zero le low = absurd (omega (arith, le))
  one_more a rest high rises true (suc i) (suc j) le low = rises i j (omega (arith, le)) (omega (arith, low))
  one_more a rest high rises false i j le low = rises i j le low

  pub filter_rises : (a n i j : ℕ) → i ≤ j → j < length (filter test (range_with_len a n)) → get_or (filter test (range_with_len a n)) i 0 ≤ get_or (filter test (range_with_len a n)) j 0
  unfolding Rises
  filter_rises a zero i j le low = absurd (omega (arith, low))
  filter_rises a (suc n) i j le low = one_more a (filter test (range_with_len (a + 1) n)) (low_item (a + 1) n) (filter_rises (a + 1) n) (test a) i j le low

module _ (net : NetOf) (piece line : ℕ) where
  pub touched_rises : (i j : ℕ) → i ≤ j → j < length (touched net piece) → get_or (touched net piece) i 0 ≤ get_or (touched net piece) j 0
  touched_rises i j le low = filter_rises (net.touches piece) 0 net.routing.lines i j le low

  -- a line that the piece touches is among them
  pub touched_has : line < net.routing.lines → net.touches piece line ≡ true → IsAt (touched net piece) line
  touched_has low is = at_of (touched net piece) line (Member-filter (net.touches piece) (range_with_len 0 net.routing.lines) line (Member-range 0 net.routing.lines line (omega arith) (omega (arith, low))) is)

  -- what a search finds is the line
  pub found : (xs : List ℕ) (place : ℕ) → xs ≡ touched net piece → IsBinarySearchResult (λ y. nat_cmp y line) xs (Ok place) → slice_get (touched net piece) place ≡ Some line
  found xs place are is =
      let here = searched (touched net piece) line (Ok place) (subst (λ (ys : List ℕ). IsBinarySearchResult (λ y. nat_cmp y line) ys (Ok place)) are is) touched_rises in
      slice_get-get_or (touched net piece) place 0 here.0 ∙ ap (λ (n : ℕ). Some n) here.1

  -- and it finds it
  pub not_missed : {P : Type 0} (xs : List ℕ) (place : ℕ) → xs ≡ touched net piece → IsBinarySearchResult (λ y. nat_cmp y line) xs (Err place) → line < net.routing.lines → net.touches piece line ≡ true → P
  not_missed {P = P} xs place are is low touches =
      let at : IsAt (touched net piece) line = touched_has low touches in
      let gap = searched (touched net piece) line (Err place) (subst (λ (ys : List ℕ). IsBinarySearchResult (λ y. nat_cmp y line) ys (Err place)) are is) touched_rises in
      by at (at.is 0) gap (low_or_high at.place place)
    where
      low_or_high : (a b : ℕ) → (a < b) ⊎ (b ≤ a)
      low_or_high a b = grind arith

      by : (at : IsAt (touched net piece) line) → get_or (touched net piece) at.place 0 ≡ line → (place ≤ length (touched net piece)) × ((k : ℕ) → k < place → get_or (touched net piece) k 0 < line) × ((k : ℕ) → place ≤ k → k < length (touched net piece) → line < get_or (touched net piece) k 0) → (at.place < place) ⊎ (place ≤ at.place) → P
      by at here gap (inl below) = let h = gap.1 at.place below in absurd (omega (arith, h, here))
      by at here gap (inr above) = let h = gap.2 at.place above at.exists in absurd (omega (arith, h, here))
