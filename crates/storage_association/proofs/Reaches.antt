-- Where storages begin and end: the numbers of their words.
use Rattle.std.proofs.Common.{◌≡◌, ℕ, ◌*◌, ◌<◌, ◌≤◌, ⊎_elim, ℤ, pos, ◌+ℤ◌, ◌-ℤ◌, ◌≤ℤ◌, List, length, refl, sym, ap, ◌∙◌, arith}
use Rattle.std.specs.Prelude.{nat_abs}
use Rattle.std.proofs.lemmas.Int.{ints}
use Rattle.f77_tree.specs.declared.programs.NameInfo.{NameInfo}
use Rattle.storage_association.specs.declared.word_numbers.Span.{Span}
use Rattle.layout_rules.specs.Storage.{Spot, spot_at, low_of, high_of, words_of}
use Rattle.layout_rules.specs.Spots.{storage_at, distance_at, count_in, AreNear, AreLowest, IsBelow}
use Rattle.storage_association.specs.WordNumbers.{IsSpan}
use Rattle.f77_tree.proofs.Places.{nonneg}
use Rattle.layout_rules.proofs.StorageBounds.{at_zero, low-zero, zero-high, low-below, below-high, low-reached, high-one}
use Rattle.storage_association.proofs.Spans.{size-few}

-- ---- where a storage lies, seen from its root

module _ (names : List NameInfo) (spots : List Spot) (lowest : AreLowest spots) (r : ℕ) (span : Span) (known : r < length spots) (is : IsSpan names spots (length spots) r span) where
  abbrev storage_of : ℕ
  storage_of = storage_at spots r

  in_spots : storage_of < length spots
  in_spots = omega (arith, lowest.below r known)

  own : storage_at spots storage_of ≡ storage_of
  own = lowest.itself r known

  pub low-is : low_of spots storage_of ≡ distance_at spots r +ℤ span.low
  low-is =
      let begin = is.begins in
      let w = low-reached names spots lowest storage_of in_spots own in
      omega (arith, ints, begin.there.beyond, low-below names spots lowest storage_of in_spots own begin.name begin.known (sym begin.there.together), w.there, is.least w.name w.inside (sym w.together))

  pub high-is : high_of names spots storage_of ≡ distance_at spots r +ℤ span.high
  high-is =
      let below = below-high names spots lowest storage_of in_spots own in
      let ends : (distance_at spots r +ℤ span.high) ≤ℤ high_of names spots storage_of = ⊎_elim
      (λ z. omega (arith, ints, below r known refl))
      (λ end. omega (arith, ints, below end.name end.known (sym end.together), end.there))
      is.ends
      in
      ⊎_elim
      (λ e. omega (arith, ints, is.greatest storage_of in_spots (sym own), lowest.begins r known))
      (λ w. omega (arith, ints, is.greatest w.name w.inside (sym w.together), w.there))
      (high-one names spots lowest storage_of in_spots own)

  pub words-are : words_of names spots storage_of ≡ nat_abs (span.high -ℤ span.low)
  words-are =
      let e : high_of names spots storage_of -ℤ low_of spots storage_of ≡ span.high -ℤ span.low = omega (arith, ints, low-is, high-is) in
      ap nat_abs e

  pub place-is : (x : ℕ) (d : ℤ) → IsBelow spots x r d → nat_abs ((spot_at spots x).distance -ℤ low_of spots (spot_at spots x).storage) ≡ nat_abs (d -ℤ span.low)
  place-is x d below =
      let low : low_of spots (spot_at spots x).storage ≡ low_of spots storage_of = ap (low_of spots) (sym below.together) in
      let e : (spot_at spots x).distance -ℤ low_of spots (spot_at spots x).storage ≡ d -ℤ span.low = omega (arith, ints, low-is, below.beyond) in
      ap nat_abs e

-- ---- a storage has few words for each of its names

module _ (names : List NameInfo) (spots : List Spot) (lowest : AreLowest spots) (near : AreNear spots) (x : ℕ) (known : x < length spots) (own : storage_at spots x ≡ x) where
  pub words-few : words_of names spots x ≤ 262145 * count_in spots x
  words-few =
      let low = low-reached names spots lowest x known own in
      let counts : count_in spots (storage_at spots low.name) ≡ count_in spots x = ap (λ s. count_in spots s) low.together in
      let few : (high_of names spots x -ℤ low_of spots x) ≤ℤ pos (262145 * count_in spots x) = ⊎_elim
      (λ e. omega (arith, ints, low.there, at_zero names spots lowest x known own, near low.name x low.inside known (low.together ∙ sym own)))
      (λ w. omega (arith, ints, low.there, w.there, size-few names w.name, near low.name w.name low.inside w.inside (low.together ∙ sym w.together)))
      (high-one names spots lowest x known own)
      in
      let whole = nonneg (high_of names spots x -ℤ low_of spots x) (omega (arith, ints, low-zero names spots lowest x known own, zero-high names spots lowest x known own)) in
      omega (arith, ints)
