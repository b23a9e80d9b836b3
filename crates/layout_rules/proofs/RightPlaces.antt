-- The test of right places, and what it says of each equation and each name of COMMON.
use Rattle.std.proofs.Common.{◌≡◌, ℕ, ◌<◌, ⊎_elim, ◌+ℤ◌, ◌≤ℤ◌, Bool, true, false, List, [], ◌∷◌, ◌++◌, get_or, Contains, Option, Some, None, refl, sym, ap, ◌∙◌, arith}
use Rattle.std.specs.Prelude.{◌||◌, not}
use Rattle.std.specs.List.{list_any, list_all, range_with_len}
use Rattle.std.proofs.lemmas.Int.{ints}
use Rattle.std.proofs.lemmas.Bool.{and_parts, and_from, or_left, or_right, cases_Bool, eqb-true, eq-eqb}
use Rattle.std.proofs.lemmas.Bool.Decides.{Decides-int_eq}
use Rattle.std.proofs.lemmas.Slice.Eq.{bytes_eq-Decides}
use Rattle.std.proofs.lemmas.List.Elements.{All-contains, Contains-get_or, Contains-append_left, Contains-append_right, Contains-append_cases}
use Rattle.std.proofs.lemmas.List.FromFn.{get_or-range_with_len, length-range_with_len}
use Rattle.std.proofs.lemmas.List.Sums.{AllPass-from_list_all, list_all-from_AllPass}
use Rattle.f77_tree.specs.Places.{Equation, same_block}
use Rattle.f77_tree.proofs.NameLemmas.{same_block-same}
use Rattle.layout_rules.specs.Storage.{Spot, Standing, is_kept, are_apart, begins_no_earlier, none_before, blocks_begin, are_right}
use Rattle.layout_rules.specs.Standings.{firsts_after, firsts_of}
use Rattle.layout_rules.specs.Spots.{storage_at, distance_at, IsBelow}
use Rattle.layout_rules.proofs.Bounds.{le-yes}
use Rattle.layout_rules.proofs.StandingLemmas.{first_if, first-here, first-there}

-- ---- tests

pub all-test : {X : Type 0} (test : X → Bool) (xs : List X) → list_all test xs ≡ true → (x : X) → Contains xs x → test x ≡ true
all-test test xs h x here = All-contains (λ y. test y ≡ true) xs x (AllPass-from_list_all test xs h) here

pub all-from : {X : Type 0} (test : X → Bool) (xs : List X) → ((x : X) → Contains xs x → test x ≡ true) → list_all test xs ≡ true
all-from test xs each = list_all-from_AllPass test xs (λ k d lt. each (get_or xs k d) (Contains-get_or xs k d lt))

pub same_block-itself : (block : Option (List ℕ)) → same_block block block ≡ true
same_block-itself None = refl
same_block-itself (Some block) = (bytes_eq-Decides block block).1 refl

not-or : (a b : Bool) → (not a || b) ≡ true → a ≡ true → b ≡ true
not-or a b h e = rw e at h

unless : (a b : Bool) → (a ≡ true → b ≡ true) → (not a || b) ≡ true
unless true b h = h refl
unless false b h = refl

-- an equation that holds
pub kept-yes : (spots : List Spot) (e : Equation) → is_kept spots e ≡ true → IsBelow spots e.to e.from e.distance
kept-yes spots e h =
    let both = and_parts _ _ h in
    record { together = eqb-true (storage_at spots e.from) (storage_at spots e.to) both.0; beyond = (Decides-int_eq (distance_at spots e.to) (distance_at spots e.from +ℤ e.distance)).0 both.1 }

pub kept-from : (spots : List Spot) (e : Equation) → IsBelow spots e.to e.from e.distance → is_kept spots e ≡ true
kept-from spots e below = and_from _ _ (eq-eqb (storage_at spots e.from) (storage_at spots e.to) below.together) ((Decides-int_eq (distance_at spots e.to) (distance_at spots e.from +ℤ e.distance)).1 below.beyond)

-- ---- right places

module _ (count : ℕ) (spots : List Spot) where
  -- no name of its storage begins before this one
  abbrev pub IsLeast : ℕ → Type 0
  IsLeast x = (y : ℕ) → y < count → storage_at spots x ≡ storage_at spots y → distance_at spots x ≤ℤ distance_at spots y

  none_before-from : (x : ℕ) → IsLeast x → none_before count spots x ≡ true
  none_before-from x least = all-from (begins_no_earlier spots x) (range_with_len 0 count) (λ y h.
      let here = get_or-range_with_len 0 count h.0 y (omega (arith, h.1, length-range_with_len 0 count)) in
      let lt : y < count = omega (arith, h.1, h.2, length-range_with_len 0 count) in
      unless _ _ (λ share. let le = least y lt (eqb-true (storage_at spots x) (storage_at spots y) share) in grind (arith, ints)))

  none_before-yes : (x : ℕ) → none_before count spots x ≡ true → IsLeast x
  none_before-yes x none y lt share =
      let here : get_or (range_with_len 0 count) y y ≡ y = get_or-range_with_len 0 count y y lt ∙ omega arith in
      let there : Contains (range_with_len 0 count) y = (y, omega (arith, length-range_with_len 0 count), here) in
      le-yes (distance_at spots x) (distance_at spots y) (not-or _ _ (all-test (begins_no_earlier spots x) (range_with_len 0 count) none y there) (eq-eqb (storage_at spots x) (storage_at spots y) share))

  begins-from : (seen xs : List Standing) → ((x : ℕ) → Contains (firsts_after seen xs) x → none_before count spots x ≡ true) → blocks_begin count spots seen xs ≡ true
  begins-from seen [] firsts = refl
  begins-from seen (s ∷ xs) firsts =
      let stood = list_any (λ a. same_block a.block s.block) seen in
      let head : (stood || none_before count spots s.name) ≡ true = ⊎_elim
      (λ (old : stood ≡ true). or_left stood (none_before count spots s.name) old)
      (λ (new : stood ≡ false). or_right stood (none_before count spots s.name) (firsts s.name (Contains-append_left (first_if seen s) (firsts_after (seen ++ s ∷ []) xs) s.name (first-there seen s new))))
      (cases_Bool stood)
      in
      and_from _ _ head (begins-from (seen ++ s ∷ []) xs (λ x h. firsts x (Contains-append_right (first_if seen s) (firsts_after (seen ++ s ∷ []) xs) x h)))

  begins-yes : (seen xs : List Standing) → blocks_begin count spots seen xs ≡ true → (x : ℕ) → Contains (firsts_after seen xs) x → none_before count spots x ≡ true
  begins-yes seen [] h x there = absurd (omega (arith, there.1))
  begins-yes seen (s ∷ xs) h x there =
      let both = and_parts _ _ h in
      ⊎_elim
      (λ here. let f = first-here seen s x here in ap (none_before count spots) (sym f.1) ∙ sym (ap (λ b. b || none_before count spots s.name) f.0) ∙ both.0)
      (λ later. begins-yes (seen ++ s ∷ []) xs both.1 x later)
      (Contains-append_cases (first_if seen s) (firsts_after (seen ++ s ∷ []) xs) x there)

-- Each equation holds, names of COMMON that share a storage are of one block, and no name of the storage of a block's first
-- name begins before it.
pub record ArePlacedRight (count : ℕ) (spots : List Spot) (standings : List Standing) (all : List Equation) : Type 0 where
  pub kept : (e : Equation) → Contains all e → IsBelow spots e.to e.from e.distance
  pub apart : (a b : Standing) → Contains standings a → Contains standings b → storage_at spots a.name ≡ storage_at spots b.name → a.block ≡ b.block
  pub begins : (x : ℕ) → Contains (firsts_of standings) x → IsLeast count spots x

module _ (count : ℕ) (spots : List Spot) (standings : List Standing) (all : List Equation) where
  pub right-from : ArePlacedRight count spots standings all → are_right count spots standings all ≡ true
  right-from is =
      and_from _ _
      (and_from _ _
      (all-from (is_kept spots) all (λ e h. kept-from spots e (is.kept e h)))
      (all-from _ standings (λ a at_a. all-from (are_apart spots a) standings (λ b at_b.
      unless _ _ (λ share. ap (same_block a.block) (sym (is.apart a b at_a at_b (eqb-true (storage_at spots a.name) (storage_at spots b.name) share))) ∙ same_block-itself a.block)))))
      (begins-from count spots [] standings (λ x first. none_before-from count spots x (is.begins x first)))

  pub right-yes : are_right count spots standings all ≡ true → ArePlacedRight count spots standings all
  right-yes right =
      let outer = and_parts _ _ right in
      let inner = and_parts _ _ outer.0 in
      record {
        kept = λ e h. kept-yes spots e (all-test (is_kept spots) all inner.0 e h);
        apart = λ a b at_a at_b share. same_block-same a.block b.block (not-or _ _ (all-test (are_apart spots a) standings (all-test _ standings inner.1 a at_a) b at_b) (eq-eqb (storage_at spots a.name) (storage_at spots b.name) share));
        begins = λ x first. none_before-yes count spots x (begins-yes count spots [] standings outer.1 x first);
      }
