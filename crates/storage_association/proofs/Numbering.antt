-- Words are numbered storage by storage.
use Rattle.std.proofs.Common.{◌≡◌, ◌≢◌, ℕ, zero, suc, ◌+◌, ◌*◌, ◌<◌, ◌≤◌, ⊎_elim, ℤ, pos, ◌-ℤ◌, ◌≤ℤ◌, Bool, true, false, cond, ◌==◌, nat_lt, List, [], ◌∷◌, ◌++◌, length, get_or, set, map, Option, Some, None, refl, sym, ap, subst, ◌∙◌, arith, ◌^◌, w64, FitsSigned}
use Rattle.std.specs.Prelude.{nat_abs, count_by}
use Rattle.std.specs.List.{range_with_len}
use mir.Val.{SFits}
use Rattle.std.proofs.lemmas.Int.{ints, to_z-of_z}
use Rattle.std.proofs.lemmas.Bool.{cases_eq, cases_lt, eq-eqb, ne_eqb, lt-ltb, le-ltb}
use Rattle.std.proofs.lemmas.Bool.Decides.{nat_tests}
use Rattle.std.proofs.lemmas.List.{get_or_read, get_or-set_same, get_or-set_other}
use Rattle.std.proofs.lemmas.List.FromFn.{map-range_with_len_more}
use Rattle.std.proofs.lemmas.List.Sums.{sum_by-cons, count_by-le-length}
use Rattle.f77_tree.specs.declared.programs.NameInfo.{NameInfo}
use Rattle.storage_association.specs.declared.forest.Node.{Node}
use Rattle.storage_association.specs.declared.forest.Rooted.{Rooted}
use Rattle.storage_association.specs.declared.word_numbers.Span.{Span}
use Rattle.layout_rules.specs.Storage.{Spot, words_of, is_storage, words_before, place_of}
use Rattle.storage_association.specs.Trees.{IsRoot, IsRooted, IsForest}
use Rattle.layout_rules.specs.Spots.{storage_at, count_in, AreNear, AreLowest}
use Rattle.storage_association.specs.WordNumbers.{IsSpan, AreSpans, span_at, no_span, base_at, base_by, begun, AreNumbered}
use Rattle.storage_association.proofs.Joining.{again}
use Rattle.f77_tree.proofs.Places.{nonneg}
use Rattle.layout_rules.proofs.Linking.{count_in-cons, one_if}
use Rattle.layout_rules.proofs.WordsBefore.{words_before-next}
use Rattle.storage_association.proofs.Reaches.{words-are, place-is, words-few}

module _ (names : List NameInfo) (spots : List Spot) where
  -- ---- there are few words

  abbrev before : ℕ → Spot → Bool
  before k spot = nat_lt spot.storage k

  count-next : (k : ℕ) (xs : List Spot) → count_by (before (suc k)) xs ≡ count_by (before k) xs + count_in xs k
  count-next k [] = refl
  count-next k (s ∷ xs) =
      let here : one_if (nat_lt s.storage (suc k)) ≡ one_if (nat_lt s.storage k) + one_if (s.storage == k) = grind (arith, nat_tests) in
      omega (arith, sum_by-cons (λ (x : Spot). one_if (nat_lt x.storage (suc k))) s xs, sum_by-cons (λ (x : Spot). one_if (nat_lt x.storage k)) s xs, count_in-cons s xs k, count-next k xs)

  pub words_before-few : AreLowest spots → AreNear spots → (k : ℕ) → k ≤ length spots → words_before names spots k ≤ 262145 * count_by (before k) spots
  words_before-few lowest near zero le = omega arith
  words_before-few lowest near (suc k) le = grind (arith, nat_tests, words_before-few lowest near k (omega arith), words_before-next names spots k, count-next k spots, words-few names spots lowest near k (omega arith))

  pub all-few : AreLowest spots → AreNear spots → (k : ℕ) → k ≤ length spots → words_before names spots k ≤ 262145 * length spots
  all-few lowest near k le = omega (arith, words_before-few lowest near k le, count_by-le-length (before k) spots)

-- ---- the span at the root of a name's tree

-- the name is one of few, and the span is that of its storage
pub record IsReadAt (names : List NameInfo) (nodes : List Node) (spots : List Spot) (k : ℕ) (rooted : Rooted) (was : Span) : Type 0 where
  pub lt : k < length spots
  pub few : length spots < 2 ^ 32
  pub at : IsRooted nodes spots k rooted
  pub is : IsSpan names spots (length spots) rooted.root was

pub read-at : {names : List NameInfo} {nodes : List Node} {spots : List Spot} → IsForest nodes spots → (spans : List Span) {k : ℕ} {rooted : Rooted} {was : Span} → length nodes ≡ length names → k < length names → length names < 2 ^ 32 → length spans ≡ length names
    → was ≡ get_or spans rooted.root was → IsRooted nodes spots k rooted → AreSpans names nodes spots (length names) spans → IsReadAt names nodes spots k rooted was
read-at {names} {nodes} {spots} forest spans {k} {rooted} {was} same lt few long read at reach =
    let r = rooted.root in
    let all : length names ≡ length spots = omega (arith, forest.all, same) in
    let here : was ≡ span_at spans r = get_or_read spans r was (omega (arith, at.known, same, long)) read no_span in
    record {
      lt = omega (arith, lt, all);
      few = omega (arith, few, all);
      at = at;
      is = subst (λ (s : Span). IsSpan names spots (length spots) r s) (sym here) (subst (λ (n : ℕ). IsSpan names spots n r (span_at spans r)) all (reach r at.known at.root));
    }

-- ---- one name more

test-more : (s k : ℕ) → s ≢ k → nat_lt s (k + 1) ≡ nat_lt s k
test-more s k ne = grind (arith, nat_tests)

module _ {names : List NameInfo} {nodes : List Node} {spots : List Spot} (forest : IsForest nodes spots) (lowest : AreLowest spots) {k : ℕ} {rooted : Rooted} {span : Span} (read : IsReadAt names nodes spots k rooted span) where
  abbrev r : ℕ
  r = rooted.root

  abbrev d : ℤ
  d = rooted.distance

  abbrev size : ℕ
  size = nat_abs (span.high -ℤ span.low)

  r_in : r < length spots
  r_in = omega (arith, forest.all)

  size-is : size ≡ words_of names spots (storage_at spots k)
  size-is = sym (words-are names spots lowest r span r_in read.is) ∙ ap (words_of names spots) read.at.below.together

  abbrev place : ℕ → ℕ
  place base = base + nat_abs (d -ℤ span.low)

  place-right : (base : ℕ) → base ≡ words_before names spots (storage_at spots k) → place base ≡ place_of names spots k
  place-right base e = ap (λ b. b + nat_abs (d -ℤ span.low)) e ∙ ap (λ z. words_before names spots (storage_at spots k) + z) (sym (place-is names spots lowest r span r_in read.is k d read.at.below))

  -- what the base tells
  record IsBegun (words : ℕ) (answer : ℕ × ℕ) : Type 0 where
    base_is : answer.0 ≡ words_before names spots (storage_at spots k)
    words_is : answer.1 ≡ words_before names spots (suc k)

  is-begun : (words : ℕ) (base : Option ℕ) → words ≡ words_before names spots k → base ≡ base_by names spots k r → IsBegun words (begun base words size)
  is-begun words base words_are base_is =
      ⊎_elim
      (λ (low : storage_at spots k < k).
      let test : nat_lt (storage_at spots r) k ≡ true = lt-ltb (storage_at spots r) k (omega (arith, read.at.below.together)) in
      let now : base ≡ Some (words_before names spots (storage_at spots r)) = base_is ∙ ap (λ b. cond b (Some (words_before names spots (storage_at spots r))) None) test in
      let no_storage : is_storage spots k ≡ false = ne_eqb (storage_at spots k) k (λ e. omega arith) in
      let step : words_before names spots (suc k) ≡ words_before names spots k + 0 = words_before-next names spots k ∙ ap (λ b. words_before names spots k + cond b (words_of names spots k) 0) no_storage in
      subst (λ (o : Option ℕ). IsBegun words (begun o words size)) (sym now) (record { base_is = ap (words_before names spots) read.at.below.together; words_is = omega arith }))
      (λ (high : k ≤ storage_at spots k).
      let own : storage_at spots k ≡ k = omega (arith, lowest.below k read.lt) in
      let test : nat_lt (storage_at spots r) k ≡ false = le-ltb (storage_at spots r) k (omega (arith, read.at.below.together)) in
      let now : base ≡ None = base_is ∙ ap (λ b. cond b (Some (words_before names spots (storage_at spots r))) None) test in
      let a_storage : is_storage spots k ≡ true = eq-eqb (storage_at spots k) k own in
      let step : words_before names spots (suc k) ≡ words_before names spots k + words_of names spots k = words_before-next names spots k ∙ ap (λ b. words_before names spots k + cond b (words_of names spots k) 0) a_storage in
      let more : size ≡ words_of names spots k = size-is ∙ ap (words_of names spots) own in
      let here : words_before names spots (storage_at spots k) ≡ words_before names spots k = ap (words_before names spots) own in
      subst (λ (o : Option ℕ). IsBegun words (begun o words size)) (sym now) (record { base_is = omega arith; words_is = omega arith }))
      (cases_lt (storage_at spots k) k)

  base-of : (words : ℕ) (base : Option ℕ) → base ≡ base_by names spots k r → words ≡ words_before names spots k → base_by names spots (k + 1) r ≡ Some (begun base words size).0
  base-of words base base_is words_are =
      let b = is-begun words base words_are base_is in
      let test : nat_lt (storage_at spots r) (k + 1) ≡ true = lt-ltb (storage_at spots r) (k + 1) (omega (arith, read.at.below.together, lowest.below k read.lt)) in
      ap (λ t. cond t (Some (words_before names spots (storage_at spots r))) None) test ∙ ap (λ s. Some (words_before names spots s)) read.at.below.together ∙ ap Some (sym b.base_is)

  base-other : (x : ℕ) → x < length nodes → IsRoot nodes x → x ≢ r → base_by names spots (k + 1) x ≡ base_by names spots k x
  base-other x i is_root ne =
      let x_in : x < length spots = omega (arith, forest.all) in
      let nk : storage_at spots x ≢ k = λ e. ne (forest.one_root x r i read.at.known is_root read.at.root (sym (lowest.itself x x_in) ∙ ap (λ z. storage_at spots z) e ∙ sym read.at.below.together)) in
      let tests = test-more (storage_at spots x) k nk in
      ap (λ t. cond t (Some (words_before names spots (storage_at spots x))) None) tests

  pub number-next : (words : ℕ) (places : List ℕ) (bases : List (Option ℕ)) (base : Option ℕ) → r < length bases → base ≡ base_at bases r → AreNumbered names nodes spots k words places bases → AreNumbered names nodes spots (k + 1) (begun base words size).1 (places ++ place (begun base words size).0 ∷ []) (set bases r (Some (begun base words size).0))
  number-next words places bases base in_bases is_base so_far =
      let base_is : base ≡ base_by names spots k r = is_base ∙ so_far.bases_are r read.at.known read.at.root in
      let b = is-begun words base so_far.words_are base_is in
      let first = (begun base words size).0 in
      record {
        words_are = let e : suc k ≡ k + 1 = omega arith in b.words_is ∙ ap (words_before names spots) e;
        places_are = ap (λ xs. xs ++ place first ∷ []) so_far.places_are ∙ ap (λ x. map (place_of names spots) (range_with_len 0 k) ++ x ∷ []) (place-right first b.base_is) ∙ sym (map-range_with_len_more (place_of names spots) 0 k k (omega arith));
        bases_are = λ x i is_root. ⊎_elim
            (λ (e : x ≡ r). subst (λ (y : ℕ). base_at (set bases r (Some first)) y ≡ base_by names spots (k + 1) y) (sym e) (get_or-set_same bases r (Some first) None in_bases ∙ sym (base-of words base base_is so_far.words_are)))
            (λ ne. get_or-set_other bases r x (Some first) None ne ∙ so_far.bases_are x i is_root ∙ sym (base-other x i is_root ne))
            (cases_eq x r);
      }

  -- the numbers fit
  pub begun-few : (words : ℕ) (base : Option ℕ) → words ≡ words_before names spots k → base ≡ base_by names spots k r → ((begun base words size).0 ≤ 262145 * length spots) × ((begun base words size).1 ≤ 262145 * length spots)
  begun-few words base words_are base_is =
      let b = is-begun words base words_are base_is in
      (omega (arith, b.base_is, all-few names spots lowest forest.near (storage_at spots k) (omega (arith, lowest.below k read.lt))), omega (arith, b.words_is, all-few names spots lowest forest.near (suc k) (omega arith)))

  pub size-few-words : size ≤ 262145 * length spots
  size-few-words =
      let s = storage_at spots k in
      let in_range : s < length spots = omega (arith, lowest.below k read.lt) in
      let few = words-few names spots lowest forest.near s in_range (lowest.itself k read.lt) in
      omega (arith, size-is, few, count_by-le-length (λ (x : Spot). x.storage == s) spots)

  -- ---- as the code computes them

  pub span-order : SFits w64 span.low → SFits w64 span.high → again span.low ≤ℤ again span.high
  span-order f g = rw (to_z-of_z w64 span.low f, to_z-of_z w64 span.high g) (omega (arith, ints, read.is.low, read.is.high))

  pub span-fits : SFits w64 span.low → SFits w64 span.high → FitsSigned w64 (again span.high -ℤ again span.low)
  span-fits f g =
      let whole = nonneg (span.high -ℤ span.low) (omega (arith, ints, read.is.low, read.is.high)) in
      let small = size-few-words in
      rw (to_z-of_z w64 span.low f, to_z-of_z w64 span.high g) (omega (arith, ints))

  pub size-read : (n : ℕ) → n ≡ nat_abs (again span.high -ℤ again span.low) → SFits w64 span.low → SFits w64 span.high → n ≡ size
  size-read n e f g = e ∙ ap (λ z. nat_abs (z -ℤ again span.low)) (to_z-of_z w64 span.high g) ∙ ap (λ z. nat_abs (span.high -ℤ z)) (to_z-of_z w64 span.low f)

  low-below : span.low ≤ℤ d
  low-below = omega (arith, ints, read.is.least k read.lt read.at.below.together, read.at.below.beyond)

  pub distance-order : SFits w64 span.low → SFits w64 d → again span.low ≤ℤ again d
  distance-order f g = rw (to_z-of_z w64 span.low f, to_z-of_z w64 d g) low-below

  -- a name begins within its storage
  distance-within : (d -ℤ span.low) ≤ℤ pos size
  distance-within =
      let whole = nonneg (span.high -ℤ span.low) (omega (arith, ints, read.is.low, read.is.high)) in
      omega (arith, ints, read.is.greatest k read.lt read.at.below.together, read.at.below.beyond)

  pub distance-fits : SFits w64 span.low → SFits w64 d → FitsSigned w64 (again d -ℤ again span.low)
  distance-fits f g =
      let small = size-few-words in
      rw (to_z-of_z w64 span.low f, to_z-of_z w64 d g) (omega (arith, ints, distance-within, low-below))

  pub distance-read : (n : ℕ) → n ≡ nat_abs (again d -ℤ again span.low) → SFits w64 span.low → SFits w64 d → n ≡ nat_abs (d -ℤ span.low)
  distance-read n e f g = e ∙ ap (λ z. nat_abs (z -ℤ again span.low)) (to_z-of_z w64 d g) ∙ ap (λ z. nat_abs (d -ℤ z)) (to_z-of_z w64 span.low f)

  pub distance-few : nat_abs (d -ℤ span.low) ≤ 262145 * length spots
  distance-few =
      let whole = nonneg (d -ℤ span.low) (omega (arith, ints, low-below)) in
      let small = size-few-words in
      omega (arith, ints, distance-within)

  -- the sum before the next storage
  pub words-sum : (words : ℕ) → words ≡ words_before names spots k → words + size ≤ 2 * (262145 * length spots)
  words-sum words e = omega (arith, e, size-few-words, all-few names spots lowest forest.near k (omega arith))
