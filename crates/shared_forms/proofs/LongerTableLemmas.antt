-- The table of names with the temporaries of shared candidates after it.
use Rattle.std.proofs.Common.{◌≡◌, ℕ, ◌+◌, ◌<◌, All, Bool, List, [], ◌∷◌, ◌++◌, length, get_or, take, filter, Some, sym, ap, ◌∙◌, append_assoc, append-nil, get_or-take, arith}
use Rattle.std.specs.Prelude.{flat_map, slice_get, if◌then◌else◌}
use Rattle.std.specs.List.{count_by, range_with_len}
use Rattle.std.proofs.lemmas.Grind.{flat_map-append}
use Rattle.std.proofs.lemmas.List.Elements.{All-filter, filter-append}
use Rattle.std.proofs.lemmas.List.FromFn.{get_or-range_with_len, length-range_with_len}
use Rattle.std.proofs.lemmas.List.Sums.{length-filter}
use Rattle.list_laws.proofs.Ranges.{range_more}
use Rattle.f77_tree.specs.declared.programs.NameInfo.{NameInfo}
use Rattle.f77_tree.specs.declared.programs.Program.{Program}
use Rattle.f77_tree.specs.Line.{kind_of_expression}
use Rattle.redundancy.specs.Available.{Availability}
use Rattle.shared_forms.specs.Numbered.{number_of}
use Rattle.simplified_forms.specs.Plans.{answer}
use Rattle.shared_forms.specs.Shared.{candidate, is_shared, shared, temporary_at, temporary_info}
use Rattle.simplified_forms.specs.Tables.{AreAnswers}
use Rattle.shared_forms.specs.Temporaries.{free_names}
use Rattle.simplified_forms.proofs.RangeCounts.{count-range-same}

pub infos-more : (f : ℕ → List NameInfo) (k : ℕ) → flat_map f (range_with_len 0 (k + 1)) ≡ flat_map f (range_with_len 0 k) ++ f k
infos-more f k = ap (flat_map f) (range_more k) ∙ flat_map-append f (range_with_len 0 k) (k ∷ []) ∙ ap (λ (xs : List NameInfo). flat_map f (range_with_len 0 k) ++ xs) (append-nil (f k))

one-kept : (p : ℕ → Bool) (n : ℕ) (b : Bool) → p n ≡ b → filter p (n ∷ []) ≡ (if b then (n ∷ []) else [])
one-kept p n b is = ap (λ c. if c then (n ∷ []) else []) is

-- one number more among those that pass a test
pub numbers-more : (p : ℕ → Bool) (n : ℕ) (b : Bool) (old new : List ℕ) → b ≡ p n → old ≡ filter p (range_with_len 0 n) → new ≡ old ++ (if b then (n ∷ []) else []) → new ≡ filter p (range_with_len 0 (n + 1))
numbers-more p n b old new is so_far made =
    made
    ∙ ap (λ (xs : List ℕ). xs ++ (if b then (n ∷ []) else [])) so_far
    ∙ ap (λ (xs : List ℕ). filter p (range_with_len 0 n) ++ xs) (sym (one-kept p n b (sym is)))
    ∙ sym (filter-append p (range_with_len 0 n) (n ∷ []))
    ∙ ap (filter p) (sym (range_more n))

below : (n : ℕ) → All (λ k. k < n) (range_with_len 0 n)
below n = λ i d less. let e = get_or-range_with_len 0 n i d (omega (arith, less, length-range_with_len 0 n)) in omega (arith, e, less, length-range_with_len 0 n)

module _ (q : Program) (a : Availability) where
  -- shared candidates are candidates
  pub shared-below : All (λ n. n < length a.candidates) (shared q a (number_of a))
  shared-below = All-filter (is_shared q a (number_of a)) (λ n. n < length a.candidates) (range_with_len 0 (length a.candidates)) (below (length a.candidates))

  -- a temporary has the name that is free at its place
  pub info-is : (j n : ℕ) (name : List ℕ) (free : List (List ℕ)) (info : NameInfo) → free ≡ take (length (shared q a (number_of a))) (free_names q.names) → j < length (shared q a (number_of a)) → name ≡ get_or free j [] → info ≡ record { name = name; kind = kind_of_expression q.names (candidate q a (number_of a) n); dims = []; place = q.words + j } → info ≡ temporary_info q a (number_of a) j n
  info-is j n name free info are less is made =
      let named : name ≡ get_or (free_names q.names) j [] = is ∙ ap (λ (xs : List (List ℕ)). get_or xs j []) are ∙ get_or-take (length (shared q a (number_of a))) (free_names q.names) j [] less in
      made ∙ ap (λ (x : List ℕ). let made : NameInfo = record { name = x; kind = kind_of_expression q.names (candidate q a (number_of a) n); dims = []; place = q.words + j } in made) named

  -- one temporary more
  pub temporaries-next : (j n : ℕ) (info : NameInfo) (old new : List NameInfo) → old ≡ q.names ++ flat_map (λ j. temporary_at q a (number_of a) j (slice_get (shared q a (number_of a)) j)) (range_with_len 0 j) → slice_get (shared q a (number_of a)) j ≡ Some n → info ≡ temporary_info q a (number_of a) j n → new ≡ old ++ info ∷ [] → new ≡ q.names ++ flat_map (λ j. temporary_at q a (number_of a) j (slice_get (shared q a (number_of a)) j)) (range_with_len 0 (j + 1))
  temporaries-next j n info old new so_far at is made =
      let f : ℕ → List NameInfo = λ j. temporary_at q a (number_of a) j (slice_get (shared q a (number_of a)) j) in
      made
      ∙ ap (λ (xs : List NameInfo). xs ++ info ∷ []) so_far
      ∙ append_assoc q.names (flat_map f (range_with_len 0 j)) (info ∷ [])
      ∙ ap (λ (xs : List NameInfo). q.names ++ (flat_map f (range_with_len 0 j) ++ xs)) (ap (λ (i : NameInfo). i ∷ []) is ∙ sym (ap (temporary_at q a (number_of a) j) at))
      ∙ ap (λ (xs : List NameInfo). q.names ++ xs) (sym (infos-more f j))

  -- as many answers are true as candidates are shared
  pub shared-count : (table : List Bool) → AreAnswers (is_shared q a (number_of a)) (length a.candidates) table → count_by (answer table) (range_with_len 0 (length table)) ≡ length (shared q a (number_of a))
  shared-count table are =
      ap (λ m. count_by (answer table) (range_with_len 0 m)) are.size
      ∙ count-range-same (answer table) (is_shared q a (number_of a)) (length a.candidates) are.entry
      ∙ sym (length-filter (is_shared q a (number_of a)) (range_with_len 0 (length a.candidates)))
