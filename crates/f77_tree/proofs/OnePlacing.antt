-- Equations and blocks settle the places of names.
use Rattle.std.proofs.Common.{◌≡◌, ℕ, zero, suc, ◌<◌, ◌≤◌, pos, ◌+ℤ◌, ◌≤ℤ◌, List, [], ◌∷◌, length, All, ◌⊎◌, inl, inr, refl, sym, ap, subst, ◌∙◌, ⊎_elim, arith}
use Rattle.std.proofs.lemmas.Bool.{cases_lt}
use Rattle.std.proofs.lemmas.Int.{ints}
use Rattle.std.proofs.lemmas.List.{length-map}
use Rattle.f77_tree.specs.declared.declarations.CommonPart.{CommonPart}
use Rattle.f77_tree.specs.declared.declarations.Dim.{Dim}
use Rattle.f77_tree.specs.declared.programs.NameInfo.{NameInfo}
use Rattle.f77_tree.specs.Declarations.{IsNameInfo}
use Rattle.f77_tree.specs.OtherPlaces.{DifferInPlaces, without_places}
use Rattle.f77_tree.specs.Places.{ArePlaces, BeginsAfter, EndsAt, Equation, Linked, itself, along, against}
use Rattle.f77_tree.specs.Value.{place_of, dims_of, size_of}
use Rattle.f77_tree.proofs.Equations.{size-one}
use Rattle.f77_tree.proofs.WellFormedLaws.{table-bounds}

-- ---- names without their places

dims-without : (names : List NameInfo) (k : ℕ) → dims_of (without_places names) k ≡ dims_of names k
dims-without [] k = refl
dims-without (info ∷ names) zero = refl
dims-without (info ∷ names) (suc k) = dims-without names k

same-dims : (names others : List NameInfo) → DifferInPlaces names others → (k : ℕ) → dims_of names k ≡ dims_of others k
same-dims names others differ k = sym (dims-without names k) ∙ ap (λ (table : List NameInfo). dims_of table k) differ ∙ dims-without others k

same-count : (names others : List NameInfo) → DifferInPlaces names others → length names ≡ length others
same-count names others differ = sym (length-map names (λ (info : NameInfo). record info { place = 0 })) ∙ ap length differ ∙ length-map others (λ (info : NameInfo). record info { place = 0 })

-- ---- one table places no name after the other

module _ (names others : List NameInfo) (commons more : List CommonPart) (all : List Equation) (words words' : ℕ) (count : length names ≡ length others) (dims : (k : ℕ) → dims_of names k ≡ dims_of others k)
    (sizes : (x : ℕ) → x < length names → pos 1 ≤ℤ size_of (dims_of names x)) (is : ArePlaces names commons all words) (also : ArePlaces others more all words') where
  -- linked names are as far from each other in both
  apart : (x y : ℕ) → Linked all x y → (pos (place_of names y) +ℤ pos (place_of others x)) ≡ (pos (place_of others y) +ℤ pos (place_of names x))
  apart x y itself = omega (arith, ints)
  apart x y (along e at rest) = let h = apart e.to y rest in let a = is.equal e at in let b = also.equal e at in omega (arith, ints, h, a, b)
  apart x y (against e at rest) = let h = apart e.from y rest in let a = is.equal e at in let b = also.equal e at in omega (arith, ints, h, a, b)

  size-same : (x : ℕ) → size_of (dims_of names x) ≡ size_of (dims_of others x)
  size-same x = ap size_of (dims x)

  -- the names that begin before word n
  abbrev AreNotAfter : ℕ → Type 0
  AreNotAfter n = (y : ℕ) → y < length names → place_of names y < n → place_of names y ≤ place_of others y

  one-more : (n y : ℕ) → AreNotAfter n → y < length names → place_of names y ≤ n → place_of names y ≤ place_of others y
  one-more n y earlier y_lt le = ⊎_elim (λ (lt : place_of others y < place_of names y). absurd (contrary lt (is.begins y y_lt (lowest lt)))) (λ fine. fine) (cases_lt (place_of others y) (place_of names y))
    where
      -- where it isn't so, y is the lowest name of its storage
      lowest : place_of others y < place_of names y → (z : ℕ) → z < length names → Linked all z y → place_of names y ≤ place_of names z
      lowest lt z z_lt linked =
          ⊎_elim (λ (below : place_of names z < place_of names y).
          let h = earlier z z_lt (omega (arith, below, le)) in
          let a = apart z y linked in
          absurd (omega (arith, ints, h, a, lt)))
          (λ fine. fine) (cases_lt (place_of names z) (place_of names y))

      contrary : place_of others y < place_of names y → (place_of names y ≡ 0) ⊎ BeginsAfter names all y → ⊥
      contrary lt (inl first) = omega (arith, lt, first)
      contrary lt (inr begins) =
          let x = begins.name in
          let one = sizes x begins.known in
          let meets = begins.meets in
          let before : place_of names x < n = omega (arith, ints, one, meets, le) in
          let h = earlier x begins.known before in
          let size = size-same x in
          let ends = also.ordered x y (subst (λ k. x < k) count begins.known) (subst (λ k. y < k) count y_lt) begins.earlier in
          omega (arith, ints, h, size, ends, meets, lt)

  not-after : (n : ℕ) → AreNotAfter n
  not-after zero y y_lt lt = absurd (omega (arith, lt))
  not-after (suc n) y y_lt lt = one-more n y (not-after n) y_lt (omega (arith, lt))

  pub place-at-most : (y : ℕ) → y < length names → place_of names y ≤ place_of others y
  place-at-most y y_lt = not-after (suc (place_of names y)) y y_lt (omega arith)

  pub words-at-most : words ≤ words'
  words-at-most = by is.ends
    where
      by : (words ≡ 0) ⊎ EndsAt names words → words ≤ words'
      by (inl none) = omega (arith, none)
      by (inr ends) =
          let meets = ends.meets in
          let h = place-at-most ends.name ends.known in
          let size = size-same ends.name in
          let inside = also.within ends.name (subst (λ k. ends.name < k) count ends.known) in
          omega (arith, ints, meets, h, size, inside)

-- ---- places are settled

module _ (names others : List NameInfo) (commons : List CommonPart) (more : List CommonPart) (all : List Equation) (words words' : ℕ) (differ : DifferInPlaces names others)
    (table : All IsNameInfo names) (is : ArePlaces names commons all words) (also : ArePlaces others more all words') where
  count : length names ≡ length others
  count = same-count names others differ

  dims : (k : ℕ) → dims_of names k ≡ dims_of others k
  dims = same-dims names others differ

  sizes : (x : ℕ) → x < length names → pos 1 ≤ℤ size_of (dims_of names x)
  sizes = size-one names (table-bounds names table)

  other_sizes : (x : ℕ) → x < length others → pos 1 ≤ℤ size_of (dims_of others x)
  other_sizes x lt = subst (λ (ds : List Dim). pos 1 ≤ℤ size_of ds) (dims x) (sizes x (subst (λ k. x < k) (sym count) lt))

  pub one-place : (k : ℕ) → k < length names → place_of names k ≡ place_of others k
  one-place k lt =
      let a = place-at-most names others commons more all words words' count dims sizes is also k lt in
      let b = place-at-most others names more commons all words' words (sym count) (λ j. sym (dims j)) other_sizes also is k (subst (λ n. k < n) count lt) in
      omega (arith, a, b)

  pub one-count : words ≡ words'
  one-count =
      let a = words-at-most names others commons more all words words' count dims sizes is also in
      let b = words-at-most others names more commons all words' words (sym count) (λ j. sym (dims j)) other_sizes also is in
      omega (arith, a, b)

  pub one-table : names ≡ others
  one-table = whole names others differ one-place
    where
      whole : (xs ys : List NameInfo) → DifferInPlaces xs ys → ((k : ℕ) → k < length xs → place_of xs k ≡ place_of ys k) → xs ≡ ys
      whole [] [] e same = refl
      whole [] (y ∷ ys) e same = absurd cc
      whole (x ∷ xs) [] e same = absurd cc
      whole (x ∷ xs) (y ∷ ys) e same =
          let first : record x { place = 0 } ≡ record y { place = 0 } = cc in
          let rest : without_places xs ≡ without_places ys = cc in
          let place : x.place ≡ y.place = same 0 (omega arith) in
          let one : x ≡ y = ap (λ (info : NameInfo). record info { place = x.place }) first ∙ ap (λ p. record y { place = p }) place in
          ap (λ (info : NameInfo). info ∷ xs) one ∙ ap (λ (infos : List NameInfo). y ∷ infos) (whole xs ys rest (λ k lt. same (suc k) (omega (arith, lt))))
