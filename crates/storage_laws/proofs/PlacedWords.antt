-- The words of names: each storage lies after the one before it.
use Rattle.std.proofs.Common.{◌≡◌, ℕ, zero, suc, ◌+◌, ◌<◌, ◌≤◌, ◌⊎◌, inl, inr, ⊎_elim, ℤ, pos, ◌+ℤ◌, ◌-ℤ◌, ◌≤ℤ◌, true, false, cond, List, length, refl, sym, ap, ◌∙◌, arith}
use Rattle.std.specs.Prelude.{◌-◌}
use Rattle.std.proofs.lemmas.Int.{ints}
use Rattle.std.proofs.lemmas.Bool.{cases_Bool, eqb-true, eq-eqb}
use Rattle.f77_tree.specs.declared.programs.NameInfo.{NameInfo}
use Rattle.f77_tree.proofs.Places.{nonneg}
use Rattle.layout_rules.specs.Storage.{Spot, size_at, low_of, high_of, words_of, is_storage, words_before, place_of, words_in_all}
use Rattle.layout_rules.specs.Spots.{storage_at, distance_at, AreLowest, IsBelow}
use Rattle.layout_rules.proofs.WordsBefore.{words_before-next}
use Rattle.layout_rules.proofs.StorageBounds.{low-zero, zero-high, low-below, below-high, low-reached, high-reached}

module _ (names : List NameInfo) (spots : List Spot) where
  -- ---- the words before a name

  pub before-storage : (k : ℕ) → storage_at spots k ≡ k → words_before names spots (suc k) ≡ words_before names spots k + words_of names spots k
  before-storage k own = words_before-next names spots k ∙ ap (λ b. words_before names spots k + cond b (words_of names spots k) 0) (eq-eqb (storage_at spots k) k own)

  before-other : (k : ℕ) → is_storage spots k ≡ false → words_before names spots (suc k) ≡ words_before names spots k
  before-other k other = words_before-next names spots k ∙ ap (λ b. words_before names spots k + cond b (words_of names spots k) 0) other ∙ omega arith

  before-more : (j n : ℕ) → words_before names spots j ≤ words_before names spots (j + n)
  before-more j zero = grind arith
  before-more j (suc n) = let e : j + suc n ≡ suc (j + n) = omega arith in rw e (omega (arith, before-more j n, words_before-next names spots (j + n)))

  pub before-rises : (j k : ℕ) → j ≤ k → words_before names spots j ≤ words_before names spots k
  before-rises j k le = grind (arith, before-more j (k - j))

  module _ (lowest : AreLowest spots) where
    module _ (s : ℕ) (known : s < length spots) (own : storage_at spots s ≡ s) where
      -- as many words as lie between its first and its last
      pub words-between : pos (words_of names spots s) ≡ high_of names spots s -ℤ low_of spots s
      words-between = sym (nonneg (high_of names spots s -ℤ low_of spots s) (omega (arith, ints, low-zero names spots lowest s known own, zero-high names spots lowest s known own)))

      pub place-in : (x : ℕ) → x < length spots → storage_at spots x ≡ s → pos (place_of names spots x) ≡ pos (words_before names spots s) +ℤ (distance_at spots x -ℤ low_of spots s)
      place-in x lt same =
          let low : low_of spots (storage_at spots x) ≡ low_of spots s = ap (λ k. low_of spots k) same in
          let before : words_before names spots (storage_at spots x) ≡ words_before names spots s = ap (λ k. words_before names spots k) same in
          let beyond = nonneg (distance_at spots x -ℤ low_of spots (storage_at spots x)) (omega (arith, ints, low-below names spots lowest s known own x lt same)) in
          omega (arith, ints)

      pub end-in : (x : ℕ) → x < length spots → storage_at spots x ≡ s → (pos (place_of names spots x) +ℤ pos (size_at names x)) ≤ℤ pos (words_before names spots (suc s))
      end-in x lt same = omega (arith, ints, place-in x lt same, below-high names spots lowest s known own x lt same, words-between, before-storage s own)

      -- the words of some name end where those of the storage do
      pub ends-in : 0 < size_at names s → (name : ℕ) × (name < length spots) × (storage_at spots name ≡ s) × ((pos (place_of names spots name) +ℤ pos (size_at names name)) ≡ pos (words_before names spots (suc s)))
      ends-in some =
          let end = high-reached names spots lowest s known own some in
          (end.name, end.inside, end.together, omega (arith, ints, place-in end.name end.inside end.together, end.there, words-between, before-storage s own))

    own-storage : (x : ℕ) → x < length spots → storage_at spots x < length spots
    own-storage x lt = omega (arith, lowest.below x lt)

    -- ---- names

    pub end-below : (x : ℕ) → x < length spots → (pos (place_of names spots x) +ℤ pos (size_at names x)) ≤ℤ pos (words_before names spots (suc (storage_at spots x)))
    end-below x lt = end-in (storage_at spots x) (own-storage x lt) (lowest.itself x lt) x lt refl

    -- all words of a name are numbered below the number of all words
    pub within-all : (x : ℕ) → x < length spots → (pos (place_of names spots x) +ℤ pos (size_at names x)) ≤ℤ pos (words_in_all names spots)
    within-all x lt = omega (arith, ints, end-below x lt, before-rises (suc (storage_at spots x)) (length spots) (omega (arith, own-storage x lt)))

    -- no word of a storage comes before those of an earlier one
    pub place-above : (y : ℕ) → y < length spots → words_before names spots (storage_at spots y) ≤ place_of names spots y
    place-above y lt = omega arith

    pub in-order : (x y : ℕ) → x < length spots → y < length spots → storage_at spots x < storage_at spots y → (pos (place_of names spots x) +ℤ pos (size_at names x)) ≤ℤ pos (place_of names spots y)
    in-order x y i j before = omega (arith, ints, end-below x i, before-rises (suc (storage_at spots x)) (storage_at spots y) (omega arith), place-above y j)

    -- two names of one storage are as far from each other as their distances
    pub apart-by : (x y : ℕ) (d : ℤ) → x < length spots → y < length spots → IsBelow spots y x d → pos (place_of names spots y) ≡ pos (place_of names spots x) +ℤ d
    apart-by x y d i j below =
        let s = storage_at spots x in
        omega (arith, ints, below.beyond, place-in s (own-storage x i) (lowest.itself x i) x i refl, place-in s (own-storage x i) (lowest.itself x i) y j (sym below.together))

    -- the lowest name of a storage begins where the words of earlier storages end
    pub begins-storage : (y : ℕ) → y < length spots → ((z : ℕ) → z < length spots → storage_at spots z ≡ storage_at spots y → place_of names spots y ≤ place_of names spots z) → place_of names spots y ≡ words_before names spots (storage_at spots y)
    begins-storage y lt least =
        let s = storage_at spots y in
        let low = low-reached names spots lowest s (own-storage y lt) (lowest.itself y lt) in
        omega (arith, ints, place-above y lt, least low.name low.inside low.together, place-in s (own-storage y lt) (lowest.itself y lt) low.name low.inside low.together, low.there)

    -- the words before a name end with a name of an earlier storage
    pub record EndsBefore (k : ℕ) : Type 0 where
      pub name : ℕ
      pub inside : name < length spots
      pub before : storage_at spots name < k
      pub meets : (pos (place_of names spots name) +ℤ pos (size_at names name)) ≡ pos (words_before names spots k)

    pub ends-before : ((x : ℕ) → x < length spots → 0 < size_at names x) → (k : ℕ) → k ≤ length spots → (words_before names spots k ≡ 0) ⊎ EndsBefore k
    ends-before some zero le = inl refl
    ends-before some (suc k) le =
        ⊎_elim
        (λ (h : is_storage spots k ≡ true).
        let own = eqb-true (storage_at spots k) k h in
        let end = ends-in k (omega arith) own (some k (omega arith)) in
        inr (record { name = end.0; inside = end.1; before = omega (arith, end.2); meets = end.3 }))
        (λ (h : is_storage spots k ≡ false).
        let same = before-other k h in
        ⊎_elim
        (λ e. inl (same ∙ e))
        (λ w. inr (record { name = w.name; inside = w.inside; before = omega (arith, w.before); meets = w.meets ∙ ap pos (sym same) }))
        (ends-before some k (omega arith)))
        (cases_Bool (is_storage spots k))
