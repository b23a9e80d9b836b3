-- Lists that are put together from parts, one for each number below a bound: where the elements of each part stand.
use Rattle.std.proofs.Common.{◌≡◌, ℕ, zero, suc, ◌+◌, ◌-◌, ◌<◌, ◌≤◌, ◌⊎◌, List, [], ◌∷◌, ◌++◌, length, flat_map, All, Some, None, refl, sym, ap, subst, ◌∙◌, inl, inr, ⊎_elim, arith, append-nil, zero-add}
use Rattle.std.specs.Prelude.{slice_get}
use Rattle.std.specs.List.{range_with_len}
use Rattle.std.proofs.lemmas.Bool.{cases_lt}
use Rattle.std.proofs.lemmas.Grind.{flat_map-append}
use Rattle.std.proofs.lemmas.List.{length-append}
use Rattle.list_laws.proofs.Ranges.{range_more}
use Rattle.f77_tree.proofs.AllLemmas.{All-nil, All-cons}
use Rattle.cfg_build.proofs.OutEdges.{range_split}

-- ---- two lists

module _ {X : Type 0} where
  pub within-left : (xs ys : List X) (i : ℕ) → i < length xs → slice_get (xs ++ ys) i ≡ slice_get xs i
  within-left [] ys i less = absurd (omega (arith, less))
  within-left (x ∷ xs) ys zero less = refl
  within-left (x ∷ xs) ys (suc i) less = within-left xs ys i (omega (arith, less))

  pub after-left : (xs ys : List X) (i : ℕ) → slice_get (xs ++ ys) (length xs + i) ≡ slice_get ys i
  after-left [] ys i = let same : 0 + i ≡ i = omega arith in ap (slice_get ys) same
  after-left (x ∷ xs) ys i = let same : suc (length xs) + i ≡ suc (length xs + i) = omega arith in ap (slice_get (x ∷ xs ++ ys)) same ∙ after-left xs ys i

  pub get-within : (xs : List X) (i : ℕ) (x : X) → slice_get xs i ≡ Some x → i < length xs
  get-within [] i x is = let no : None ≡ Some x = is in absurd cc
  get-within (y ∷ ys) zero x is = omega arith
  get-within (y ∷ ys) (suc i) x is = let less = get-within ys i x is in omega (arith, less)

  pub get-at : (xs : List X) (i : ℕ) → i < length xs → (x : X) × (slice_get xs i ≡ Some x)
  get-at [] i less = absurd (omega (arith, less))
  get-at (x ∷ xs) zero less = (x, refl)
  get-at (x ∷ xs) (suc i) less = get-at xs i (omega (arith, less))

  pub get-middle : (xs : List X) (x : X) (ys : List X) → slice_get ((xs ++ x ∷ []) ++ ys) (length xs) ≡ Some x
  get-middle [] x ys = refl
  get-middle (y ∷ xs) x ys = get-middle xs x ys

  -- what holds of the element at each place holds of all
  pub all-at : (P : X → Type 0) (xs : List X) → ((i : ℕ) (x : X) → slice_get xs i ≡ Some x → P x) → All P xs
  all-at P [] each = All-nil P
  all-at P (x ∷ xs) each = All-cons P x xs (each 0 x refl) (all-at P xs (λ i y at. each (suc i) y at))

  -- an element of the second list
  pub record IsAfter (xs ys : List X) (i : ℕ) (x : X) : Type 0 where
    pub index : ℕ
    pub is : slice_get ys index ≡ Some x
    pub stands : i ≡ length xs + index

  pub parted : (xs ys : List X) (i : ℕ) (x : X) → slice_get (xs ++ ys) i ≡ Some x → (slice_get xs i ≡ Some x) ⊎ IsAfter xs ys i x
  parted xs ys i x is = ⊎_elim
      (λ (less : i < length xs). inl (sym (within-left xs ys i less) ∙ is))
      (λ (past : length xs ≤ i).
      let j = i - length xs in
      let same : length xs + j ≡ i = omega (arith, past) in
      inr (record { index = j; is = sym (after-left xs ys j) ∙ ap (slice_get (xs ++ ys)) same ∙ is; stands = sym same }))
      (cases_lt i (length xs))

-- ---- a part for each number

module _ {X : Type 0} (f : ℕ → List X) where
  abbrev pub joined : (n : ℕ) → List X
  joined n = flat_map f (range_with_len 0 n)

  pub joined-more : (n : ℕ) → joined (n + 1) ≡ joined n ++ f n
  joined-more n = ap (flat_map f) (range_more n) ∙ flat_map-append f (range_with_len 0 n) (n ∷ []) ∙ ap (λ (xs : List X). joined n ++ xs) (append-nil (f n))

  pub size-more : (n : ℕ) → length (joined (n + 1)) ≡ length (joined n) + length (f n)
  size-more n = ap length (joined-more n) ∙ length-append (joined n) (f n)

  pub size-rises : (a d : ℕ) → length (joined a) ≤ length (joined (a + d))
  size-rises a zero = let same : a + 0 ≡ a = omega arith in let e = ap (λ n. length (joined n)) same in omega (arith, e)
  size-rises a (suc d) =
      let same : a + d + 1 ≡ a + suc d = omega arith in
      let e = ap (λ n. length (joined n)) same in
      let more = size-more (a + d) in
      let rest = size-rises a d in
      omega (arith, e, more, rest)

  pub size-up : (a b : ℕ) → a ≤ b → length (joined a) ≤ length (joined b)
  size-up a b le =
      let same : a + (b - a) ≡ b = omega (arith, le) in
      let e = ap (λ n. length (joined n)) same in
      let up = size-rises a (b - a) in
      omega (arith, e, up)

  -- a part stands before each later one
  pub part-before : (a b : ℕ) → a < b → length (joined a) + length (f a) ≤ length (joined b)
  part-before a b less =
      let more = size-more a in
      let up = size-up (a + 1) b (omega (arith, less)) in
      omega (arith, more, up)

  -- of which part an element is
  pub record IsFrom (n place : ℕ) (x : X) : Type 0 where
    pub part : ℕ
    pub within : part < n
    pub index : ℕ
    pub is : slice_get (f part) index ≡ Some x
    pub stands : place ≡ length (joined part) + index

  from-by : (n place : ℕ) (x : X) → (slice_get (joined n) place ≡ Some x → IsFrom n place x) → slice_get (joined n ++ f n) place ≡ Some x → IsFrom (n + 1) place x
  from-by n place x earlier is = ⊎_elim
      (λ (before : slice_get (joined n) place ≡ Some x).
      let r = earlier before in
      record { part = r.part; within = omega (arith, r.within); index = r.index; is = r.is; stands = r.stands })
      (λ (here : IsAfter (joined n) (f n) place x). record { part = n; within = omega arith; index = here.index; is = here.is; stands = here.stands })
      (parted (joined n) (f n) place x is)

  pub from-part : (n place : ℕ) (x : X) → slice_get (joined n) place ≡ Some x → IsFrom n place x
  from-part zero place x is = let no : None ≡ Some x = is in absurd cc
  from-part (suc n) place x is =
      let same : n + 1 ≡ suc n = omega arith in
      subst (λ (m : ℕ). IsFrom m place x) same (from-by n place x (from-part n place x) (ap (λ (xs : List X). slice_get xs place) (sym (joined-more n)) ∙ ap (λ (m : ℕ). slice_get (joined m) place) same ∙ is))

  pub stands-at : (n k i : ℕ) → k < n → i < length (f k) → slice_get (joined n) (length (joined k) + i) ≡ slice_get (f k) i
  stands-at n k i below some =
      let more = n - (k + 1) in
      let size : n ≡ k + suc more = omega (arith, below) in
      let after = flat_map f (range_with_len (k + 1) more) in
      let split : joined n ≡ joined k ++ (f k ++ after) =
      ap (λ m. flat_map f (range_with_len 0 m)) size
      ∙ ap (flat_map f) (range_split 0 k (suc more) ∙ ap (λ m. range_with_len 0 k ++ range_with_len m (suc more)) (zero-add k))
      ∙ flat_map-append f (range_with_len 0 k) (range_with_len k (suc more)) in
      ap (λ (xs : List X). slice_get xs (length (joined k) + i)) split ∙ after-left (joined k) (f k ++ after) i ∙ within-left (f k) after i some

  -- a place is in one part
  pub one-part : (a b i j : ℕ) → i < length (f a) → j < length (f b) → length (joined a) + i ≡ length (joined b) + j → a ≡ b
  one-part a b i j in_a in_b same = ⊎_elim
      (λ (less : a < b). let before = part-before a b less in absurd (omega (arith, before, in_a, same)))
      (λ (le : b ≤ a). ⊎_elim
      (λ (less : b < a). let before = part-before b a less in absurd (omega (arith, before, in_b, same)))
      (λ (ge : a ≤ b). omega (arith, le, ge))
      (cases_lt b a))
      (cases_lt a b)
