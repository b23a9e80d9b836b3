-- Places in lists: of items that pass a test, and of those that numbered rows give one after another.
use Rattle.std.proofs.Common.{◌≡◌, ℕ, zero, suc, ◌+◌, ◌-◌, ◌<◌, ◌≤◌, All, Bool, true, false, List, [], ◌∷◌, ◌++◌, length, take, Some, refl, sym, ap, subst, ◌∙◌, ⊎_elim, arith}
use Rattle.std.specs.Prelude.{flat_map, slice_get}
use Rattle.std.specs.List.{count_by, position_or_len, range_with_len}
use Rattle.std.proofs.lemmas.Bool.{cases_Bool, cases_lt}
use Rattle.std.proofs.lemmas.List.{append-nil, length-append}
use Rattle.std.proofs.lemmas.Grind.{flat_map-append}
use Rattle.list_laws.specs.Member.{Member}
use Rattle.list_laws.proofs.Counts.{bit, count-append, count-cons}
use Rattle.list_laws.proofs.Members.{at_of}
use Rattle.list_laws.proofs.Ranges.{range_more}
use Rattle.shared_forms.proofs.TemporaryTable.{slice_get-kept, slice_get-left, slice_get-right}

-- ---- items

module _ {X : Type 0} where
  pub item_at : (xs : List X) (k : ℕ) → k < length xs → (x : X) × (slice_get xs k ≡ Some x)
  item_at [] k less = absurd (omega (arith, less))
  item_at (x ∷ xs) zero less = (x, refl)
  item_at (x ∷ xs) (suc k) less = item_at xs k (omega (arith, less))

  take_next : (xs : List X) (k : ℕ) (x : X) → slice_get xs k ≡ Some x → take (k + 1) xs ≡ take k xs ++ x ∷ []
  take_next [] k x is = absurd cc
  take_next (y ∷ ys) zero x is = let same : y ≡ x = cc in ap (λ z. z ∷ []) same
  take_next (y ∷ ys) (suc k) x is =
      let add : suc k + 1 ≡ suc (k + 1) = omega arith in
      ap (λ n. take n (y ∷ ys)) add ∙ ap (λ zs. y ∷ zs) (take_next ys k x is)

  pub take_whole : (xs : List X) → take (length xs) xs ≡ xs
  take_whole [] = refl
  take_whole (x ∷ xs) = ap (λ ys. x ∷ ys) (take_whole xs)

  pub All-member : (P : X → Type 0) (xs : List X) (x : X) → All P xs → Member xs x → P x
  All-member P xs x all among = let r = at_of xs x among in subst P (r.is x) (all r.place x r.exists)

-- ---- items that pass a test

module _ {X : Type 0} (t : X → Bool) where
  -- one item on
  pub count-next : (xs : List X) (k : ℕ) (x : X) → slice_get xs k ≡ Some x → count_by t (take (k + 1) xs) ≡ count_by t (take k xs) + bit (t x)
  count-next xs k x is =
      let one : count_by t (x ∷ []) ≡ bit (t x) = let c = count-cons t x [] in omega (arith, c) in
      ap (count_by t) (take_next xs k x is) ∙ count-append t (take k xs) (x ∷ []) ∙ ap (λ n. count_by t (take k xs) + n) one

  pub count-front : (xs : List X) (k : ℕ) → count_by t (take k xs) ≤ count_by t xs
  count-front [] zero = omega arith
  count-front [] (suc k) = omega arith
  count-front (x ∷ xs) zero = omega arith
  count-front (x ∷ xs) (suc k) =
      let front = count-cons t x (take k xs) in
      let whole = count-cons t x xs in
      let rest = count-front xs k in
      omega (arith, front, whole, rest)

  -- the one that passes after so many others
  pub record IsNth (xs : List X) (n : ℕ) : Type 0 where
    pub place : ℕ
    pub item : X
    pub is : slice_get xs place ≡ Some item
    pub passes : t item ≡ true
    pub before : count_by t (take place xs) ≡ n

  nth-by : (x : X) (xs : List X) (n : ℕ) (b : Bool) → ((m : ℕ) → m < count_by t xs → IsNth xs m) → t x ≡ b → n < count_by t (x ∷ xs) → IsNth (x ∷ xs) n
  nth-by x xs zero true rest is less = record { place = 0; item = x; is = refl; passes = is; before = refl }
  nth-by x xs (suc n) true rest is less =
      let size : count_by t (x ∷ xs) ≡ 1 + count_by t xs = count-cons t x xs ∙ ap (λ b. bit b + count_by t xs) is in
      let r = rest n (omega (arith, size, less)) in
      let more : count_by t (x ∷ take r.place xs) ≡ 1 + count_by t (take r.place xs) = count-cons t x (take r.place xs) ∙ ap (λ b. bit b + count_by t (take r.place xs)) is in
      record { place = suc r.place; item = r.item; is = r.is; passes = r.passes; before = more ∙ (let e = r.before in omega (arith, e)) }
  nth-by x xs n false rest is less =
      let size : count_by t (x ∷ xs) ≡ 0 + count_by t xs = count-cons t x xs ∙ ap (λ b. bit b + count_by t xs) is in
      let r = rest n (omega (arith, size, less)) in
      let more : count_by t (x ∷ take r.place xs) ≡ 0 + count_by t (take r.place xs) = count-cons t x (take r.place xs) ∙ ap (λ b. bit b + count_by t (take r.place xs)) is in
      record { place = suc r.place; item = r.item; is = r.is; passes = r.passes; before = more ∙ (let e = r.before in omega (arith, e)) }

  pub nth : (xs : List X) (n : ℕ) → n < count_by t xs → IsNth xs n
  nth [] n less = absurd (omega (arith, less))
  nth (x ∷ xs) n less = nth-by x xs n (t x) (nth xs) refl less

  -- ---- the first one

  here : (x : X) (xs : List X) → t x ≡ true → position_or_len t (x ∷ xs) ≡ 0
  here x xs is = rw is refl

  later : (x : X) (xs : List X) → t x ≡ false → position_or_len t (x ∷ xs) ≡ 1 + position_or_len t xs
  later x xs is = rw is refl

  pub position-most : (xs : List X) → position_or_len t xs ≤ length xs
  position-most [] = omega arith
  position-most (x ∷ xs) = ⊎_elim
      (λ (h : t x ≡ true). let e = here x xs h in omega (arith, e))
      (λ (h : t x ≡ false). let e = later x xs h in let rest = position-most xs in omega (arith, e, rest))
      (cases_Bool (t x))

  -- what stands before it doesn't pass
  pub before-first : (xs : List X) (k : ℕ) (x : X) → k < position_or_len t xs → slice_get xs k ≡ Some x → t x ≡ false
  before-first [] k x less is = absurd cc
  before-first (y ∷ ys) zero x less is = ⊎_elim
      (λ (h : t y ≡ true). let e = here y ys h in absurd (omega (arith, less, e)))
      (λ (h : t y ≡ false). let same : y ≡ x = cc in ap t (sym same) ∙ h)
      (cases_Bool (t y))
  before-first (y ∷ ys) (suc k) x less is = ⊎_elim
      (λ (h : t y ≡ true). let e = here y ys h in absurd (omega (arith, less, e)))
      (λ (h : t y ≡ false). let e = later y ys h in before-first ys k x (omega (arith, less, e)) is)
      (cases_Bool (t y))

  pub record IsFirst (xs : List X) : Type 0 where
    pub item : X
    pub is : slice_get xs (position_or_len t xs) ≡ Some item
    pub passes : t item ≡ true

  pub first-found : (xs : List X) → position_or_len t xs < length xs → IsFirst xs
  first-found [] less = absurd (omega (arith, less))
  first-found (x ∷ xs) less = ⊎_elim
      (λ (h : t x ≡ true). record { item = x; is = ap (slice_get (x ∷ xs)) (here x xs h); passes = h })
      (λ (h : t x ≡ false).
      let e = later x xs h in
      let r = first-found xs (omega (arith, less, e)) in
      let next : position_or_len t (x ∷ xs) ≡ suc (position_or_len t xs) = omega (arith, e) in
      record { item = r.item; is = ap (slice_get (x ∷ xs)) next ∙ r.is; passes = r.passes })
      (cases_Bool (t x))

  -- the one before which none passes
  pub position-is : (xs : List X) (i : ℕ) (x : X) → slice_get xs i ≡ Some x → t x ≡ true → ((k : ℕ) (y : X) → k < i → slice_get xs k ≡ Some y → t y ≡ false) → position_or_len t xs ≡ i
  position-is [] i x is passes none = absurd cc
  position-is (y ∷ ys) zero x is passes none = let same : y ≡ x = cc in here y ys (ap t same ∙ passes)
  position-is (y ∷ ys) (suc i) x is passes none =
      let e = later y ys (none zero y (omega arith) refl) in
      let rest = position-is ys i x is passes (λ k z less at. none (suc k) z (omega (arith, less)) at) in
      omega (arith, e, rest)

-- ---- rows one after another

module _ {X : Type 0} (f : ℕ → List X) where
  -- the items of the first rows
  abbrev pub rows : ℕ → List X
  rows n = flat_map f (range_with_len 0 n)

  -- where the first item of a row stands
  abbrev pub start : ℕ → ℕ
  start n = length (rows n)

  pub rows-more : (n : ℕ) → rows (n + 1) ≡ rows n ++ f n
  rows-more n = ap (flat_map f) (range_more n) ∙ flat_map-append f (range_with_len 0 n) (n ∷ []) ∙ ap (λ (xs : List X). rows n ++ xs) (append-nil (f n))

  pub start-more : (n : ℕ) → start (n + 1) ≡ start n + length (f n)
  start-more n = ap length (rows-more n) ∙ length-append (rows n) (f n)

  pub start-rises : (m d : ℕ) → start m ≤ start (m + d)
  start-rises m zero = let e : m + 0 ≡ m = omega arith in let same = ap start e in omega (arith, same)
  start-rises m (suc d) =
      let e : m + suc d ≡ (m + d) + 1 = omega arith in
      let same = ap start e in
      let next = start-more (m + d) in
      let rest = start-rises m d in
      omega (arith, same, next, rest)

  -- the item with this index stands in a row, at a place in it
  pub record IsInRow (n k : ℕ) (x : X) : Type 0 where
    pub row : ℕ
    pub exists : row < n
    pub place : ℕ
    pub index : k ≡ start row + place
    pub is : slice_get (f row) place ≡ Some x

  in_row-more : (n k : ℕ) (x : X) → ((j : ℕ) → slice_get (rows n) j ≡ Some x → IsInRow n j x) → slice_get (rows (n + 1)) k ≡ Some x → IsInRow (n + 1) k x
  in_row-more n k x less is =
      let at : slice_get (rows n ++ f n) k ≡ Some x = ap (λ (xs : List X). slice_get xs k) (sym (rows-more n)) ∙ is in
      ⊎_elim
      (λ (before : k < start n).
      let r = less k (sym (slice_get-left (rows n) (f n) k before) ∙ at) in
      record { row = r.row; exists = omega (arith, r.exists); place = r.place; index = r.index; is = r.is })
      (λ (past : start n ≤ k).
      let j = k - start n in
      let index : k ≡ start n + j = omega (arith, past) in
      record { row = n; exists = omega arith; place = j; index = index; is = sym (slice_get-right (rows n) (f n) j) ∙ ap (slice_get (rows n ++ f n)) (sym index) ∙ at })
      (cases_lt k (start n))

  pub in_row : (n k : ℕ) (x : X) → slice_get (rows n) k ≡ Some x → IsInRow n k x
  in_row zero k x is = absurd cc
  in_row (suc n) k x is =
      let add : n + 1 ≡ suc n = omega arith in
      subst (λ (m : ℕ). IsInRow m k x) add (in_row-more n k x (λ j. in_row n j x) (ap (λ (m : ℕ). slice_get (rows m) k) add ∙ is))

  row-here : (n place : ℕ) (x : X) → slice_get (f n) place ≡ Some x → slice_get (rows (n + 1)) (start n + place) ≡ Some x
  row-here n place x is = ap (λ (xs : List X). slice_get xs (start n + place)) (rows-more n) ∙ slice_get-right (rows n) (f n) place ∙ is

  rows-kept : (n d k : ℕ) (x : X) → slice_get (rows n) k ≡ Some x → slice_get (rows (n + d)) k ≡ Some x
  rows-kept n zero k x is = let e : n ≡ n + 0 = omega arith in subst (λ m. slice_get (rows m) k ≡ Some x) e is
  rows-kept n (suc d) k x is =
      let e : n + d + 1 ≡ n + suc d = omega arith in
      subst (λ m. slice_get (rows m) k ≡ Some x) e (ap (λ (xs : List X). slice_get xs k) (rows-more (n + d)) ∙ slice_get-kept (rows (n + d)) (f (n + d)) k x (rows-kept n d k x is))

  pub row_at : (n row place : ℕ) (x : X) → row < n → slice_get (f row) place ≡ Some x → slice_get (rows n) (start row + place) ≡ Some x
  row_at n row place x less is =
      let e : row + 1 + (n - (row + 1)) ≡ n = omega (arith, less) in
      subst (λ m. slice_get (rows m) (start row + place) ≡ Some x) e (rows-kept (row + 1) (n - (row + 1)) (start row + place) x (row-here row place x is))
