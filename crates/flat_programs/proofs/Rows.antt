-- Lists that numbered rows give one after another: in which row an item stands.
use Rattle.std.proofs.Common.{◌≡◌, ℕ, zero, suc, ◌+◌, ◌-◌, ◌<◌, ◌≤◌, List, [], ◌∷◌, ◌++◌, length, refl, sym, ap, ◌∙◌, subst, ⊎_elim, arith}
use Rattle.std.specs.Prelude.{flat_map, slice_get, sum_by, Some}
use Rattle.std.specs.List.{range_with_len}
use Rattle.std.proofs.lemmas.Bool.{cases_lt}
use Rattle.std.proofs.lemmas.Option.{slice_get_within}
use Rattle.std.proofs.lemmas.List.{flat_map_more, length-append}
use Rattle.std.proofs.lemmas.List.Sums.{sum_by-append}
use Rattle.list_laws.proofs.Ranges.{range_more}
use Rattle.f77_tree.proofs.AllLemmas.{get-longer}

pub get-after : {A : Type 0} (xs ys : List A) (j : ℕ) → slice_get (xs ++ ys) (length xs + j) ≡ slice_get ys j
get-after [] ys j = let none : 0 + j ≡ j = omega arith in ap (slice_get ys) none
get-after (x ∷ xs) ys j =
    let more : length (x ∷ xs) + j ≡ suc (length xs + j) = omega arith in
    ap (slice_get (x ∷ (xs ++ ys))) more ∙ get-after xs ys j

module _ {A : Type 0} (f : ℕ → List A) where
  -- the items of the first rows
  abbrev pub rows : ℕ → List A
  rows n = flat_map f (range_with_len 0 n)

  -- where the first item of a row stands
  abbrev pub start : ℕ → ℕ
  start n = sum_by (λ row. length (f row)) (range_with_len 0 n)

  pub rows-more : (n : ℕ) → rows (n + 1) ≡ rows n ++ f n
  rows-more n = ap (flat_map f) (range_more n) ∙ sym (flat_map_more f [] (range_with_len 0 n) n)

  pub start-more : (n : ℕ) → start (n + 1) ≡ start n + length (f n)
  start-more n =
      let one : sum_by (λ (row : ℕ). length (f row)) (n ∷ []) ≡ length (f n) = omega arith in
      ap (sum_by (λ (row : ℕ). length (f row))) (range_more n) ∙ sum_by-append (λ (row : ℕ). length (f row)) (range_with_len 0 n) (n ∷ []) ∙ ap (λ m. start n + m) one

  pub rows-length : (n : ℕ) → length (rows n) ≡ start n
  rows-length zero = refl
  rows-length (suc n) =
      let add : n + 1 ≡ suc n = omega arith in
      let a = ap length (rows-more n) ∙ length-append (rows n) (f n) in
      let b = start-more n in
      let c = rows-length n in
      subst (λ m. length (rows m) ≡ start m) add (omega (arith, a, b, c))

  pub start-rises : (m d : ℕ) → start m ≤ start (m + d)
  start-rises m zero = let e : m + 0 ≡ m = omega arith in let same = ap start e in omega (arith, same)
  start-rises m (suc d) =
      let e : m + suc d ≡ (m + d) + 1 = omega arith in
      let same = ap start e in
      let step = start-more (m + d) in
      let less = start-rises m d in
      omega (arith, same, step, less)

  -- the item with this index stands in a row at a place in it
  pub record IsInRow (n k : ℕ) (x : A) : Type 0 where
    pub row : ℕ
    pub exists : row < n
    pub place : ℕ
    pub index : k ≡ start row + place
    pub is : slice_get (f row) place ≡ Some x

  in_row-more : (n k : ℕ) (x : A) → ((j : ℕ) → slice_get (rows n) j ≡ Some x → IsInRow n j x) → slice_get (rows (n + 1)) k ≡ Some x → IsInRow (n + 1) k x
  in_row-more n k x less is =
      let here : slice_get (rows n ++ f n) k ≡ Some x = ap (λ (xs : List A). slice_get xs k) (sym (rows-more n)) ∙ is in
      ⊎_elim
      (λ (before : k < length (rows n)).
      let r : IsInRow n k x = less k (sym (get-longer (rows n) (f n) k before) ∙ here) in
      record { row = r.row; exists = omega (arith, r.exists); place = r.place; index = r.index; is = r.is })
      (λ (after : length (rows n) ≤ k).
      let j = k - length (rows n) in
      let at : k ≡ length (rows n) + j = omega (arith, after) in
      let index : k ≡ start n + j = at ∙ ap (λ m. m + j) (rows-length n) in
      record { row = n; exists = omega arith; place = j; index = index; is = sym (get-after (rows n) (f n) j) ∙ ap (slice_get (rows n ++ f n)) (sym at) ∙ here })
      (cases_lt k (length (rows n)))

  pub in_row : (n k : ℕ) (x : A) → slice_get (rows n) k ≡ Some x → IsInRow n k x
  in_row zero k x is = absurd cc
  in_row (suc n) k x is =
      let add : n + 1 ≡ suc n = omega arith in
      subst (λ (m : ℕ). IsInRow m k x) add (in_row-more n k x (λ j. in_row n j x) (ap (λ (m : ℕ). slice_get (rows m) k) add ∙ is))

  pub row_at : (n row place : ℕ) (x : A) → row < n → slice_get (f row) place ≡ Some x → slice_get (rows n) (start row + place) ≡ Some x
  row_at zero row place x less is = absurd (omega (arith, less))
  row_at (suc n) row place x less is =
      let add : n + 1 ≡ suc n = omega arith in
      let within = slice_get_within (f row) place x is in
      subst (λ (m : ℕ). slice_get (rows m) (start row + place) ≡ Some x) add
      (ap (λ (xs : List A). slice_get xs (start row + place)) (rows-more n)
      ∙ ⊎_elim
      (λ (before : row < n).
      let at = row_at n row place x before is in
      get-longer (rows n) (f n) (start row + place) (slice_get_within (rows n) (start row + place) x at) ∙ at)
      (λ (last : n ≤ row).
      let same : row ≡ n = omega (arith, less, last) in
      let at : start row + place ≡ length (rows n) + place = ap (λ m. start m + place) same ∙ ap (λ m. m + place) (sym (rows-length n)) in
      ap (slice_get (rows n ++ f n)) at ∙ get-after (rows n) (f n) place ∙ ap (λ m. slice_get (f m) place) (sym same) ∙ is)
      (cases_lt row n))
