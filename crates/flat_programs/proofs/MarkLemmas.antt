-- The places and the numbers of marks.
use Rattle.std.proofs.Common.{◌≡◌, ℕ, zero, suc, ◌+◌, ◌-◌, ◌<◌, ◌≤◌, Bool, true, false, List, [], ◌∷◌, ◌++◌, length, take, refl, ap, ◌∙◌, subst, arith}
use Rattle.std.specs.Prelude.{slice_get, Some}
use Rattle.std.specs.List.{count_by}
use Rattle.std.proofs.lemmas.List.{length_push}
use Rattle.list_laws.proofs.Counts.{bit, count-append, count-cons}
use Rattle.flat_programs.specs.declared.statements.FlatLine.{FlatLine}
use Rattle.flat_programs.specs.Marks.{is_mark, is_mark_in, mark_at, mark_count, mark_places, place_of}
use Rattle.flat_programs.specs.FlatForm.{IsNumber}
use Rattle.flat_programs.proofs.Positions.{below, below_in, below_out, one, IsOne}

-- ---- one statement on

pub take_next : {X : Type 0} (xs : List X) (k : ℕ) (x : X) → slice_get xs k ≡ Some x → take (k + 1) xs ≡ take k xs ++ x ∷ []
take_next [] k x is = absurd cc
take_next (y ∷ ys) zero x is = let same : y ≡ x = cc in ap (λ z. z ∷ []) same
take_next (y ∷ ys) (suc k) x is =
    let add : suc k + 1 ≡ suc (k + 1) = omega arith in
    ap (λ n. take n (y ∷ ys)) add ∙ ap (λ zs. y ∷ zs) (take_next ys k x is)

-- an item
pub item_at : {X : Type 0} (xs : List X) (k : ℕ) → k < length xs → (x : X) × (slice_get xs k ≡ Some x)
item_at [] k less = absurd (omega (arith, less))
item_at (x ∷ xs) zero less = (x, refl)
item_at (x ∷ xs) (suc k) less = item_at xs k (omega (arith, less))

pub count-take-le : {X : Type 0} (p : X → Bool) (xs : List X) (k : ℕ) → count_by p (take k xs) ≤ count_by p xs
count-take-le p [] zero = omega arith
count-take-le p [] (suc k) = omega arith
count-take-le p (x ∷ xs) zero = omega arith
count-take-le p (x ∷ xs) (suc k) =
    let a = count-cons p x (take k xs) in
    let b = count-cons p x xs in
    let less = count-take-le p xs k in
    omega (arith, a, b, less)

pub take_whole : {X : Type 0} (xs : List X) → take (length xs) xs ≡ xs
take_whole [] = refl
take_whole (x ∷ xs) = ap (λ ys. x ∷ ys) (take_whole xs)

pub bit-most : (b : Bool) → bit b ≤ 1
bit-most true = omega arith
bit-most false = omega arith

module _ (flat : List FlatLine) where
  abbrev test : ℕ → Bool
  test place = is_mark_in (slice_get flat place)

  abbrev marks_above : ℕ → ℕ
  marks_above place = count_by (λ l. is_mark l.stmt) (take place flat)

  pub marks_above-next : (place : ℕ) (l : FlatLine) → slice_get flat place ≡ Some l → marks_above (place + 1) ≡ marks_above place + bit (is_mark l.stmt)
  marks_above-next place l is =
      let one : count_by (λ (s : FlatLine). is_mark s.stmt) (l ∷ []) ≡ bit (is_mark l.stmt) = omega arith in
      ap (count_by (λ (s : FlatLine). is_mark s.stmt)) (take_next flat place l is) ∙ count-append (λ (s : FlatLine). is_mark s.stmt) (take place flat) (l ∷ []) ∙ ap (λ n. marks_above place + n) one

  -- ---- the places above one are as many as the marks above it

  pub places_in : (place : ℕ) (l : FlatLine) → slice_get flat place ≡ Some l → is_mark l.stmt ≡ true → below test (place + 1) ≡ below test place ++ place ∷ []
  places_in place l is mark = below_in test place (ap is_mark_in is ∙ mark)

  pub places_out : (place : ℕ) (l : FlatLine) → slice_get flat place ≡ Some l → is_mark l.stmt ≡ false → below test (place + 1) ≡ below test place
  places_out place l is other = below_out test place (ap is_mark_in is ∙ other)

  marks_step : (place : ℕ) (l : FlatLine) → slice_get flat place ≡ Some l → length (below test place) ≡ marks_above place → (b : Bool) → is_mark l.stmt ≡ b → length (below test (place + 1)) ≡ marks_above (place + 1)
  marks_step place l is same true mark =
      let a = ap length (places_in place l is mark) ∙ length_push (below test place) place in
      let b : marks_above (place + 1) ≡ marks_above place + 1 = marks_above-next place l is ∙ ap (λ c. marks_above place + bit c) mark in
      omega (arith, a, b, same)
  marks_step place l is same false other =
      let a = ap length (places_out place l is other) in
      let b : marks_above (place + 1) ≡ marks_above place + 0 = marks_above-next place l is ∙ ap (λ c. marks_above place + bit c) other in
      omega (arith, a, b, same)

  pub marks_below : (place : ℕ) → place ≤ length flat → length (below test place) ≡ marks_above place
  marks_below zero within = refl
  marks_below (suc place) within =
      let add : place + 1 ≡ suc place = omega arith in
      let item = item_at flat place (omega (arith, within)) in
      subst (λ n. length (below test n) ≡ marks_above n) add (marks_step place item.0 item.1 (marks_below place (omega (arith, within))) (is_mark item.0.stmt) refl)

  pub marks_all : length (mark_places flat) ≡ mark_count flat
  marks_all = marks_below (length flat) (omega arith) ∙ ap (count_by (λ (l : FlatLine). is_mark l.stmt)) (take_whole flat)

  -- the place of a number, which is that of a mark
  pub index_of_number : (number : ℕ) → IsNumber (mark_count flat) number → number - 1 < length (mark_places flat)
  index_of_number number is = omega (arith, marks_all, is.least, is.most)

  pub found : (number : ℕ) → IsNumber (mark_count flat) number → IsOne test (length flat) (number - 1) (place_of flat number)
  found number is = one test (length flat) (number - 1) (index_of_number number is)

  pub mark_at-most : (place : ℕ) → mark_at flat place ≤ mark_count flat + 1
  mark_at-most place = let less = count-take-le (λ (l : FlatLine). is_mark l.stmt) flat place in omega (arith, less)

  pub mark_at-next : (place : ℕ) (l : FlatLine) → slice_get flat place ≡ Some l → mark_at flat (place + 1) ≡ mark_at flat place + bit (is_mark l.stmt)
  mark_at-next place l is = let step = marks_above-next place l is in omega (arith, step)
