-- The places of the marks of a flat program by their numbers: a number is that of one mark.
use Rattle.std.proofs.Common.{◌≡◌, ℕ, zero, suc, ◌+◌, ◌<◌, ◌≤◌, Bool, true, false, cond, List, [], ◌∷◌, ◌++◌, length, filter, take, refl, sym, ap, ◌∙◌, subst, ⊎_elim, arith, Some, append-nil}
use Rattle.std.specs.Prelude.{slice_get, slice_index}
use Rattle.std.specs.List.{count_by, range_with_len}
use Rattle.std.proofs.lemmas.Bool.{cases_lt}
use Rattle.std.proofs.lemmas.List.{get_or_append_left, get_or_push, length_push}
use Rattle.std.proofs.lemmas.List.Elements.{filter-append}
use Rattle.list_laws.proofs.Counts.{bit, count-append}
use Rattle.list_laws.proofs.Ranges.{range_more}
use Rattle.flat_programs.specs.declared.statements.FlatLine.{FlatLine}
use Rattle.flat_programs.specs.FlatForm.{IsNumber}
use Rattle.flat_programs.specs.Marks.{is_mark, is_mark_in, mark_at, mark_count, place_of}
use Rattle.read_back.proofs.PrintedPlaces.{get_some, got_within}

pub take_next : {X : Type 0} (xs : List X) (k : ℕ) (x : X) → slice_get xs k ≡ Some x → take (suc k) xs ≡ take k xs ++ x ∷ []
take_next [] k x is = absurd cc
take_next (y ∷ ys) zero x is = let same : y ≡ x = cc in ap (λ z. z ∷ []) same
take_next (y ∷ ys) (suc k) x is = ap (λ zs. y ∷ zs) (take_next ys k x is)

pub take_all : {X : Type 0} (xs : List X) → take (length xs) xs ≡ xs
take_all [] = refl
take_all (x ∷ xs) = ap (λ ys. x ∷ ys) (take_all xs)

-- the mark with a number
pub record IsMarkAt (flat : List FlatLine) (number place : ℕ) : Type 0 where
  pub l : FlatLine
  pub there : slice_get flat place ≡ Some l
  pub marks : is_mark l.stmt ≡ true
  pub number_is : mark_at flat place ≡ number

module _ (flat : List FlatLine) where
  abbrev places : ℕ → List ℕ
  places n = filter (λ place. is_mark_in (slice_get flat place)) (range_with_len 0 n)

  abbrev counted : ℕ → ℕ
  counted n = count_by (λ (l : FlatLine). is_mark l.stmt) (take n flat)

  counted-next : (n : ℕ) (l : FlatLine) → slice_get flat n ≡ Some l → counted (suc n) ≡ counted n + bit (is_mark l.stmt)
  counted-next n l is = grind (arith, bit (is_mark l.stmt), take_next flat n l is, count-append)

  -- a later mark has a greater number
  counted-rises : (j n : ℕ) (l : FlatLine) → slice_get flat j ≡ Some l → is_mark l.stmt ≡ true → j < n → n ≤ length flat → counted j < counted n
  counted-rises j zero l is marks lt le = absurd (omega (arith, lt))
  counted-rises j (suc n) l is marks lt le =
      let found = get_some flat n (omega (arith, le)) in
      let next = counted-next n found.0 found.1 in
      ⊎_elim
      (λ (less : j < n). let more = counted-rises j n l is marks less (omega (arith, le)) in omega (arith, more, next))
      (λ (not_less : n ≤ j).
      let same : j ≡ n = omega (arith, lt, not_less) in
      let here : counted (suc j) ≡ counted j + 1 = counted-next j l is ∙ ap (λ b. counted j + bit b) marks in
      subst (λ m. counted j < counted (suc m)) same (omega (arith, here)))
      (cases_lt j n)

  pub marks_rise : (j k : ℕ) (l : FlatLine) → slice_get flat j ≡ Some l → is_mark l.stmt ≡ true → j < k → k ≤ length flat → mark_at flat j < mark_at flat k
  marks_rise j k l is marks lt le = let less = counted-rises j k l is marks lt le in omega (arith, less)

  -- ---- the place of a number

  -- the place of the mark above which there are so many others
  record IsNext (n j place : ℕ) : Type 0 where
    within : place < n
    marks : is_mark_in (slice_get flat place) ≡ true
    count : counted place ≡ j

  places-next : (n : ℕ) → places (suc n) ≡ places n ++ cond (is_mark_in (slice_get flat n)) (n ∷ []) []
  places-next n =
      let add : suc n ≡ n + 1 = omega arith in
      ap places add ∙ ap (filter (λ place. is_mark_in (slice_get flat place))) (range_more n) ∙ filter-append (λ place. is_mark_in (slice_get flat place)) (range_with_len 0 n) (n ∷ [])

  -- the places of the marks above a place, as many as their count
  record ArePlaces (n : ℕ) : Type 0 where
    size : length (places n) ≡ counted n
    each : (j : ℕ) → j < counted n → IsNext n j (slice_index (places n) j)

  places-step : (n : ℕ) (l : FlatLine) → slice_get flat n ≡ Some l → ArePlaces n → (b : Bool) → is_mark l.stmt ≡ b → ArePlaces (suc n)
  places-step n l is old false other = grind (arith, places-next n, append-nil (places n), counted-next n l is, bit)
  places-step n l is old true marks =
      let mark : is_mark_in (slice_get flat n) ≡ true = ap is_mark_in is ∙ marks in
      let same : places (suc n) ≡ places n ++ n ∷ [] = places-next n ∙ ap (λ b. places n ++ cond b (n ∷ []) []) mark in
      let count : counted (suc n) ≡ counted n + 1 = counted-next n l is ∙ ap (λ b. counted n + bit b) marks in
      let size = old.size in
      let pushed = length_push (places n) n in
      record {
        size = ap length same ∙ omega (arith, size, count, pushed);
        each = λ j lt.
            ⊎_elim
            (λ (less : j < counted n).
            let place = slice_index (places n) j in
            let e : slice_index (places (suc n)) j ≡ place = ap (λ xs. slice_index xs j) same ∙ get_or_append_left (places n) (n ∷ []) 0 j (omega (arith, less, size)) in
            let got = old.each j less in
            let below = got.within in
            subst (IsNext (suc n) j) (sym e) (record { within = omega (arith, below); marks = got.marks; count = got.count }))
            (λ (le : counted n ≤ j).
            let last : j ≡ length (places n) = omega (arith, le, lt, count, size) in
            let e : slice_index (places (suc n)) j ≡ n = ap (λ xs. slice_index xs j) same ∙ ap (slice_index (places n ++ n ∷ [])) last ∙ get_or_push (places n) n 0 (length (places n)) refl in
            subst (IsNext (suc n) j) (sym e) (record { within = omega arith; marks = mark; count = omega (arith, last, size) }))
            (cases_lt j (counted n));
      }

  are_places : (n : ℕ) → n ≤ length flat → ArePlaces n
  are_places zero le = record { size = refl; each = λ j lt. absurd (omega (arith, lt)) }
  are_places (suc n) le =
      let found = get_some flat n (omega (arith, le)) in
      places-step n found.0 found.1 (are_places n (omega (arith, le))) (is_mark found.0.stmt) refl

  pub mark_of : (number : ℕ) → IsNumber (mark_count flat) number → IsMarkAt flat number (place_of flat number)
  mark_of number is = grind (arith, take_all flat, are_places (length flat), get_some flat (place_of flat number))

  -- a mark stands at the place of its number
  pub place_of-mark : (place : ℕ) (l : FlatLine) → slice_get flat place ≡ Some l → is_mark l.stmt ≡ true → place_of flat (mark_at flat place) ≡ place
  place_of-mark place l is marks =
      let number = mark_at flat place in
      let within = got_within flat place l is in
      let all : counted (length flat) ≡ mark_count flat = ap (count_by (λ (s : FlatLine). is_mark s.stmt)) (take_all flat) in
      let less = counted-rises place (length flat) l is marks within (omega arith) in
      let other = mark_of number (record { least = omega arith; most = omega (arith, all, less) }) in
      let there = got_within flat (place_of flat number) other.l other.there in
      let same = other.number_is in
      ⊎_elim
      (λ (lt : place_of flat number < place). let rise = marks_rise (place_of flat number) place other.l other.there other.marks lt (omega (arith, within)) in absurd (omega (arith, rise, same)))
      (λ (le : place ≤ place_of flat number).
      ⊎_elim
      (λ (lt : place < place_of flat number). let rise = marks_rise place (place_of flat number) l is marks lt (omega (arith, there)) in absurd (omega (arith, rise, same)))
      (λ (ge : place_of flat number ≤ place). omega (arith, le, ge))
      (cases_lt place (place_of flat number)))
      (cases_lt (place_of flat number) place)
