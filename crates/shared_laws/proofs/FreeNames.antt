-- The names that temporaries can have are symbolic names, of which none is in use and none stands twice.
use Rattle.std.proofs.Common.{◌≡◌, ℕ, zero, suc, ◌+◌, ◌-◌, ◌<◌, ◌≤◌, ◌/◌, ◌%◌, ◌⊎◌, Bool, true, false, not, ◌&&◌, ◌||◌, cond, List, [], ◌∷◌, ◌++◌, length, get_or, Some, None, refl, sym, ap, ◌∙◌, inl, inr, ⊎_elim, arith}
use Rattle.std.specs.Prelude.{bytes_eq, slice_get}
use Rattle.std.specs.List.{list_all}
use Rattle.std.proofs.lemmas.Bool.{cases_lt}
use Rattle.std.proofs.lemmas.Bool.Decides.{nat_tests}
use Rattle.std.proofs.lemmas.List.Folds.{list_any_at}
use Rattle.std.proofs.lemmas.List.FromFn.{filter_of_map_range_with_len_more}
use Rattle.std.proofs.lemmas.Option.{get_or_from_slice_get, slice_get_within}
use Rattle.std.proofs.lemmas.Slice.Eq.{bytes_eq-Decides}
use Rattle.f77_tree.specs.declared.programs.NameInfo.{NameInfo}
use Rattle.f77_tree.specs.Name.{is_capital, is_figure, is_name}
use Rattle.shared_forms.specs.Temporaries.{digit_at, free_names, free_up_to, is_in_use, last_number, temporary_name}
use Rattle.shared_forms.proofs.TemporaryLemmas.{figures_make, last_number-is}
use Rattle.shared_forms.proofs.TemporaryTable.{slice_get-left, slice_get-right}

-- ---- symbolic names

figure : (d : ℕ) → d < 10 → is_figure (48 + d) ≡ true
figure d less = grind (arith, nat_tests, less)

second-true : (b c : Bool) → c ≡ true → (b || c) ≡ true
second-true true c is = refl
second-true false c is = is

both-true : (b c : Bool) → b ≡ true → c ≡ true → (b && c) ≡ true
both-true b c first second = ap (λ x. x && c) first ∙ second

abbrev can_stand : ℕ → Bool
can_stand b = is_capital b || is_figure b

digit-stands : (power n : ℕ) → can_stand (digit_at power n) ≡ true
digit-stands power n = second-true (is_capital (digit_at power n)) (is_figure (digit_at power n)) (figure (n / power % 10) (omega arith))

five-stand : (a b c d e : ℕ) → can_stand a ≡ true → can_stand b ≡ true → can_stand c ≡ true → can_stand d ≡ true → can_stand e ≡ true → list_all can_stand (a ∷ b ∷ c ∷ d ∷ e ∷ []) ≡ true
five-stand a b c d e is_a is_b is_c is_d is_e =
    both-true (can_stand a) (list_all can_stand (b ∷ c ∷ d ∷ e ∷ [])) is_a
    (both-true (can_stand b) (list_all can_stand (c ∷ d ∷ e ∷ [])) is_b
    (both-true (can_stand c) (list_all can_stand (d ∷ e ∷ [])) is_c
    (both-true (can_stand d) (list_all can_stand (e ∷ [])) is_d
    (both-true (can_stand e) (list_all can_stand []) is_e refl))))

-- a name of a temporary is symbolic
pub temporary_name-symbolic : (n : ℕ) → is_name (temporary_name n) ≡ true
temporary_name-symbolic n =
    five-stand (digit_at 10000 n) (digit_at 1000 n) (digit_at 100 n) (digit_at 10 n) (digit_at 1 n)
    (digit-stands 10000 n) (digit-stands 1000 n) (digit-stands 100 n) (digit-stands 10 n) (digit-stands 1 n)

-- ---- one name for each number

less-48 : (x y : ℕ) → 48 + x ≡ 48 + y → x ≡ y
less-48 x y same = omega (arith, same)

digit-same : (i power m n : ℕ) → get_or (temporary_name m) i 0 ≡ digit_at power m → get_or (temporary_name n) i 0 ≡ digit_at power n → temporary_name m ≡ temporary_name n → m / power % 10 ≡ n / power % 10
digit-same i power m n at_m at_n same = less-48 (m / power % 10) (n / power % 10) (sym at_m ∙ ap (λ (xs : List ℕ). get_or xs i 0) same ∙ at_n)

pub temporary_name-one : (m n : ℕ) → m < 100000 → n < 100000 → temporary_name m ≡ temporary_name n → m ≡ n
temporary_name-one m n less_m less_n same =
    let a = digit-same 1 10000 m n refl refl same in
    let b = digit-same 2 1000 m n refl refl same in
    let c = digit-same 3 100 m n refl refl same in
    let d = digit-same 4 10 m n refl refl same in
    let e = digit-same 5 1 m n refl refl same in
    sym (figures_make m (m / 10000 % 10) (m / 1000 % 10) (m / 100 % 10) (m / 10 % 10) (m / 1 % 10) less_m refl refl refl refl refl)
    ∙ figures_make n (m / 10000 % 10) (m / 1000 % 10) (m / 100 % 10) (m / 10 % 10) (m / 1 % 10) less_n a b c d e

-- ---- free names

-- an element after others, if there is one
record IsLast {X : Type 0} (b : Bool) (xs : List X) (y : X) (i : ℕ) (x : X) : Type 0 where
  index : i ≡ length xs
  is : y ≡ x
  there : b ≡ true

one-last : {X : Type 0} (b : Bool) (y : X) (i : ℕ) (x : X) → slice_get (cond b (y ∷ []) []) i ≡ Some x → (i ≡ 0) × (y ≡ x) × (b ≡ true)
one-last true y zero x is = let e : Some y ≡ Some x = is in let same : y ≡ x = cc in (refl, same, refl)
one-last true y (suc i) x is = absurd cc
one-last false y i x is = absurd cc

either : {X : Type 0} (b : Bool) (xs : List X) (y : X) (i : ℕ) (x : X) → slice_get (xs ++ cond b (y ∷ []) []) i ≡ Some x → (slice_get xs i ≡ Some x) ⊎ IsLast b xs y i x
either b xs y i x is = ⊎_elim
    (λ (less : i < length xs). inl (sym (slice_get-left xs (cond b (y ∷ []) []) i less) ∙ is))
    (λ (past : length xs ≤ i).
    let same : length xs + (i - length xs) ≡ i = omega (arith, past) in
    let r = one-last b y (i - length xs) x (sym (slice_get-right xs (cond b (y ∷ []) []) (i - length xs)) ∙ ap (slice_get (xs ++ cond b (y ∷ []) [])) same ∙ is) in
    let zeroth = r.0 in
    inr (record { index = omega (arith, zeroth, past); is = r.1; there = r.2 }))
    (cases_lt i (length xs))

unused : (b : Bool) → not b ≡ true → b ≡ false
unused true is = absurd cc
unused false is = refl

module _ (names : List NameInfo) where
  abbrev is_free : List ℕ → Bool
  is_free name = not (is_in_use names name)

  -- a free name has a number
  pub record IsFree (n : ℕ) (name : List ℕ) : Type 0 where
    pub number : ℕ
    pub most : number ≤ n
    pub is : name ≡ temporary_name number
    pub free : is_in_use names name ≡ false

  free-more : (n : ℕ) → free_up_to names (n + 1) ≡ free_up_to names n ++ cond (is_free (temporary_name (n + 1))) (temporary_name (n + 1) ∷ []) []
  free-more n = filter_of_map_range_with_len_more is_free temporary_name 1 n (n + 1) (omega arith)

  split : (n i : ℕ) (name : List ℕ) → slice_get (free_up_to names (suc n)) i ≡ Some name → (slice_get (free_up_to names n) i ≡ Some name) ⊎ IsLast (is_free (temporary_name (n + 1))) (free_up_to names n) (temporary_name (n + 1)) i name
  split n i name is =
      let same : n + 1 ≡ suc n = omega arith in
      either (is_free (temporary_name (n + 1))) (free_up_to names n) (temporary_name (n + 1)) i name
      (ap (λ (xs : List (List ℕ)). slice_get xs i) (sym (free-more n)) ∙ ap (λ m. slice_get (free_up_to names m) i) same ∙ is)

  pub free-at : (n i : ℕ) (name : List ℕ) → slice_get (free_up_to names n) i ≡ Some name → IsFree n name
  free-at zero i name is = let e : None ≡ Some name = is in absurd cc
  free-at (suc n) i name is = ⊎_elim
      (λ (before : slice_get (free_up_to names n) i ≡ Some name).
      let r = free-at n i name before in
      let most = r.most in
      record { number = r.number; most = omega (arith, most); is = r.is; free = r.free })
      (λ (last : IsLast (is_free (temporary_name (n + 1))) (free_up_to names n) (temporary_name (n + 1)) i name).
      record { number = n + 1; most = omega arith; is = sym last.is; free = ap (is_in_use names) (sym last.is) ∙ unused (is_in_use names (temporary_name (n + 1))) last.there })
      (split n i name is)

  -- what has a number up to one isn't the name with the next number
  later : (n : ℕ) (name : List ℕ) → n + 1 < 100000 → IsFree n name → temporary_name (n + 1) ≡ name → ⊥
  later n name less r is =
      let most = r.most in
      let same = temporary_name-one (n + 1) r.number less (omega (arith, most, less)) (is ∙ r.is) in
      omega (arith, same, most)

  -- no name stands twice
  pub free-once : (n i j : ℕ) (name : List ℕ) → n < 100000 → slice_get (free_up_to names n) i ≡ Some name → slice_get (free_up_to names n) j ≡ Some name → i ≡ j
  free-once zero i j name less at_i at_j = let e : None ≡ Some name = at_i in absurd cc
  free-once (suc n) i j name less at_i at_j = ⊎_elim
      (λ (before_i : slice_get (free_up_to names n) i ≡ Some name). ⊎_elim
      (λ (before_j : slice_get (free_up_to names n) j ≡ Some name). free-once n i j name (omega (arith, less)) before_i before_j)
      (λ (last_j : IsLast (is_free (temporary_name (n + 1))) (free_up_to names n) (temporary_name (n + 1)) j name). absurd (later n name (omega (arith, less)) (free-at n i name before_i) last_j.is))
      (split n j name at_j))
      (λ (last_i : IsLast (is_free (temporary_name (n + 1))) (free_up_to names n) (temporary_name (n + 1)) i name). ⊎_elim
      (λ (before_j : slice_get (free_up_to names n) j ≡ Some name). absurd (later n name (omega (arith, less)) (free-at n j name before_j) last_i.is))
      (λ (last_j : IsLast (is_free (temporary_name (n + 1))) (free_up_to names n) (temporary_name (n + 1)) j name). last_i.index ∙ sym last_j.index)
      (split n j name at_j))
      (split n i name at_i)

  -- ---- the names that there are

  last-less : last_number < 100000
  last-less = omega (arith, last_number-is)

  pub free-name : (i : ℕ) (name : List ℕ) → slice_get (free_names names) i ≡ Some name → IsFree last_number name
  free-name i name is = free-at last_number i name is

  pub free-apart : (i j : ℕ) (name : List ℕ) → slice_get (free_names names) i ≡ Some name → slice_get (free_names names) j ≡ Some name → i ≡ j
  free-apart i j name at_i at_j = free-once last_number i j name last-less at_i at_j

  -- a name of the table isn't free
  pub not-free : (n k : ℕ) (info : NameInfo) → slice_get names k ≡ Some info → IsFree n info.name → ⊥
  not-free n k info is r =
      let less = slice_get_within names k info is in
      let same = get_or_from_slice_get names k info info is in
      let used : is_in_use names info.name ≡ true = list_any_at (λ (x : NameInfo). bytes_eq x.name info.name) names k info less (ap (λ (x : NameInfo). bytes_eq x.name info.name) same ∙ (bytes_eq-Decides info.name info.name).1 refl) in
      let e : true ≡ false = sym used ∙ r.free in
      absurd cc
