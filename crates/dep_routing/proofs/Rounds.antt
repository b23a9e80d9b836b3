-- A run whose stay somewhere consists of rounds, each of which lowers a count, goes away from there.
use Rattle.std.proofs.Common.{◌≡◌, ℕ, zero, suc, ◌+◌, ◌-◌, ◌<◌, ◌≤◌, ◌⊎◌, Bool, true, false, ◌||◌, not, sym, ap, ◌∙◌, subst, inl, inr, ⊎_elim, arith}
use Rattle.std.proofs.lemmas.Bool.{cases_Bool, cases_eq, or_cases, or_parts, or_left, or_right, not-false, false≢true}
use Rattle.closed_walks.specs.Reaching.{any_below}

-- the first time from n on at which a test holds
pub record IsFirst (test : ℕ → Bool) (n : ℕ) : Type 0 where
  pub at : ℕ
  pub later : n ≤ at
  pub is : test at ≡ true
  pub before : (i : ℕ) → n ≤ i → i < at → test i ≡ false

first_in : (test : ℕ → Bool) (n d : ℕ) → test (n + d) ≡ true → IsFirst test n
first_in test n zero is = record { at = n; later = omega arith; is = subst (λ m. test m ≡ true) (let e : n + 0 ≡ n = omega arith in e) is; before = λ i low high. absurd (omega (arith, low, high)) }
first_in test n (suc d) is = ⊎_elim
    (λ (here : test n ≡ true). record { at = n; later = omega arith; is = here; before = λ i low high. absurd (omega (arith, low, high)) })
    (λ (not_here : test n ≡ false).
    let r : IsFirst test (suc n) = first_in test (suc n) d (subst (λ m. test m ≡ true) (let e : n + suc d ≡ suc n + d = omega arith in e) is) in
    record {
      at = r.at;
      later = omega (arith, r.later);
      is = r.is;
      before = λ i low high. ⊎_elim
          (λ (same : i ≡ n). ap test same ∙ not_here)
          (λ (apart : i ≡ n → ⊥). r.before i (above i n low apart) high)
          (cases_eq i n);
    })
    (cases_Bool (test n))
  where
    above : (i n : ℕ) → n ≤ i → (i ≡ n → ⊥) → suc n ≤ i
    above i n low apart = grind (arith, low, apart)

pub first_of_one : (test : ℕ → Bool) (n m : ℕ) → n ≤ m → test m ≡ true → IsFirst test n
first_of_one test n m less is = first_in test n (m - n) (subst (λ k. test k ≡ true) (let e : m ≡ n + (m - n) = omega (arith, less) in e) is)

-- a test holds at one of these times, or at none
pub some_or_none : (test : ℕ → Bool) (n d : ℕ) → ((m : ℕ) × (n ≤ m) × (test m ≡ true)) ⊎ ((i : ℕ) → n ≤ i → i < n + d → test i ≡ false)
some_or_none test n zero = inr (λ i low high. absurd (omega (arith, low, high)))
some_or_none test n (suc d) = ⊎_elim
    (λ some. inl some)
    (λ (none : (i : ℕ) → n ≤ i → i < n + d → test i ≡ false). ⊎_elim
    (λ (here : test (n + d) ≡ true). inl (n + d, omega arith, here))
    (λ (not_here : test (n + d) ≡ false). inr (λ i low high. ⊎_elim
    (λ (same : i ≡ n + d). ap test same ∙ not_here)
    (λ (apart : i ≡ n + d → ⊥). none i low (below i (n + d) (omega (arith, high)) apart))
    (cases_eq i (n + d))))
    (cases_Bool (test (n + d))))
    (some_or_none test n d)
  where
    below : (i m : ℕ) → i < suc m → (i ≡ m → ⊥) → i < m
    below i m high apart = grind (arith, high, apart)

pub any_passes : (test : ℕ → Bool) (k j : ℕ) → j < k → test j ≡ true → any_below k test ≡ true
any_passes test zero j less is = absurd (omega (arith, less))
any_passes test (suc k) j less is = ⊎_elim
    (λ (same : j ≡ k). or_right (any_below k test) (test k) (ap test (sym same) ∙ is))
    (λ (apart : j ≡ k → ⊥). or_left (any_below k test) (test k) (any_passes test k j (below j k less apart) is))
    (cases_eq j k)
  where
    below : (i m : ℕ) → i < suc m → (i ≡ m → ⊥) → i < m
    below i m high apart = grind (arith, high, apart)

pub none_passes : (test : ℕ → Bool) (k j : ℕ) → any_below k test ≡ false → j < k → test j ≡ false
none_passes test k j none less = ⊎_elim
    (λ (is : test j ≡ true). absurd (false≢true (sym none ∙ any_passes test k j less is)))
    (λ is_not. is_not)
    (cases_Bool (test j))

-- ---- rounds

module _ (loops : ℕ) (on : ℕ → Bool) (increments : (k i : ℕ) → Bool) (count : (k i : ℕ) → ℕ) where
  -- the run is away at this time, or increments one of the loops below k
  abbrev pub stops : (k i : ℕ) → Bool
  stops k i = not (on i) || any_below k (λ j. increments j i)

  -- The loop k is incremented twice, at first and at last, and the run stays meanwhile, and increments neither k nor a loop below.
  pub record IsRound (k n m : ℕ) : Type 0 where
    pub forth : n < m
    pub first : increments k n ≡ true
    pub last : increments k m ≡ true
    pub stays : (i : ℕ) → n ≤ i → i ≤ m → on i ≡ true
    pub between : (i j : ℕ) → n < i → i < m → j ≤ k → increments j i ≡ false

  module _ (falls : (k n m : ℕ) → k < loops → IsRound k n m → count k m < count k n) where
    not_stopped : (k i : ℕ) → stops k i ≡ false → (on i ≡ true) × ((j : ℕ) → j < k → increments j i ≡ false)
    not_stopped k i h =
        let both = or_parts (not (on i)) (any_below k (λ j. increments j i)) h in
        (not-false (on i) both.0, λ j less. none_passes (λ x. increments x i) k j both.1 less)

    -- stopped by k and no other
    stopped_by : (k i : ℕ) → stops (suc k) i ≡ true → stops k i ≡ false → increments k i ≡ true
    stopped_by k i more less =
        let h = or_parts (not (on i)) (any_below k (λ j. increments j i)) less in
        ⊎_elim
        (λ (away : not (on i) ≡ true). absurd (false≢true (sym h.0 ∙ away)))
        (λ (one : (any_below k (λ j. increments j i) || increments k i) ≡ true). ⊎_elim
        (λ (low : any_below k (λ j. increments j i) ≡ true). absurd (false≢true (sym h.1 ∙ low)))
        (λ here. here)
        (or_cases (any_below k (λ j. increments j i)) (increments k i) one))
        (or_cases (not (on i)) (any_below k (λ j. increments j i) || increments k i) more)

    module _ (k : ℕ) (few : k < loops) (inner : (n : ℕ) → IsFirst (stops (suc k)) n) where
      -- by the count at an increment of k
      round : (c n : ℕ) → count k n < c → increments k n ≡ true → stops k n ≡ false → (m : ℕ) × (n ≤ m) × (stops k m ≡ true)
      round zero n low first going = absurd (omega (arith, low))
      round (suc c) n low first going =
          let r : IsFirst (stops (suc k)) (suc n) = inner (suc n) in
          ⊎_elim
          (λ (out : stops k r.at ≡ true). (r.at, omega (arith, r.later), out))
          (λ (again : stops k r.at ≡ false).
          let last : increments k r.at ≡ true = stopped_by k r.at r.is again in
          let is : IsRound k n r.at = record {
            forth = omega (arith, r.later);
            first = first;
            last = last;
            stays = λ i low high. stays i n r.at low high (not_stopped k n going).0 (not_stopped k r.at again).0 (λ x above below. (not_stopped (suc k) x (r.before x above below)).0);
            between = λ i j above below le. (not_stopped (suc k) i (r.before i (omega (arith, above)) below)).1 j (omega (arith, le));
          } in
          let less : count k r.at < count k n = falls k n r.at few is in
          let rest = round c r.at (omega (arith, less, low)) last again in
          (rest.0, omega (arith, r.later, rest.1), rest.2))
          (cases_Bool (stops k r.at))
        where
          stays : (i n m : ℕ) → n ≤ i → i ≤ m → on n ≡ true → on m ≡ true → ((x : ℕ) → suc n ≤ x → x < m → on x ≡ true) → on i ≡ true
          stays i n m low high at_first at_last between = ⊎_elim
              (λ (same : i ≡ n). ap on same ∙ at_first)
              (λ (other : i ≡ n → ⊥). ⊎_elim
              (λ (same : i ≡ m). ap on same ∙ at_last)
              (λ (apart : i ≡ m → ⊥). between i (above n i low other) (above i m high (λ (e : m ≡ i). apart (sym e))))
              (cases_eq i m))
              (cases_eq i n)
            where
              above : (a b : ℕ) → a ≤ b → (b ≡ a → ⊥) → suc a ≤ b
              above a b less apart = grind (arith, less, apart)

      outer : (n : ℕ) → IsFirst (stops k) n
      outer n =
          let r : IsFirst (stops (suc k)) n = inner n in
          ⊎_elim
          (λ (out : stops k r.at ≡ true). first_of_one (stops k) n r.at r.later out)
          (λ (again : stops k r.at ≡ false).
          let rest = round (suc (count k r.at)) r.at (omega arith) (stopped_by k r.at r.is again) again in
          first_of_one (stops k) n rest.0 (omega (arith, r.later, rest.1)) rest.2)
          (cases_Bool (stops k r.at))

    levels : (d k : ℕ) → k + d ≡ loops → ((n : ℕ) → IsFirst (stops loops) n) → (n : ℕ) → IsFirst (stops k) n
    levels zero k is all n = subst (λ x. IsFirst (stops x) n) (let e : loops ≡ k = omega (arith, is) in e) (all n)
    levels (suc d) k is all n = outer k (omega (arith, is)) (levels d (suc k) (omega (arith, is)) all) n

    -- where each time without increments has an end, so has the stay
    pub goes_away : ((n : ℕ) → IsFirst (stops loops) n) → (n : ℕ) → IsFirst (λ i. not (on i)) n
    goes_away all n =
        let r : IsFirst (stops 0) n = levels loops 0 (omega arith) all n in
        record {
          at = r.at;
          later = r.later;
          is = ⊎_elim (λ h. h) (λ (none : false ≡ true). absurd (false≢true none)) (or_cases (not (on r.at)) false r.is);
          before = λ i low high. (or_parts (not (on i)) false (r.before i low high)).0;
        }
