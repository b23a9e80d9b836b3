-- The first of the numbers that pass a test, and how many of them are above a number.
use Rattle.std.proofs.Common.{◌≡◌, ℕ, zero, suc, ◌+◌, ◌<◌, ◌≤◌, Bool, true, false, ◌||◌, cond, List, [], ◌∷◌, filter, length, min, nat_lt, take, Some, ⊎_elim, refl, sym, ap, ◌∙◌, arith}
use Rattle.std.specs.List.{list_any, range_with_len, slice_get}
use Rattle.std.proofs.lemmas.Bool.{cases_Bool, ltb-true, ltb-false, lt-ltb, le-ltb}
use native.Mathlib.Nat.{min-eq_left, min-eq_right}
use Rattle.unit_laws.proofs.FreeNumbers.{within}

-- ---- a sum that stops above a limit

capped-more : (w p most : ℕ) → nat_lt most (min w (most + 1) + p) ≡ nat_lt most (w + p)
capped-more w p most = ⊎_elim
    (λ (less : nat_lt w (most + 1) ≡ true).
    let below : w < most + 1 = ltb-true w (most + 1) less in
    ap (λ (n : ℕ). nat_lt most (n + p)) (min-eq_left (omega (arith, below))))
    (λ (none : nat_lt w (most + 1) ≡ false).
    let over : most + 1 ≤ w = ltb-false w (most + 1) none in
    ap (λ (n : ℕ). nat_lt most (n + p)) (min-eq_right over)
    ∙ lt-ltb most ((most + 1) + p) (omega arith)
    ∙ sym (lt-ltb most (w + p) (omega (arith, over))))
    (cases_Bool (nat_lt w (most + 1)))

pub both-capped : (w p most : ℕ) → nat_lt most (min w (most + 1) + min p (most + 1)) ≡ nat_lt most (w + p)
both-capped w p most =
    let turn : w + min p (most + 1) ≡ min p (most + 1) + w = omega arith in
    let back : p + w ≡ w + p = omega arith in
    capped-more w (min p (most + 1)) most
    ∙ ap (nat_lt most) turn
    ∙ capped-more p w most
    ∙ ap (nat_lt most) back

-- ---- numbers above a number

less-suc : (a b : ℕ) → nat_lt (suc a) (suc b) ≡ nat_lt a b
less-suc a b = ⊎_elim
    (λ (less : nat_lt a b ≡ true).
    let below : a < b = ltb-true a b less in
    lt-ltb (suc a) (suc b) (omega (arith, below)) ∙ sym less)
    (λ (none : nat_lt a b ≡ false).
    let over : b ≤ a = ltb-false a b none in
    le-ltb (suc a) (suc b) (omega (arith, over)) ∙ sym none)
    (cases_Bool (nat_lt a b))

none-below : (n : ℕ) → nat_lt n 0 ≡ false
none-below n = le-ltb n 0 (omega arith)

module _ (free : ℕ → Bool) (most : ℕ) where
  abbrev numbers : (a n : ℕ) → List ℕ
  numbers a n = filter free (range_with_len a n)

  -- all of these are above
  above : (a n count : ℕ) → most < a → count ≤ length (numbers a n) → list_any (nat_lt most) (take count (numbers a n)) ≡ nat_lt 0 count
  above a n zero over few = sym (none-below 0)
  above a n (suc count) over few = by (numbers a n) few (λ m is. (within free a n 0 m is).least)
    where
      by : (xs : List ℕ) → suc count ≤ length xs → ((m : ℕ) → slice_get xs 0 ≡ Some m → a ≤ m) → list_any (nat_lt most) (take (suc count) xs) ≡ nat_lt 0 (suc count)
      by [] many least = absurd (omega (arith, many))
      by (x ∷ xs) many least =
          let from : a ≤ x = least x refl in
          ap (λ (b : Bool). b || list_any (nat_lt most) (take count xs)) (lt-ltb most x (omega (arith, over, from)))
          ∙ sym (lt-ltb 0 (suc count) (omega arith))

  -- m numbers from a on are not above
  pub great : (m a n count : ℕ) → a + m ≡ most + 1 → count ≤ length (numbers a n) → list_any (nat_lt most) (take count (numbers a n)) ≡ nat_lt (length (numbers a m)) count
  great zero a n count at few = above a n count (omega (arith, at)) few
  great (suc m) a zero zero at few = sym (none-below (length (numbers a (suc m))))
  great (suc m) a zero (suc count) at few = absurd (omega (arith, few))
  great (suc m) a (suc n) count at few =
      by (free a) count few (λ c less. great m (a + 1) n c (omega (arith, at)) less)
    where
      by : (b : Bool) (c : ℕ) → c ≤ length (cond b (a ∷ numbers (a + 1) n) (numbers (a + 1) n)) → ((d : ℕ) → d ≤ length (numbers (a + 1) n) → list_any (nat_lt most) (take d (numbers (a + 1) n)) ≡ nat_lt (length (numbers (a + 1) m)) d)
          → list_any (nat_lt most) (take c (cond b (a ∷ numbers (a + 1) n) (numbers (a + 1) n))) ≡ nat_lt (length (cond b (a ∷ numbers (a + 1) m) (numbers (a + 1) m))) c
      by true zero less more = sym (none-below (suc (length (numbers (a + 1) m))))
      by true (suc c) less more =
          ap (λ (b : Bool). b || list_any (nat_lt most) (take c (numbers (a + 1) n))) (le-ltb most a (omega (arith, at)))
          ∙ more c (omega (arith, less))
          ∙ sym (less-suc (length (numbers (a + 1) m)) c)
      by false c less more = more c less

  -- a longer range has at least as many
  pub longer : (a n m : ℕ) → n ≤ m → length (numbers a n) ≤ length (numbers a m)
  longer a zero m less = omega arith
  longer a (suc n) zero less = absurd (omega (arith, less))
  longer a (suc n) (suc m) less = by (free a) (longer (a + 1) n m (omega (arith, less)))
    where
      by : (b : Bool) → length (numbers (a + 1) n) ≤ length (numbers (a + 1) m) → length (cond b (a ∷ numbers (a + 1) n) (numbers (a + 1) n)) ≤ length (cond b (a ∷ numbers (a + 1) m) (numbers (a + 1) m))
      by true more = omega (arith, more)
      by false more = more
