-- Of more times than there are places, two are at the same place.
use Rattle.std.proofs.Common.{◌≡◌, ◌≢◌, ℕ, zero, suc, ◌<◌, ◌≤◌, ◌⊎◌, Bool, true, false, cond, ◌==◌, sym, ap, ◌∙◌, inl, inr, ⊎_elim, arith}
use Rattle.std.proofs.lemmas.Bool.{cases_Bool, cases_eq, cond-true, cond-false, eqb-true, eqb-false}

pub record Repeats (f : ℕ → ℕ) (times : ℕ) : Type 0 where
  pub one : ℕ
  pub other : ℕ
  pub before : one < other
  pub within : other ≤ times
  pub same : f one ≡ f other

lower : (a n : ℕ) → a < suc n → (a ≡ n → ⊥) → a < n
lower a n less apart = grind (arith, less, apart)

-- a test holds of one of the numbers below n, or of none
search : (n : ℕ) (test : ℕ → Bool) → ((m : ℕ) × (m < n) × (test m ≡ true)) ⊎ ((i : ℕ) → i < n → test i ≡ false)
search zero test = inr (λ i less. absurd (omega (arith, less)))
search (suc n) test = ⊎_elim
    (λ (r : (m : ℕ) × (m < n) × (test m ≡ true)). inl (r.0, omega (arith, r.1), r.2))
    (λ (none : (i : ℕ) → i < n → test i ≡ false). ⊎_elim
    (λ (h : test n ≡ true). inl (n, omega arith, h))
    (λ (h : test n ≡ false). inr (λ i less. ⊎_elim
    (λ (is : i ≡ n). ap test is ∙ h)
    (λ (is_not : i ≡ n → ⊥). none i (lower i n less is_not))
    (cases_eq i n)))
    (cases_Bool (test n)))
    (search n test)

apart : (f : ℕ → ℕ) (i j : ℕ) → (f i == f j) ≡ false → f i ≢ f j
apart f i j h = eqb-false (f i) (f j) h

-- the highest place stands for that of the last time
abbrev moved : ℕ → (ℕ → ℕ) → ℕ → ℕ
moved n f i = cond (f i == n) (f (suc n)) (f i)

moved_below : (n : ℕ) (f : ℕ → ℕ) (i : ℕ) → f i < suc n → f (suc n) < suc n → f i ≢ f (suc n) → moved n f i < n
moved_below n f i here last apart = ⊎_elim
    (λ (top : (f i == n) ≡ true).
    let e : cond (f i == n) (f (suc n)) (f i) ≡ f (suc n) = cond-true (f i == n) (f (suc n)) (f i) top in
    let low : f (suc n) < n = lower (f (suc n)) n last (λ (s : f (suc n) ≡ n). apart (eqb-true (f i) n top ∙ sym s)) in
    omega (arith, e, low))
    (λ (other : (f i == n) ≡ false).
    let e : cond (f i == n) (f (suc n)) (f i) ≡ f i = cond-false (f i == n) (f (suc n)) (f i) other in
    let low : f i < n = lower (f i) n here (eqb-false (f i) n other) in
    omega (arith, e, low))
    (cases_Bool (f i == n))

same_before : (n : ℕ) (f : ℕ → ℕ) (i j : ℕ) → moved n f i ≡ moved n f j → f i ≢ f (suc n) → f j ≢ f (suc n) → f i ≡ f j
same_before n f i j same apart_i apart_j = ⊎_elim
    (λ (top_i : (f i == n) ≡ true).
    let e : moved n f i ≡ f (suc n) = cond-true (f i == n) (f (suc n)) (f i) top_i in
    ⊎_elim
    (λ (top_j : (f j == n) ≡ true). eqb-true (f i) n top_i ∙ sym (eqb-true (f j) n top_j))
    (λ (other_j : (f j == n) ≡ false).
    let h : moved n f j ≡ f j = cond-false (f j == n) (f (suc n)) (f j) other_j in
    absurd (apart_j (sym h ∙ sym same ∙ e)))
    (cases_Bool (f j == n)))
    (λ (other_i : (f i == n) ≡ false).
    let e : moved n f i ≡ f i = cond-false (f i == n) (f (suc n)) (f i) other_i in
    ⊎_elim
    (λ (top_j : (f j == n) ≡ true).
    let h : moved n f j ≡ f (suc n) = cond-true (f j == n) (f (suc n)) (f j) top_j in
    absurd (apart_i (sym e ∙ same ∙ h)))
    (λ (other_j : (f j == n) ≡ false).
    let h : moved n f j ≡ f j = cond-false (f j == n) (f (suc n)) (f j) other_j in
    sym e ∙ same ∙ h)
    (cases_Bool (f j == n)))
    (cases_Bool (f i == n))

-- there are as many places as times after the first
pub repeats : (places : ℕ) (f : ℕ → ℕ) → ((i : ℕ) → i ≤ places → f i < places) → Repeats f places
repeats zero f below = absurd (omega (arith, below 0 (omega arith)))
repeats (suc n) f below = ⊎_elim
    (λ (r : (m : ℕ) × (m < suc n) × ((f m == f (suc n)) ≡ true)). record { one = r.0; other = suc n; before = r.1; within = omega arith; same = eqb-true (f r.0) (f (suc n)) r.2 })
    (λ (none : (i : ℕ) → i < suc n → (f i == f (suc n)) ≡ false).
    let r : Repeats (moved n f) n = repeats n (moved n f) (λ i le. moved_below n f i (below i (omega (arith, le))) (below (suc n) (omega arith)) (apart f i (suc n) (none i (omega (arith, le))))) in
    record { one = r.one; other = r.other; before = r.before; within = omega (arith, r.within); same = same_before n f r.one r.other r.same (apart f r.one (suc n) (none r.one (omega (arith, r.before, r.within)))) (apart f r.other (suc n) (none r.other (omega (arith, r.within)))) })
    (search (suc n) (λ i. f i == f (suc n)))
