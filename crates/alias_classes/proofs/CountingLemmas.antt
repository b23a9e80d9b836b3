-- How many numbers of a range pass a test.
use Rattle.std.proofs.Common.{◌≡◌, ◌≢◌, ℕ, zero, suc, ◌+◌, ◌<◌, ◌≤◌, Bool, true, false, not, ◌&&◌, ◌==◌, cond, List, ◌∷◌, length, ⊎_elim, refl, sym, ap, ◌∙◌, arith}
use Rattle.std.specs.Prelude.{filter}
use Rattle.std.specs.List.{range_with_len}
use Rattle.std.proofs.lemmas.Bool.{cases_eq, cases_Bool, cond-true, cond-false, and_left, and_right, and_from, and_parts, not_from_true, not_from_false, eq-eqb, ne_eqb, not-true, false_from_ne_true}

module _ (p : ℕ → Bool) (a : ℕ) (xs : List ℕ) where
  pub filter_yes : p a ≡ true → filter p (a ∷ xs) ≡ a ∷ filter p xs
  filter_yes h = cond-true (p a) (a ∷ filter p xs) (filter p xs) h

  pub filter_no : p a ≡ false → filter p (a ∷ xs) ≡ filter p xs
  filter_no h = cond-false (p a) (a ∷ filter p xs) (filter p xs) h

none_pass : (p : ℕ → Bool) (a n : ℕ) → ((k : ℕ) → a ≤ k → k < a + n → p k ≡ false) → length (filter p (range_with_len a n)) ≡ 0
none_pass p a zero none = refl
none_pass p a (suc n) none =
    ap length (filter_no p a (range_with_len (a + 1) n) (none a (omega arith) (omega arith)))
    ∙ none_pass p (a + 1) n (λ k low high. none k (omega arith) (omega arith))

-- tests that agree on a range let the same numbers pass
pub same_pass : (p q : ℕ → Bool) (a n : ℕ) → ((k : ℕ) → a ≤ k → k < a + n → p k ≡ q k) → filter p (range_with_len a n) ≡ filter q (range_with_len a n)
same_pass p q a zero agree = refl
same_pass p q a (suc n) agree =
    let here = agree a (omega arith) (omega arith) in
    let rest = same_pass p q (a + 1) n (λ k low high. agree k (omega arith) (omega arith)) in
    ap (λ b. cond b (a ∷ filter p (range_with_len (a + 1) n)) (filter p (range_with_len (a + 1) n))) here
    ∙ ap (λ xs. cond (q a) (a ∷ xs) xs) rest

-- one number less passes where it is left out
one_less : (p : ℕ → Bool) (a n w : ℕ) → a ≤ w → w < a + n → p w ≡ true → length (filter p (range_with_len a n)) ≡ suc (length (filter (λ k. p k && not (k == w)) (range_with_len a n)))
one_less p a zero w low high is = absurd (omega (arith, low, high))
one_less p a (suc n) w low high is = ⊎_elim
    (λ (same : a ≡ w).
    let passes : p a ≡ true = ap p same ∙ is in
    let out : (p a && not (a == w)) ≡ false = and_right (p a) (not (a == w)) (not_from_true (a == w) (eq-eqb a w same)) in
    let rest = same_pass p (λ k. p k && not (k == w)) (a + 1) n (λ k above below. sym (kept k (λ e. absurd (omega (arith, e, same, above))))) in
    ap length (filter_yes p a (range_with_len (a + 1) n) passes)
    ∙ ap (λ xs. suc (length xs)) (rest ∙ sym (filter_no (λ k. p k && not (k == w)) a (range_with_len (a + 1) n) out)))
    (λ (differ : a ≢ w).
    let rest = one_less p (a + 1) n w (omega (arith, differ, low)) (omega (arith, high)) is in
    by_test (p a) refl differ rest)
    (cases_eq a w)
  where
    kept : (k : ℕ) → k ≢ w → (p k && not (k == w)) ≡ p k
    kept k differ = ⊎_elim
        (λ (h : p k ≡ true). and_from (p k) (not (k == w)) h (not_from_false (k == w) (ne_eqb k w differ)) ∙ sym h)
        (λ (h : p k ≡ false). and_left (p k) (not (k == w)) h ∙ sym h)
        (cases_Bool (p k))

    by_test : (b : Bool) → p a ≡ b → a ≢ w → length (filter p (range_with_len (a + 1) n)) ≡ suc (length (filter (λ k. p k && not (k == w)) (range_with_len (a + 1) n)))
        → length (filter p (range_with_len a (suc n))) ≡ suc (length (filter (λ k. p k && not (k == w)) (range_with_len a (suc n))))
    by_test true h differ rest =
        ap length (filter_yes p a (range_with_len (a + 1) n) h)
        ∙ ap suc rest
        ∙ ap (λ xs. suc (length xs)) (sym (filter_yes (λ k. p k && not (k == w)) a (range_with_len (a + 1) n) (kept a differ ∙ h)))
    by_test false h differ rest =
        ap length (filter_no p a (range_with_len (a + 1) n) h)
        ∙ rest
        ∙ ap (λ xs. suc (length xs)) (sym (filter_no (λ k. p k && not (k == w)) a (range_with_len (a + 1) n) (kept a differ ∙ h)))

-- the numbers below n that pass are numbered from 1 to c by f
pub record AreNumbered (p : ℕ → Bool) (f : ℕ → ℕ) (n c : ℕ) : Type 0 where
  pub least : (w : ℕ) → w < n → p w ≡ true → 1 ≤ f w
  pub most : (w : ℕ) → w < n → p w ≡ true → f w ≤ c
  pub apart : (v w : ℕ) → v < n → w < n → p v ≡ true → p w ≡ true → f v ≡ f w → v ≡ w
  pub each : (m : ℕ) → 1 ≤ m → m ≤ c → (w : ℕ) × (w < n) × (p w ≡ true) × (f w ≡ m)

-- so there are c of them
pub numbered_count : (c : ℕ) (p : ℕ → Bool) (f : ℕ → ℕ) (n : ℕ) → AreNumbered p f n c → length (filter p (range_with_len 0 n)) ≡ c
numbered_count zero p f n are = none_pass p 0 n (λ k low high. false_from_ne_true (p k) (λ h.
    let within : k < n = omega (arith, high) in
    let least = are.least k within h in
    let most = are.most k within h in
    absurd (omega (arith, least, most))))
numbered_count (suc c) p f n are =
    let last = are.each (suc c) (omega arith) (omega arith) in
    let q : ℕ → Bool = λ k. p k && not (k == last.0) in
    one_less p 0 n last.0 (omega arith) (let within = last.1 in omega (arith, within)) last.2
    ∙ ap suc (numbered_count c q f n (record {
      least = λ w within h. are.least w within (and_parts (p w) (not (w == last.0)) h).0;
      most = λ w within h.
          let parts = and_parts (p w) (not (w == last.0)) h in
          let most = are.most w within parts.0 in
          ⊎_elim
          (λ (same : f w ≡ suc c).
          let e : w ≡ last.0 = are.apart w last.0 within last.1 parts.0 last.2 (same ∙ sym last.3) in
          absurd (let yes_is : (w == last.0) ≡ true = eq-eqb w last.0 e in let no_is : (w == last.0) ≡ false = not-true (w == last.0) parts.1 in let clash : true ≡ false = sym yes_is ∙ no_is in cc))
          (λ (differ : f w ≢ suc c). omega (arith, most, differ))
          (cases_eq (f w) (suc c));
      apart = λ v w v_in w_in hv hw same. are.apart v w v_in w_in (and_parts (p v) (not (v == last.0)) hv).0 (and_parts (p w) (not (w == last.0)) hw).0 same;
      each = λ m low high.
          let found = are.each m low (omega (arith, high)) in
          let differ : found.0 ≢ last.0 = λ e. let same : m ≡ suc c = sym found.3 ∙ ap f e ∙ last.3 in absurd (omega (arith, same, high)) in
          (found.0, found.1, and_from (p found.0) (not (found.0 == last.0)) found.2 (not_from_false (found.0 == last.0) (ne_eqb found.0 last.0 differ)), found.3);
    }))
