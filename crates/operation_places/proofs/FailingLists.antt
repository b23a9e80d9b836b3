-- How many numbers of a list fail a test, after what one number passes has changed.
use Rattle.std.proofs.Common.{◌≡◌, ◌⊎◌, ⊎_elim, inl, inr, ℕ, zero, suc, ◌+◌, ◌<◌, ◌≤◌, ◌&&◌, ◌||◌, ◌==◌, Bool, true, false, not, cond, List, [], ◌∷◌, length, filter, refl, sym, ap, ◌∙◌, subst, arith}
use Rattle.std.specs.List.{list_any, range_with_len}
use Rattle.std.proofs.lemmas.Bool.{cases_eq, eq-eqb, ne_eqb}
use Rattle.list_laws.specs.Member.{Member}
use Rattle.operation_tables.specs.Waits.{one_if, failing}

pub one_or_none : (b : Bool) → one_if (not b) + one_if b ≡ 1
one_or_none true = refl
one_or_none false = refl

pub one_at_most : (b : Bool) → one_if b ≤ 1
one_at_most true = omega arith
one_at_most false = omega arith

-- ---- any list

module _ {A : Type 0} where
  pub failing_same : (p q : A → Bool) (xs : List A) → ((x : A) → Member xs x → p x ≡ q x) → failing p xs ≡ failing q xs
  failing_same p q [] same = refl
  failing_same p q (x ∷ xs) same =
      ap (λ b. one_if (not b) + failing p xs) (same x (inl refl)) ∙ ap (λ n. one_if (not (q x)) + n) (failing_same p q xs (λ y m. same y (inr m)))

  pub failing_short : (p : A → Bool) (xs : List A) → failing p xs ≤ length xs
  failing_short p [] = omega arith
  failing_short p (x ∷ xs) =
      let r = failing_short p xs in
      let o = one_at_most (not (p x)) in
      omega (arith, r, o)

-- ---- numbers in a row

module _ (p q : ℕ → Bool) (a : ℕ) (others : (x : ℕ) → (x ≡ a → ⊥) → p x ≡ q x) where
  -- those that come after the number whose test has changed
  past_step : (s : ℕ) (rest : List ℕ) → (s ≡ a → ⊥) → failing q rest ≡ failing p rest → (b : Bool) → failing q (cond b (s ∷ rest) rest) ≡ failing p (cond b (s ∷ rest) rest)
  past_step s rest differ same true =
      let here : one_if (not (p s)) ≡ one_if (not (q s)) = ap (λ b. one_if (not b)) (others s differ) in
      omega (arith, here, same)
  past_step s rest differ same false = same

  past_filter : (n : ℕ → Bool) (s l : ℕ) → a < s → failing q (filter n (range_with_len s l)) ≡ failing p (filter n (range_with_len s l))
  past_filter n s zero past = refl
  past_filter n s (suc l) past = past_step s (filter n (range_with_len (s + 1) l)) (λ e. omega (arith, e, past)) (past_filter n (s + 1) l (omega (arith, past))) (n s)

  abbrev Changes : (n : ℕ → Bool) → List ℕ → Type 0
  Changes n xs = failing q xs + one_if (n a && q a) ≡ failing p xs + one_if (n a && p a)

  -- the number is the first one
  change_here : (n : ℕ → Bool) (rest : List ℕ) → failing q rest ≡ failing p rest → (b : Bool) → failing q (cond b (a ∷ rest) rest) + one_if (b && q a) ≡ failing p (cond b (a ∷ rest) rest) + one_if (b && p a)
  change_here n rest same true =
      let o = one_or_none (p a) in
      let u = one_or_none (q a) in
      omega (arith, same, o, u)
  change_here n rest same false = omega (arith, same)

  -- another number is the first one
  change_later : (n : ℕ → Bool) (s : ℕ) (rest : List ℕ) → (s ≡ a → ⊥) → Changes n rest → (b : Bool) → Changes n (cond b (s ∷ rest) rest)
  change_later n s rest differ so true =
      let same : one_if (not (p s)) ≡ one_if (not (q s)) = ap (λ b. one_if (not b)) (others s differ) in
      omega (arith, so, same)
  change_later n s rest differ so false = so

  first_or_later : (n : ℕ → Bool) (s : ℕ) (rest : List ℕ) → (s ≡ a → failing q rest ≡ failing p rest) → ((s ≡ a → ⊥) → Changes n rest) → (s ≡ a) ⊎ (s ≡ a → ⊥) → Changes n (cond (n s) (s ∷ rest) rest)
  first_or_later n s rest same so (inl e) = subst (λ (z : ℕ). Changes n (cond (n z) (z ∷ rest) rest)) (sym e) (change_here n rest (same e) (n a))
  first_or_later n s rest same so (inr differ) = change_later n s rest differ (so differ) (n s)

  pub change_in_filter : (n : ℕ → Bool) (s l : ℕ) → s ≤ a → a < s + l → failing q (filter n (range_with_len s l)) + one_if (n a && q a) ≡ failing p (filter n (range_with_len s l)) + one_if (n a && p a)
  change_in_filter n s zero low high = absurd (omega (arith, low, high))
  change_in_filter n s (suc l) low high = first_or_later n s (filter n (range_with_len (s + 1) l)) (λ e. past_filter n (s + 1) l (omega (arith, e))) (λ differ. change_in_filter n (s + 1) l (omega (arith, low, differ)) (omega (arith, high))) (cases_eq s a)

  -- ---- one among the numbers, or none

  abbrev is_in : (s l : ℕ) → Bool
  is_in s l = list_any (λ x. x == a) (range_with_len s l)

  past_row : (s l : ℕ) → a < s → failing q (range_with_len s l) ≡ failing p (range_with_len s l)
  past_row s zero past = refl
  past_row s (suc l) past =
      ap (λ b. one_if (not b) + failing q (range_with_len (s + 1) l)) (sym (others s (λ e. omega (arith, e, past)))) ∙ ap (λ k. one_if (not (p s)) + k) (past_row (s + 1) l (omega (arith, past)))

  row_here : (s l : ℕ) → s ≡ a → failing q (range_with_len s (suc l)) + one_if (is_in s (suc l) && q a) ≡ failing p (range_with_len s (suc l)) + one_if (is_in s (suc l) && p a)
  row_here s l e =
      let rest = past_row (s + 1) l (omega (arith, e)) in
      let here : is_in s (suc l) ≡ true = ap (λ b. b || is_in (s + 1) l) (eq-eqb s a e) in
      let not_q : one_if (not (q s)) ≡ one_if (not (q a)) = ap (λ x. one_if (not (q x))) e in
      let not_p : one_if (not (p s)) ≡ one_if (not (p a)) = ap (λ x. one_if (not (p x))) e in
      let in_q : one_if (is_in s (suc l) && q a) ≡ one_if (q a) = ap (λ b. one_if (b && q a)) here in
      let in_p : one_if (is_in s (suc l) && p a) ≡ one_if (p a) = ap (λ b. one_if (b && p a)) here in
      let o = one_or_none (p a) in
      let u = one_or_none (q a) in
      omega (arith, rest, not_q, not_p, in_q, in_p, o, u)

  row_later : (s l : ℕ) → (s ≡ a → ⊥) → failing q (range_with_len (s + 1) l) + one_if (is_in (s + 1) l && q a) ≡ failing p (range_with_len (s + 1) l) + one_if (is_in (s + 1) l && p a) → failing q (range_with_len s (suc l)) + one_if (is_in s (suc l) && q a) ≡ failing p (range_with_len s (suc l)) + one_if (is_in s (suc l) && p a)
  row_later s l differ so =
      let there : is_in s (suc l) ≡ is_in (s + 1) l = ap (λ b. b || is_in (s + 1) l) (ne_eqb s a differ) in
      let in_q : one_if (is_in s (suc l) && q a) ≡ one_if (is_in (s + 1) l && q a) = ap (λ b. one_if (b && q a)) there in
      let in_p : one_if (is_in s (suc l) && p a) ≡ one_if (is_in (s + 1) l && p a) = ap (λ b. one_if (b && p a)) there in
      let same : one_if (not (p s)) ≡ one_if (not (q s)) = ap (λ b. one_if (not b)) (others s differ) in
      omega (arith, so, in_q, in_p, same)

  pub change_in_row : (s l : ℕ) → failing q (range_with_len s l) + one_if (is_in s l && q a) ≡ failing p (range_with_len s l) + one_if (is_in s l && p a)
  change_in_row s zero = refl
  change_in_row s (suc l) = ⊎_elim (λ e. row_here s l e) (λ differ. row_later s l differ (change_in_row (s + 1) l)) (cases_eq s a)
