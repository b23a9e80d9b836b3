-- Counts and sums over lists.
use Rattle.std.proofs.Common.{◌≡◌, ◌≢◌, ℕ, zero, suc, ◌+◌, ◌<◌, ◌≤◌, Bool, true, false, cond, List, [], ◌∷◌, ◌++◌, length, get_or, set, map, flat_map, sum_by, count_by, refl, sym, ap, ◌∙◌, inl, inr, arith}
use Rattle.std.proofs.lemmas.Bool.{cond-true, cond-false}
use Rattle.std.proofs.lemmas.List.Sums.{sum_by-cons, sum_by-append, sum_by-set}
use Rattle.list_laws.specs.Member.{Member}

abbrev pub bit : Bool → ℕ
bit b = cond b 1 0

pub bit_true : (b : Bool) → b ≡ true → bit b ≡ 1
bit_true b h = cond-true b 1 0 h

pub bit_false : (b : Bool) → b ≡ false → bit b ≡ 0
bit_false b h = cond-false b 1 0 h

module _ {X : Type 0} where
  pub count-cons : (p : X → Bool) (x : X) (xs : List X) → count_by p (x ∷ xs) ≡ bit (p x) + count_by p xs
  count-cons p x xs = sum_by-cons (λ (y : X). bit (p y)) x xs

  pub count-append : (p : X → Bool) (xs ys : List X) → count_by p (xs ++ ys) ≡ count_by p xs + count_by p ys
  count-append p xs ys = sum_by-append (λ (y : X). bit (p y)) xs ys

  pub count_same : (p q : X → Bool) (xs : List X) → ((x : X) → Member xs x → p x ≡ q x) → count_by p xs ≡ count_by q xs
  count_same p q [] same = refl
  count_same p q (x ∷ xs) same =
      count-cons p x xs ∙ ap (λ b. bit b + count_by p xs) (same x (inl refl)) ∙ ap (λ n. bit (q x) + n) (count_same p q xs (λ y m. same y (inr m))) ∙ sym (count-cons q x xs)

  pub count_zero : (p : X → Bool) (xs : List X) → ((x : X) → Member xs x → p x ≡ false) → count_by p xs ≡ 0
  count_zero p [] none = refl
  count_zero p (x ∷ xs) none =
      let e : count_by p (x ∷ xs) ≡ bit (p x) + count_by p xs = count-cons p x xs in
      let b : bit (p x) ≡ 0 = bit_false (p x) (none x (inl refl)) in
      let r : count_by p xs ≡ 0 = count_zero p xs (λ y m. none y (inr m)) in
      omega (arith, e, b, r)

  pub count_every : (p : X → Bool) (xs : List X) → ((x : X) → Member xs x → p x ≡ true) → count_by p xs ≡ length xs
  count_every p [] all = refl
  count_every p (x ∷ xs) all =
      let e : count_by p (x ∷ xs) ≡ bit (p x) + count_by p xs = count-cons p x xs in
      let b : bit (p x) ≡ 1 = bit_true (p x) (all x (inl refl)) in
      let r : count_by p xs ≡ length xs = count_every p xs (λ y m. all y (inr m)) in
      omega (arith, e, b, r)

  pub count_some : (p : X → Bool) (xs : List X) (i : ℕ) (d : X) → i < length xs → p (get_or xs i d) ≡ true → 1 ≤ count_by p xs
  count_some p [] i d some passes = absurd (omega (arith, some))
  count_some p (x ∷ xs) zero d some passes =
      let e : count_by p (x ∷ xs) ≡ bit (p x) + count_by p xs = count-cons p x xs in
      let b : bit (p x) ≡ 1 = bit_true (p x) passes in
      omega (arith, e, b)
  count_some p (x ∷ xs) (suc i) d some passes =
      let e : count_by p (x ∷ xs) ≡ bit (p x) + count_by p xs = count-cons p x xs in
      let r : 1 ≤ count_by p xs = count_some p xs i d (omega (arith, some)) passes in
      omega (arith, e, r)

  -- where at most one passes, two that pass are one
  pub count_unique : (p : X → Bool) (xs : List X) (i j : ℕ) (d : X) → count_by p xs ≤ 1 → i < length xs → j < length xs → p (get_or xs i d) ≡ true → p (get_or xs j d) ≡ true → i ≡ j
  count_unique p [] i j d few some other first second = absurd (omega (arith, some))
  count_unique p (x ∷ xs) zero zero d few some other first second = refl
  count_unique p (x ∷ xs) zero (suc j) d few some other first second =
      let e : count_by p (x ∷ xs) ≡ bit (p x) + count_by p xs = count-cons p x xs in
      let b : bit (p x) ≡ 1 = bit_true (p x) first in
      let r : 1 ≤ count_by p xs = count_some p xs j d (omega (arith, other)) second in
      absurd (omega (arith, e, b, r, few))
  count_unique p (x ∷ xs) (suc i) zero d few some other first second =
      let e : count_by p (x ∷ xs) ≡ bit (p x) + count_by p xs = count-cons p x xs in
      let b : bit (p x) ≡ 1 = bit_true (p x) second in
      let r : 1 ≤ count_by p xs = count_some p xs i d (omega (arith, some)) first in
      absurd (omega (arith, e, b, r, few))
  count_unique p (x ∷ xs) (suc i) (suc j) d few some other first second =
      let e : count_by p (x ∷ xs) ≡ bit (p x) + count_by p xs = count-cons p x xs in
      ap suc (count_unique p xs i j d (omega (arith, e, few)) (omega (arith, some)) (omega (arith, other)) first second)

  pub count-set : (p : X → Bool) (xs : List X) (i : ℕ) (y d : X) → i < length xs → count_by p (set xs i y) + bit (p (get_or xs i d)) ≡ count_by p xs + bit (p y)
  count-set p xs i y d some = sum_by-set (λ (x : X). bit (p x)) xs i y d some

  pub sum_same : (f g : X → ℕ) (xs : List X) → ((x : X) → Member xs x → f x ≡ g x) → sum_by f xs ≡ sum_by g xs
  sum_same f g [] same = refl
  sum_same f g (x ∷ xs) same =
      let e : sum_by f (x ∷ xs) ≡ f x + sum_by f xs = sum_by-cons f x xs in
      let h : sum_by g (x ∷ xs) ≡ g x + sum_by g xs = sum_by-cons g x xs in
      let here : f x ≡ g x = same x (inl refl) in
      let r : sum_by f xs ≡ sum_by g xs = sum_same f g xs (λ y m. same y (inr m)) in
      omega (arith, e, h, here, r)

  pub sum_none : (f : X → ℕ) (xs : List X) (d : X) → ((i : ℕ) → i < length xs → f (get_or xs i d) ≡ 0) → sum_by f xs ≡ 0
  sum_none f [] d none = refl
  sum_none f (x ∷ xs) d none =
      let e : sum_by f (x ∷ xs) ≡ f x + sum_by f xs = sum_by-cons f x xs in
      let here : f x ≡ 0 = none 0 (omega arith) in
      let r : sum_by f xs ≡ 0 = sum_none f xs d (λ i some. none (suc i) (omega (arith, some))) in
      omega (arith, e, here, r)

  -- a sum to which one place alone adds
  pub sum_at : (f : X → ℕ) (xs : List X) (j : ℕ) (d : X) → j < length xs → ((i : ℕ) → i < length xs → i ≢ j → f (get_or xs i d) ≡ 0) → sum_by f xs ≡ f (get_or xs j d)
  sum_at f [] j d some others = absurd (omega (arith, some))
  sum_at f (x ∷ xs) zero d some others =
      let e : sum_by f (x ∷ xs) ≡ f x + sum_by f xs = sum_by-cons f x xs in
      let r : sum_by f xs ≡ 0 = sum_none f xs d (λ i more. others (suc i) (omega (arith, more)) (λ (h : suc i ≡ 0). omega (arith, h))) in
      omega (arith, e, r)
  sum_at f (x ∷ xs) (suc j) d some others =
      let e : sum_by f (x ∷ xs) ≡ f x + sum_by f xs = sum_by-cons f x xs in
      let here : f x ≡ 0 = others 0 (omega arith) (λ (h : 0 ≡ suc j). omega (arith, h)) in
      let r : sum_by f xs ≡ f (get_or xs j d) = sum_at f xs j d (omega (arith, some)) (λ i more apart. others (suc i) (omega (arith, more)) (λ (h : suc i ≡ suc j). apart (omega (arith, h)))) in
      omega (arith, e, here, r)

module _ {X Y : Type 0} where
  pub count-map : (p : Y → Bool) (f : X → Y) (xs : List X) → count_by p (map f xs) ≡ count_by (λ x. p (f x)) xs
  count-map p f [] = refl
  count-map p f (x ∷ xs) =
      let e : count_by p (f x ∷ map f xs) ≡ bit (p (f x)) + count_by p (map f xs) = count-cons p (f x) (map f xs) in
      let h : count_by (λ (y : X). p (f y)) (x ∷ xs) ≡ bit (p (f x)) + count_by (λ (y : X). p (f y)) xs = count-cons (λ (y : X). p (f y)) x xs in
      let r : count_by p (map f xs) ≡ count_by (λ (y : X). p (f y)) xs = count-map p f xs in
      omega (arith, e, h, r)

  pub count-flat_map : (p : Y → Bool) (f : X → List Y) (xs : List X) → count_by p (flat_map f xs) ≡ sum_by (λ x. count_by p (f x)) xs
  count-flat_map p f [] = refl
  count-flat_map p f (x ∷ xs) =
      let e : count_by p (f x ++ flat_map f xs) ≡ count_by p (f x) + count_by p (flat_map f xs) = count-append p (f x) (flat_map f xs) in
      let h : sum_by (λ (y : X). count_by p (f y)) (x ∷ xs) ≡ count_by p (f x) + sum_by (λ (y : X). count_by p (f y)) xs = sum_by-cons (λ (y : X). count_by p (f y)) x xs in
      let r : count_by p (flat_map f xs) ≡ sum_by (λ (y : X). count_by p (f y)) xs = count-flat_map p f xs in
      omega (arith, e, h, r)
