-- Symbolic names as numbers: different ones for different names, and below 26 times the fifth power of 37.
use Rattle.std.proofs.Common.{◌≡◌, ℕ, zero, suc, ◌+◌, ◌*◌, ◌-◌, ◌<◌, ◌≤◌, ◌^◌, ◌⊎◌, inl, inr, Bool, true, false, ◌&&◌, ◌||◌, if◌then◌else◌, List, [], ◌∷◌, length, refl, ap, ◌∙◌, arith}
use Rattle.std.specs.Prelude.{nat_le, nat_lt}
use Rattle.std.specs.List.{list_all}
use Rattle.std.proofs.lemmas.Bool.{and_parts}
use Rattle.std.proofs.lemmas.Bool.Decides.{nat_tests}
use Rattle.f77_tree.specs.Name.{is_capital, is_figure, is_name}

-- 1 to 10 for figures, 11 to 36 for letters
digit : ℕ → ℕ
digit c = if nat_lt c 58 then c - 47 else c - 54

after_first : List ℕ → ℕ
after_first [] = 0
after_first (c ∷ more) = digit c + 37 * after_first more

pub name_number : List ℕ → ℕ
name_number [] = 0
name_number (c ∷ more) = (c - 65) + 26 * after_first more

abbrev stands : ℕ → Bool
stands c = is_capital c || is_figure c

-- ---- characters

record IsFigure (c : ℕ) : Type 0 where
  low : 48 ≤ c
  high : c ≤ 57
  is : digit c ≡ c - 47

record IsLetter (c : ℕ) : Type 0 where
  low : 65 ≤ c
  high : c ≤ 90
  is : digit c ≡ c - 54

figure : (c : ℕ) → is_figure c ≡ true → IsFigure c
unfolding digit
figure c is =
    let low : 48 ≤ c = grind (arith, nat_tests) in
    let high : c ≤ 57 = grind (arith, nat_tests) in
    record { low = low; high = high; is = ap (λ (b : Bool). if b then c - 47 else c - 54) (below c high) }
  where
    below : (n : ℕ) → n ≤ 57 → nat_lt n 58 ≡ true
    below n few = grind (arith, nat_tests)

letter : (c : ℕ) → is_capital c ≡ true → IsLetter c
unfolding digit
letter c is =
    let low : 65 ≤ c = grind (arith, nat_tests) in
    let high : c ≤ 90 = grind (arith, nat_tests) in
    record { low = low; high = high; is = ap (λ (b : Bool). if b then c - 47 else c - 54) (above c low) }
  where
    above : (n : ℕ) → 65 ≤ n → nat_lt n 58 ≡ false
    above n many = grind (arith, nat_tests)

either : (c : ℕ) → stands c ≡ true → IsFigure c ⊎ IsLetter c
either c is = by (is_capital c) refl is
  where
    by : (b : Bool) → is_capital c ≡ b → (b || is_figure c) ≡ true → IsFigure c ⊎ IsLetter c
    by true capital all = inr (letter c capital)
    by false capital all = inl (figure c all)

record IsBounded (d : ℕ) : Type 0 where
  low : 1 ≤ d
  high : d ≤ 36

bounded : (c : ℕ) → stands c ≡ true → IsBounded (digit c)
bounded c is = by (either c is)
  where
    by : IsFigure c ⊎ IsLetter c → IsBounded (digit c)
    by (inl f) = let a = f.low in let b = f.high in let e = f.is in record { low = omega (arith, a, b, e); high = omega (arith, a, b, e) }
    by (inr f) = let a = f.low in let b = f.high in let e = f.is in record { low = omega (arith, a, b, e); high = omega (arith, a, b, e) }

digits-apart : (c d : ℕ) → stands c ≡ true → stands d ≡ true → digit c ≡ digit d → c ≡ d
digits-apart c d one two same = by (either c one) (either d two)
  where
    by : IsFigure c ⊎ IsLetter c → IsFigure d ⊎ IsLetter d → c ≡ d
    by (inl f) (inl g) = let a = f.low in let b = f.high in let e = f.is in let h = g.low in let i = g.high in let j = g.is in omega (arith, same, a, b, e, h, i, j)
    by (inl f) (inr g) = let a = f.low in let b = f.high in let e = f.is in let h = g.low in let i = g.high in let j = g.is in absurd (omega (arith, same, a, b, e, h, i, j))
    by (inr f) (inl g) = let a = f.low in let b = f.high in let e = f.is in let h = g.low in let i = g.high in let j = g.is in absurd (omega (arith, same, a, b, e, h, i, j))
    by (inr f) (inr g) = let a = f.low in let b = f.high in let e = f.is in let h = g.low in let i = g.high in let j = g.is in omega (arith, same, a, b, e, h, i, j)

-- ---- what stands behind the first character

after-below : (n : ℕ) (xs : List ℕ) → length xs ≤ n → list_all stands xs ≡ true → after_first xs < 37 ^ n
unfolding after_first
after-below zero [] few all = omega arith
after-below (suc n) [] few all = let h = after-below n [] (omega arith) refl in omega (arith, h)
after-below zero (c ∷ more) few all = absurd (omega (arith, few))
after-below (suc n) (c ∷ more) few all =
    let parts = and_parts (stands c) (list_all stands more) all in
    let h = after-below n more (omega (arith, few)) parts.1 in
    let d = (bounded c parts.0).high in
    omega (arith, h, d)

after-apart : (xs ys : List ℕ) → list_all stands xs ≡ true → list_all stands ys ≡ true → after_first xs ≡ after_first ys → xs ≡ ys
unfolding after_first
after-apart [] [] one two same = refl
after-apart [] (d ∷ ys) one two same = let low = (bounded d (and_parts (stands d) (list_all stands ys) two).0).low in absurd (omega (arith, same, low))
after-apart (c ∷ xs) [] one two same = let low = (bounded c (and_parts (stands c) (list_all stands xs) one).0).low in absurd (omega (arith, same, low))
after-apart (c ∷ xs) (d ∷ ys) one two same =
    let a = and_parts (stands c) (list_all stands xs) one in
    let b = and_parts (stands d) (list_all stands ys) two in
    let first : digit c ≡ digit d = heads (digit c) (digit d) (after_first xs) (after_first ys) (bounded c a.0) (bounded d b.0) same in
    let rest : after_first xs ≡ after_first ys = omega (arith, first, same) in
    ap (λ (e : ℕ). e ∷ xs) (digits-apart c d a.0 b.0 first) ∙ ap (λ (zs : List ℕ). d ∷ zs) (after-apart xs ys a.1 b.1 rest)
  where
    heads : (d e m n : ℕ) → IsBounded d → IsBounded e → d + 37 * m ≡ e + 37 * n → d ≡ e
    heads d e m n one two same = let a = one.low in let b = one.high in let f = two.low in let g = two.high in omega (arith, a, b, f, g, same)

-- ---- names

record IsNamed (c : ℕ) (more : List ℕ) : Type 0 where
  low : 65 ≤ c
  high : c ≤ 90
  few : length more ≤ 5
  stand : list_all stands more ≡ true

parts : (c : ℕ) (more : List ℕ) → is_name (c ∷ more) ≡ true → IsNamed c more
parts c more is =
    let a = and_parts ((nat_lt 0 (length (c ∷ more)) && nat_le (length (c ∷ more)) 6) && is_capital c) (list_all stands (c ∷ more)) is in
    let b = and_parts (nat_lt 0 (length (c ∷ more)) && nat_le (length (c ∷ more)) 6) (is_capital c) a.0 in
    let long = and_parts (nat_lt 0 (length (c ∷ more))) (nat_le (length (c ∷ more)) 6) b.0 in
    let first = letter c b.1 in
    record { low = first.low; high = first.high; few = shorter (length more) long.1; stand = (and_parts (stands c) (list_all stands more) a.1).1 }
  where
    shorter : (n : ℕ) → nat_le (suc n) 6 ≡ true → n ≤ 5
    shorter n is = grind (arith, nat_tests)

pub name-below : (x : List ℕ) → is_name x ≡ true → name_number x < 26 * 37 ^ 5
unfolding name_number
name-below [] is = absurd cc
name-below (c ∷ more) is =
    let n = parts c more is in
    least c (after_first more) (37 ^ 5) n.low n.high (after-below 5 more n.few n.stand)
  where
    least : (c m top : ℕ) → 65 ≤ c → c ≤ 90 → m < top → (c - 65) + 26 * m < 26 * top
    least c m top low high less = omega (arith, low, high, less)

pub names-apart : (x y : List ℕ) → is_name x ≡ true → is_name y ≡ true → name_number x ≡ name_number y → x ≡ y
unfolding name_number
names-apart [] y one two same = absurd cc
names-apart (c ∷ xs) [] one two same = absurd cc
names-apart (c ∷ xs) (d ∷ ys) one two same =
    let a = parts c xs one in
    let b = parts d ys two in
    let al = a.low in let ah = a.high in let bl = b.low in let bh = b.high in
    let first : c ≡ d = heads c d (after_first xs) (after_first ys) al ah bl bh same in
    let rest : after_first xs ≡ after_first ys = omega (arith, first, same) in
    ap (λ (e : ℕ). e ∷ xs) first ∙ ap (λ (zs : List ℕ). d ∷ zs) (after-apart xs ys a.stand b.stand rest)
  where
    heads : (c d m n : ℕ) → 65 ≤ c → c ≤ 90 → 65 ≤ d → d ≤ 90 → (c - 65) + 26 * m ≡ (d - 65) + 26 * n → c ≡ d
    heads c d m n al ah bl bh same = omega (arith, al, ah, bl, bh, same)
