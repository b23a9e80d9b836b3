-- There are fewer symbolic names than indices of 32 bits: a letter, and then up to five of 43 characters, are fewer than 26 * 44^5.
use Rattle.std.proofs.Common.{◌≡◌, ℕ, zero, suc, ◌+◌, ◌-◌, ◌*◌, ◌<◌, ◌≤◌, Bool, true, false, ◌||◌, ◌&&◌, List, [], ◌∷◌, ◌++◌, length, map, refl, sym, ap, ◌∙◌, arith}
use Rattle.std.specs.Prelude.{bytes_eq, nat_le, slice_index}
use Rattle.std.specs.List.{AllByRecursion, IsDistinct, list_all, list_any}
use Rattle.std.specs.Map.{keys_of}
use Rattle.std.proofs.Math.Dec.{eqb}
use Rattle.std.proofs.lemmas.Bool.{and_parts, eqb-true, leb-true}
use Rattle.std.proofs.lemmas.List.{length-map}
use Rattle.std.proofs.lemmas.Map.Steps.{length-le_from_distinct_below}
use Rattle.std.proofs.lemmas.Slice.Eq.{bytes_eq-Decides}
use Rattle.f77_tree.specs.Name.{is_capital, is_figure, is_name}

abbrev is_symbol : ℕ → Bool
is_symbol b = is_capital b || is_figure b

letter-range : (b : ℕ) → is_capital b ≡ true → (65 ≤ b) × (b ≤ 90)
letter-range b is = let p = and_parts (nat_le 65 b) (nat_le b 90) is in (leb-true 65 b p.0, leb-true b 90 p.1)

symbol-range : (b : ℕ) → is_symbol b ≡ true → (48 ≤ b) × (b ≤ 90)
symbol-range b is = by (is_capital b) refl is
  where
    by : (x : Bool) → is_capital b ≡ x → (x || is_figure b) ≡ true → (48 ≤ b) × (b ≤ 90)
    by true letter any = let r = letter-range b letter in (omega (arith, r.0), r.1)
    by false letter figure = let p = and_parts (nat_le 48 b) (nat_le b 57) figure in let low = leb-true 48 b p.0 in let high = leb-true b 57 p.1 in (low, omega (arith, high))

-- characters as the digits of a number to the base 44
abbrev digits : List ℕ → ℕ
digits [] = 0
digits (b ∷ rest) = (b - 47) + 44 * digits rest

same-digits : (a b : List ℕ) → list_all is_symbol a ≡ true → list_all is_symbol b ≡ true → digits a ≡ digits b → a ≡ b
same-digits [] [] all also same = refl
same-digits [] (c ∷ cs) all also same = let r = symbol-range c (and_parts (is_symbol c) (list_all is_symbol cs) also).0 in absurd (omega (arith, same, r.0))
same-digits (b ∷ bs) [] all also same = let r = symbol-range b (and_parts (is_symbol b) (list_all is_symbol bs) all).0 in absurd (omega (arith, same, r.0))
same-digits (b ∷ bs) (c ∷ cs) all also same =
    let p = and_parts (is_symbol b) (list_all is_symbol bs) all in
    let q = and_parts (is_symbol c) (list_all is_symbol cs) also in
    let r = symbol-range b p.0 in
    let s = symbol-range c q.0 in
    let rest : digits bs ≡ digits cs = omega (arith, same, r.0, r.1, s.0, s.1) in
    let one : b ≡ c = omega (arith, same, r.0, s.0, rest) in
    ap (λ (x : ℕ). x ∷ bs) one ∙ ap (λ (xs : List ℕ). c ∷ xs) (same-digits bs cs p.1 q.1 rest)

-- 44^k
abbrev power : ℕ → ℕ
power zero = 1
power (suc k) = 44 * power k

digits-below : (k : ℕ) (a : List ℕ) → length a ≤ k → list_all is_symbol a ≡ true → digits a < power k
digits-below zero [] few all = omega arith
digits-below zero (b ∷ bs) few all = absurd (omega (arith, few))
digits-below (suc k) [] few all = let more = digits-below k [] (omega arith) refl in omega (arith, more)
digits-below (suc k) (b ∷ bs) few all =
    let p = and_parts (is_symbol b) (list_all is_symbol bs) all in
    let more = digits-below k bs (omega (arith, few)) p.1 in
    let r = symbol-range b p.0 in
    omega (arith, more, r.0, r.1)

-- ---- names

name-symbols : (x : List ℕ) → is_name x ≡ true → list_all is_symbol x ≡ true
name-symbols x is = grind arith

name-short : (x : List ℕ) → is_name x ≡ true → length x ≤ 6
name-short x is = grind arith

name-letter : (x : List ℕ) → is_name x ≡ true → is_capital (slice_index x 0) ≡ true
name-letter x is = grind arith

abbrev number : List ℕ → ℕ
number [] = 0
number (b ∷ rest) = (b - 65) + 26 * digits rest

number-few : (x : List ℕ) → is_name x ≡ true → number x < 4287821824
number-few [] is = omega arith
number-few (b ∷ rest) is =
    let letter = letter-range b (name-letter (b ∷ rest) is) in
    let all = and_parts (is_symbol b) (list_all is_symbol rest) (name-symbols (b ∷ rest) is) in
    let short : suc (length rest) ≤ 6 = name-short (b ∷ rest) is in
    let more : digits rest < 164916224 = digits-below 5 rest (omega (arith, short)) all.1 in
    omega (arith, letter.0, letter.1, more)

same-number : (x y : List ℕ) → is_name x ≡ true → is_name y ≡ true → number x ≡ number y → x ≡ y
same-number [] y is also same = let e : false ≡ true = is in absurd cc
same-number (b ∷ bs) [] is also same = let e : false ≡ true = also in absurd cc
same-number (b ∷ bs) (c ∷ cs) is also same =
    let p = and_parts (is_symbol b) (list_all is_symbol bs) (name-symbols (b ∷ bs) is) in
    let q = and_parts (is_symbol c) (list_all is_symbol cs) (name-symbols (c ∷ cs) also) in
    let r = letter-range b (name-letter (b ∷ bs) is) in
    let s = letter-range c (name-letter (c ∷ cs) also) in
    let rest : digits bs ≡ digits cs = omega (arith, same, r.0, r.1, s.0, s.1) in
    let one : b ≡ c = omega (arith, same, r.0, s.0, rest) in
    ap (λ (x : ℕ). x ∷ bs) one ∙ ap (λ (xs : List ℕ). c ∷ xs) (same-digits bs cs p.1 q.1 rest)

apart : (x y : List ℕ) → is_name x ≡ true → is_name y ≡ true → bytes_eq x y ≡ false → eqb (number x) (number y) ≡ false
apart x y is also other = by (eqb (number x) (number y)) refl
  where
    by : (b : Bool) → eqb (number x) (number y) ≡ b → b ≡ false
    by false e = refl
    by true e =
        let same : x ≡ y = same-number x y is also (eqb-true (number x) (number y) e) in
        let equal : bytes_eq x y ≡ true = (bytes_eq-Decides x y).1 same in
        let none : true ≡ false = sym equal ∙ other in
        absurd cc

all-apart : (x : List ℕ) (names : List (List ℕ)) → is_name x ≡ true → list_all is_name names ≡ true → AllByRecursion (λ y. bytes_eq x y ≡ false) names → AllByRecursion (λ n. eqb (number x) n ≡ false) (map number names)
all-apart x [] is all other = tt
all-apart x (y ∷ names) is all other = let p = and_parts (is_name y) (list_all is_name names) all in (apart x y is p.0 other.0, all-apart x names is p.1 other.1)

distinct-numbers : (names : List (List ℕ)) → list_all is_name names ≡ true → IsDistinct bytes_eq names → IsDistinct eqb (map number names)
unfolding IsDistinct
distinct-numbers [] all distinct = tt
distinct-numbers (x ∷ names) all distinct = let p = and_parts (is_name x) (list_all is_name names) all in (all-apart x names p.0 p.1 distinct.0, distinct-numbers names p.1 distinct.1)

below : (names : List (List ℕ)) → list_all is_name names ≡ true → (q : ℕ) → list_any (eqb q) (map number names) ≡ true → q < 4287821824
below [] all q is = let e : false ≡ true = is in absurd cc
below (x ∷ names) all q is = let p = and_parts (is_name x) (list_all is_name names) all in by (eqb q (number x)) refl is (below names p.1 q) (number-few x p.0)
  where
    by : (b : Bool) → eqb q (number x) ≡ b → (b || list_any (eqb q) (map number names)) ≡ true → (list_any (eqb q) (map number names) ≡ true → q < 4287821824) → number x < 4287821824 → q < 4287821824
    by true e any later here = let same = eqb-true q (number x) e in omega (arith, same, here)
    by false e any later here = later any

pub few-names : (names : List (List ℕ)) → list_all is_name names ≡ true → IsDistinct bytes_eq names → length names ≤ 4287821824
few-names names all distinct =
    let few = length-le_from_distinct_below (map number names) 4287821824 (distinct-numbers names all distinct) (below names all) in
    let many = length-map names number in
    omega (arith, few, many)

-- one more entry
pub names-push : {X : Type 0} (es : List (List ℕ × X)) (e : List ℕ × X) → list_all is_name (keys_of es) ≡ true → is_name e.0 ≡ true → list_all is_name (keys_of (es ++ e ∷ [])) ≡ true
names-push [] e all is = ap (λ (b : Bool). b && true) is
names-push (x ∷ es) e all is =
    let p = and_parts (is_name x.0) (list_all is_name (keys_of es)) all in
    ap (λ (b : Bool). b && list_all is_name (keys_of (es ++ e ∷ []))) p.0 ∙ names-push es e p.1 is
