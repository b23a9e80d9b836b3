-- The text of a number of at most five digits is a name.
use Rattle.std.proofs.Common.{◌≡◌, ℕ, ◌+◌, ◌%◌, ◌<◌, ◌≤◌, ◌^◌, ◌&&◌, ◌||◌, Bool, true, false, List, [], ◌∷◌, ◌++◌, length, if◌then◌else◌, refl, ◌∙◌, arith}
use Rattle.std.specs.Prelude.{codes, nat_le, nat_lt}
use Rattle.std.specs.Fmt.{decimal}
use Rattle.std.specs.List.{list_all}
use Rattle.std.proofs.lemmas.Bool.{and_from, and_parts, le-leb, lt-ltb, ltb-true}
use Rattle.std.proofs.lemmas.Fmt.{decimal_by_steps, length-decimal-le}
use Rattle.std.proofs.lemmas.List.{length-append}
use Rattle.std.proofs.lemmas.List.Folds.{list_all-append}
use Rattle.f77_tree.specs.Name.{is_capital, is_figure, is_name}
use Rattle.program_units.specs.Names.{y_text, zeros}

figures : (n : ℕ) → n < 2 ^ 64 → list_all is_figure (decimal n) ≡ true
figures n below = decimal_by_steps (λ (m : ℕ) (digits : List ℕ). list_all is_figure digits ≡ true) one more n below
  where
    figure : (d : ℕ) → d < 10 → is_figure (48 + d) ≡ true
    figure d few = and_from (nat_le 48 (48 + d)) (nat_le (48 + d) 57) (le-leb 48 (48 + d) (omega arith)) (le-leb (48 + d) 57 (omega (arith, few)))

    one : (m : ℕ) → m < 10 → list_all is_figure ((48 + m) ∷ []) ≡ true
    one m few = and_from (is_figure (48 + m)) true (figure m few) refl

    more : (m : ℕ) (digits : List ℕ) → 10 ≤ m → list_all is_figure digits ≡ true → list_all is_figure (digits ++ ((48 + m % 10) ∷ [])) ≡ true
    more m digits great all = list_all-append is_figure digits ((48 + m % 10) ∷ []) ∙ and_from (list_all is_figure digits) (is_figure (48 + m % 10) && true) all (and_from (is_figure (48 + m % 10)) true (figure (m % 10) (omega arith)) refl)

either : (xs : List ℕ) → list_all is_figure xs ≡ true → list_all (λ b. is_capital b || is_figure b) xs ≡ true
either [] all = refl
either (b ∷ xs) all =
    let parts = and_parts (is_figure b) (list_all is_figure xs) all in
    and_from (is_capital b || is_figure b) (list_all (λ b. is_capital b || is_figure b) xs) (or-second (is_capital b) (is_figure b) parts.0) (either xs parts.1)
  where
    or-second : (a c : Bool) → c ≡ true → (a || c) ≡ true
    or-second true c is = refl
    or-second false c is = is

y-and : (xs : List ℕ) → length xs ≤ 5 → list_all is_figure xs ≡ true → is_name (89 ∷ xs) ≡ true
y-and xs few all =
    and_from ((nat_lt 0 (length (89 ∷ xs)) && nat_le (length (89 ∷ xs)) 6) && is_capital 89) (list_all (λ b. is_capital b || is_figure b) (89 ∷ xs))
    (and_from (nat_lt 0 (length (89 ∷ xs)) && nat_le (length (89 ∷ xs)) 6) (is_capital 89) (and_from (nat_lt 0 (length (89 ∷ xs))) (nat_le (length (89 ∷ xs)) 6) (lt-ltb 0 (length (89 ∷ xs)) (omega arith)) (le-leb (length (89 ∷ xs)) 6 (omega (arith, few)))) refl)
    (either xs all)

five : (n : ℕ) → n < 10 ^ 5 → n < 2 ^ 64 → (length (zeros n ++ decimal n) ≤ 5) × (list_all is_figure (zeros n) ≡ true)
five n small below = by (nat_lt n 10) (nat_lt n 100) (nat_lt n 1000) (nat_lt n 10000) refl refl refl refl
  where
    form : (a b c d : Bool) → List ℕ
    form a b c d = if a then codes "0000" else if b then codes "000" else if c then codes "00" else if d then codes "0" else []

    long : (k j : ℕ) (zs : List ℕ) → n < 10 ^ k → 0 < k → length zs ≡ j → j + k ≤ 5 → length (zs ++ decimal n) ≤ 5
    long k j zs less some many fits = let a = length-decimal-le k n some less below in let b = length-append zs (decimal n) in omega (arith, a, b, many, fits)

    by : (a b c d : Bool) → nat_lt n 10 ≡ a → nat_lt n 100 ≡ b → nat_lt n 1000 ≡ c → nat_lt n 10000 ≡ d → (length (form a b c d ++ decimal n) ≤ 5) × (list_all is_figure (form a b c d) ≡ true)
    by true b c d ia ib ic id = (long 1 4 (codes "0000") (ltb-true n 10 ia) (omega arith) refl (omega arith), refl)
    by false true c d ia ib ic id = (long 2 3 (codes "000") (ltb-true n 100 ib) (omega arith) refl (omega arith), refl)
    by false false true d ia ib ic id = (long 3 2 (codes "00") (ltb-true n 1000 ic) (omega arith) refl (omega arith), refl)
    by false false false true ia ib ic id = (long 4 1 (codes "0") (ltb-true n 10000 id) (omega arith) refl (omega arith), refl)
    by false false false false ia ib ic id = (long 5 0 [] small (omega arith) refl (omega arith), refl)

pub y-text-named : (n : ℕ) → n < 10 ^ 5 → n < 2 ^ 64 → is_name (y_text n) ≡ true
y-text-named n small below =
    let parts = five n small below in
    y-and (zeros n ++ decimal n) parts.0 (list_all-append is_figure (zeros n) (decimal n) ∙ and_from (list_all is_figure (zeros n)) (list_all is_figure (decimal n)) parts.1 (figures n below))
