-- Numbers that are written with commas between them are read again.
use Rattle.std.proofs.Common.{◌≡◌, ℕ, ◌+◌, ◌-◌, ◌*◌, ◌/◌, ◌%◌, ◌^◌, ◌<◌, ◌≤◌, Bool, true, false, cond, ltb, eqb, ◌&&◌, List, [], ◌∷◌, ◌++◌, map, sym, Option, Some, None, refl, ap, ◌∙◌, append_assoc, append-nil, arith}
use Rattle.std.specs.Prelude.{option_map, option_and_then, unwrap_or}
use Rattle.std.specs.Char.{is_ascii_digit}
use Rattle.std.specs.Fmt.{decimal}
use Rattle.std.specs.List.{All, join_with_byte}
use Rattle.std.proofs.lemmas.Bool.{ne_eqb, lt-ltb, le-leb, and_from}
use Rattle.std.proofs.lemmas.Fmt.{decimal_by_steps}
use Rattle.std.proofs.lemmas.List.Elements.{All-head, All-tail}
use Rattle.view_commands.specs.Numbers.{numbers_on, with_digit}

is_digit : (d : ℕ) → d < 10 → is_ascii_digit (48 + d) ≡ true
is_digit d small = and_from _ _ (le-leb 48 (48 + d) (omega arith)) (le-leb (48 + d) 57 (omega arith))

no_comma : (d : ℕ) → eqb (48 + d) 44 ≡ false
no_comma d = ne_eqb (48 + d) 44 (λ same. omega (arith, same))

below : (m d n c limit : ℕ) (b : Bool) → b ≡ true → c - 48 ≡ d → n ≡ m * 10 + d → n < limit → cond (b && ltb (m * 10 + (c - 48)) limit) (Some (m * 10 + (c - 48))) None ≡ Some n
below m d n c limit b digit value total fits =
    let same : m * 10 + (c - 48) ≡ n = omega arith in
    rw (digit, same, lt-ltb n limit fits) refl

one_digit_more : (m d n : ℕ) → d < 10 → n ≡ m * 10 + d → n < 2 ^ 32 → with_digit m (48 + d) ≡ Some n
one_digit_more m d n small total fits =
    let value : 48 + d - 48 ≡ d = omega arith in
    below m d n (48 + d) (2 ^ 32) (is_ascii_digit (48 + d)) (is_digit d small) value total fits

digit_step : (begun : Option ℕ) (d n : ℕ) (rest : List ℕ) → d < 10 → n ≡ unwrap_or begun 0 * 10 + d → n < 2 ^ 32 → numbers_on begun ((48 + d) ∷ rest) ≡ numbers_on (Some n) rest
unfolding numbers_on
digit_step begun d n rest small total fits =
    rw (no_comma d) (ap (option_and_then (λ m. numbers_on (Some m) rest)) (one_digit_more (unwrap_or begun 0) d n small total fits))

abbrev Begins : ℕ → List ℕ → Type 0
Begins n digits = n < 2 ^ 32 → (rest : List ℕ) → numbers_on None (digits ++ rest) ≡ numbers_on (Some n) rest

one_digit : (n : ℕ) → n < 10 → Begins n ((48 + n) ∷ [])
one_digit n small fits rest = digit_step None n n rest small (omega arith) fits

one_more : (n : ℕ) (digits : List ℕ) → 10 ≤ n → Begins (n / 10) digits → Begins n (digits ++ ((48 + n % 10) ∷ []))
one_more n digits ten front fits rest =
    let within : n / 10 < 2 ^ 32 = omega arith in
    let small : n % 10 < 10 = omega arith in
    let total : n ≡ n / 10 * 10 + n % 10 = omega arith in
    ap (numbers_on None) (append_assoc digits ((48 + n % 10) ∷ []) rest)
    ∙ front within ((48 + n % 10) ∷ rest)
    ∙ digit_step (Some (n / 10)) (n % 10) n rest small total fits

number_read : (n : ℕ) (rest : List ℕ) → n < 2 ^ 32 → numbers_on None (decimal n ++ rest) ≡ numbers_on (Some n) rest
number_read n rest fits =
    let long : n < 2 ^ 64 = omega arith in
    decimal_by_steps Begins one_digit one_more n long fits rest

pub numbers_again : (n : ℕ) (numbers : List ℕ) → All (λ m. m < 2 ^ 32) (n ∷ numbers) → numbers_on None (join_with_byte 44 (map decimal (n ∷ numbers))) ≡ Some (n ∷ numbers)
unfolding numbers_on
numbers_again n [] fits = ap (numbers_on None) (sym (append-nil (decimal n))) ∙ number_read n [] (All-head (λ k. k < 2 ^ 32) n [] fits)
numbers_again n (m ∷ numbers) fits =
    number_read n (44 ∷ join_with_byte 44 (map decimal (m ∷ numbers))) (All-head (λ k. k < 2 ^ 32) n (m ∷ numbers) fits)
    ∙ ap (option_map (λ ns. n ∷ ns)) (numbers_again m numbers (All-tail (λ k. k < 2 ^ 32) n (m ∷ numbers) fits))
