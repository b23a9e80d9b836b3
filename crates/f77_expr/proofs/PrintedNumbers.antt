-- Numbers in decimal are numbers of the grammar.
use Rattle.std.proofs.Common.{◌≡◌, ℕ, ◌+◌, ◌*◌, ◌-◌, ◌/◌, ◌%◌, ◌<◌, ◌≤◌, ◌^◌, true, List, [], ◌∷◌, ◌++◌, length, refl, ap, ◌∙◌, arith, length-append}
use Rattle.std.specs.Prelude.{decimal}
use Rattle.std.specs.List.{list_all}
use Rattle.std.specs.Cmp.Derive.{both_true}
use Rattle.std.proofs.lemmas.Bool.{le-leb, lt-ltb}
use Rattle.std.proofs.lemmas.List.Folds.{list_all-append}
use Rattle.std.proofs.lemmas.Fmt.{decimal_by_steps}
use Rattle.f77_tree.specs.Name.{is_figure}
use Rattle.f77_tree.specs.Grammar.{is_number, number_of, decimal_after}

-- digits that write a number
record WritesNumber (n : ℕ) (digits : List ℕ) : Type 0 where
  some : 0 < length digits
  figures : list_all is_figure digits ≡ true
  is : number_of digits ≡ n

decimal_after-append : (n : ℕ) (xs ys : List ℕ) → decimal_after n (xs ++ ys) ≡ decimal_after (decimal_after n xs) ys
decimal_after-append n [] ys = refl
decimal_after-append n (x ∷ xs) ys = decimal_after-append (10 * n + (x - 48)) xs ys

figure : (d : ℕ) → d < 10 → is_figure (48 + d) ≡ true
figure d lt = both_true (le-leb 48 (48 + d) (omega arith)) (le-leb (48 + d) 57 (omega arith))

one_digit : (n : ℕ) → n < 10 → WritesNumber n ((48 + n) ∷ [])
one_digit n lt = record {
  some = omega arith;
  figures = both_true (figure n lt) refl;
  is = omega arith;
}

digit_more : (n : ℕ) (digits : List ℕ) → 10 ≤ n → WritesNumber (n / 10) digits → WritesNumber n (digits ++ ((48 + n % 10) ∷ []))
digit_more n digits le prefix =
    let lt : n % 10 < 10 = omega arith in
    record {
      some = omega (arith, length-append digits ((48 + n % 10) ∷ []), prefix.some);
      figures = list_all-append is_figure digits ((48 + n % 10) ∷ []) ∙ both_true prefix.figures (both_true (figure (n % 10) lt) refl);
      is = decimal_after-append 0 digits ((48 + n % 10) ∷ []) ∙ ap (λ m. 10 * m + (48 + n % 10 - 48)) prefix.is ∙ omega arith;
    }

writes_decimal : (n : ℕ) → n < 2 ^ 64 → WritesNumber n (decimal n)
writes_decimal n lt = decimal_by_steps WritesNumber one_digit digit_more n lt

pub is_number-decimal : (n : ℕ) → n < 2 ^ 64 → is_number (decimal n) ≡ true
is_number-decimal n lt =
    let writes = writes_decimal n lt in
    both_true (lt-ltb 0 (length (decimal n)) writes.some) writes.figures

pub number_of-decimal : (n : ℕ) → n < 2 ^ 64 → number_of (decimal n) ≡ n
number_of-decimal n lt = (writes_decimal n lt).is
