-- Numbers in a row that pass a test, counted as the elements of a list.
use Rattle.std.proofs.Common.{◌≡◌, ℕ, suc, ◌+◌, ◌<◌, Bool, List, [], ◌∷◌, length, get_or, refl, sym, ap, ◌∙◌, arith}
use Rattle.std.specs.List.{count_by, range_with_len}
use Rattle.list_laws.proofs.Counts.{bit, count-cons}

-- numbers in a row pass a test as the elements of a list do
pub count_row : {X : Type 0} (p : X → Bool) (d : X) (test : ℕ → Bool) (xs : List X) (a : ℕ) → ((i : ℕ) → i < length xs → test (a + i) ≡ p (get_or xs i d)) → count_by test (range_with_len a (length xs)) ≡ count_by p xs
count_row p d test [] a same = refl
count_row p d test (x ∷ xs) a same =
    let at : a ≡ a + 0 = omega arith in
    let next : (i : ℕ) → a + 1 + i ≡ a + suc i = λ i. omega arith in
    let first : test a ≡ p x = ap test at ∙ same 0 (omega arith) in
    let rest : count_by test (range_with_len (a + 1) (length xs)) ≡ count_by p xs = count_row p d test xs (a + 1) (λ i less. ap test (next i) ∙ same (suc i) (omega (arith, less))) in
    count-cons test a (range_with_len (a + 1) (length xs)) ∙ ap (λ b. bit b + count_by test (range_with_len (a + 1) (length xs))) first ∙ ap (λ n. bit (p x) + n) rest ∙ sym (count-cons p x xs)
