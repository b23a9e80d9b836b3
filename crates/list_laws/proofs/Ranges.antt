-- Numbers in a row: one more is put after the others.
use Rattle.std.proofs.Common.{◌≡◌, ℕ, zero, suc, ◌+◌, [], ◌∷◌, ◌++◌, ap, ◌∙◌, arith}
use Rattle.std.specs.List.{range_with_len}

-- n + 1 numbers from a on, the last one apart
pub range_last : (a n : ℕ) → range_with_len a (suc n) ≡ range_with_len a n ++ (a + n) ∷ []
range_last a zero = ap (λ x. x ∷ []) (omega arith)
range_last a (suc n) =
    let same : a + 1 + n ≡ a + suc n = omega arith in
    ap (λ xs. a ∷ xs) (range_last (a + 1) n ∙ ap (λ x. range_with_len (a + 1) n ++ x ∷ []) same)

-- the numbers below n + 1
pub range_more : (n : ℕ) → range_with_len 0 (n + 1) ≡ range_with_len 0 n ++ n ∷ []
range_more n =
    let count : n + 1 ≡ suc n = omega arith in
    let last : 0 + n ≡ n = omega arith in
    ap (range_with_len 0) count ∙ range_last 0 n ∙ ap (λ x. range_with_len 0 n ++ x ∷ []) last
