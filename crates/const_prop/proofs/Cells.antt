-- Cells of a table with a row of all edges for each line.
use Rattle.std.proofs.Common.{◌≡◌, ℕ, ◌+◌, ◌<◌, ◌≤◌, ◌*◌, ⊎_elim, sym, ap, arith, mul-le-mul_right, add-one, suc-mul}
use Rattle.std.proofs.lemmas.Bool.{cases_lt}

row_before : (edges line e line' e' : ℕ) → e < edges → line < line' → line * edges + e ≡ line' * edges + e' → ⊥
row_before edges line e line' e' l k same =
    let more : (line + 1) * edges ≤ line' * edges = mul-le-mul_right edges (omega arith) in
    let row : (line + 1) * edges ≡ line * edges + edges = rw add-one (suc-mul line edges) in
    omega (arith, more, row, same)

-- two cells are one where line and edge are
pub one_cell : (edges line e line' e' : ℕ) → e < edges → e' < edges → line * edges + e ≡ line' * edges + e' → (line ≡ line') × (e ≡ e')
one_cell edges line e line' e' l l' same = ⊎_elim
    (λ (k : line < line'). absurd (row_before edges line e line' e' l k same))
    (λ (m : line' ≤ line). ⊎_elim
    (λ (k : line' < line). absurd (row_before edges line' e' line e l' k (sym same)))
    (λ (m' : line ≤ line'). let is : line ≡ line' = omega arith in (is, (let at : line * edges ≡ line' * edges = ap (λ n. n * edges) is in omega (arith, at, same))))
    (cases_lt line' line))
    (cases_lt line line')
