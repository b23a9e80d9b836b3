-- Rows that are told by their numbers, where there are any.
use Rattle.std.proofs.Common.{◌≡◌, ℕ, suc, ◌+◌, ◌<◌, List, [], ◌∷◌, Option, None, Some, IfSome, length, get_or, refl, sym, ap, ◌∙◌, arith, length-append}
use Rattle.std.proofs.lemmas.List.{get_or_default}
use Rattle.shared_rows.specs.Table.{AreThere, Table, numbered_rows, row_at, with_row}
use Rattle.shared_rows.proofs.Tables.{older_row}

-- the row with a number that stands in a list is there
pub row_there : (t : Table) (numbers : List (Option ℕ)) (i : ℕ) (number : Option ℕ) → AreThere t numbers → i < length numbers → number ≡ get_or numbers i number → IfSome number (λ k. k < length t.rows)
row_there t numbers i number there inside is = by number (is ∙ get_or_default numbers i number None inside)
  where
    by : (n : Option ℕ) → n ≡ get_or numbers i None → IfSome n (λ k. k < length t.rows)
    by None same = tt
    by (Some k) same = there i k (sym same)

module _ (t new : Table) (row : List ℕ) (is : new ≡ with_row t row) where
  pub one_more : length new.rows ≡ length t.rows + 1
  one_more = ap (λ (x : Table). length x.rows) is ∙ length-append t.rows (row ∷ [])

  pub older_stays : (k : ℕ) → k < length t.rows → row_at new k ≡ row_at t k
  older_stays k below = ap (λ (x : Table). row_at x k) is ∙ older_row t row k below

  -- one more row changes none of those that were there
  pub numbered_stay : (numbers : List (Option ℕ)) → AreThere t numbers → numbered_rows new numbers ≡ numbered_rows t numbers
  numbered_stay [] all = refl
  numbered_stay (None ∷ numbers) all = ap (λ (rows : List (List ℕ)). [] ∷ rows) (numbered_stay numbers (λ i k. all (suc i) k))
  numbered_stay (Some n ∷ numbers) all =
      ap (λ (r : List ℕ). r ∷ numbered_rows new numbers) (older_stays n (all 0 n refl))
      ∙ ap (λ (rows : List (List ℕ)). row_at t n ∷ rows) (numbered_stay numbers (λ i k. all (suc i) k))

  pub there_stay : (numbers : List (Option ℕ)) → AreThere t numbers → AreThere new numbers
  there_stay numbers all i k at =
      let h = all i k at in
      let m = one_more in omega (arith, h, m)
