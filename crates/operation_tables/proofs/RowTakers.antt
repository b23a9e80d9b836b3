-- Who takes the value of an operation, and rows that are made one after another.
use Rattle.std.proofs.Common.{◌≡◌, ⊎_elim, ℕ, zero, suc, ◌<◌, ◌≤◌, true, List, [], ◌∷◌, ◌++◌, length, Some, None, slice_get, sym, ap, ◌∙◌, subst, arith}
use Rattle.std.proofs.lemmas.Bool.{cases_lt, false≢true}
use Rattle.op_board.specs.OperationLists.{IsOperationList, takes_of}
use Rattle.op_board.specs.OperationNets.{OperationNet, operation_at, operation_count, operations_at}
use Rattle.op_board.specs.Operations.{Operation, gives_value}
use Rattle.operation_tables.specs.declared.rows.Row.{Row}
use Rattle.operation_tables.specs.OperationRows.{IsTaker, IsTakerIn}
use Rattle.operation_tables.proofs.RowLawLemmas.{operation_found}

module _ (x : OperationNet) (piece i : ℕ) where
  -- the taker in a list is one in the piece whose operations these are
  pub taker_of : (ops : List Operation) (taker : ℕ) → ops ≡ operations_at x piece → IsOperationList (operations_at x piece) → i < operation_count x piece → (0 < takes_of ops i → IsTakerIn ops i taker) → gives_value (operation_at x piece i).work ≡ true → IsTaker x piece i taker
  taker_of ops taker own is inside takes gives = ⊎_elim
      (λ (low : suc i < operation_count x piece).
      let one : takes_of ops i ≡ 1 = ap (λ (xs : List Operation). takes_of xs i) own ∙ is.once i low in
      let t : IsTakerIn (operations_at x piece) i taker = subst (λ (xs : List Operation). IsTakerIn xs i taker) own (takes (omega (arith, one))) in
      record { inside = t.inside; takes = t.takes })
      (λ (high : operation_count x piece ≤ suc i). absurd (false≢true (sym (is.last i (operation_at x piece i) (operation_found x piece i inside) (omega (arith, high, inside))) ∙ gives)))
      (cases_lt (suc i) (operation_count x piece))

-- one row more
pub rows_more : (P : ℕ → Row → Type 0) (rows : List Row) (row : Row) → ((k : ℕ) (r : Row) → slice_get rows k ≡ Some r → P k r) → P (length rows) row → (k : ℕ) (r : Row) → slice_get (rows ++ row ∷ []) k ≡ Some r → P k r
rows_more P [] row all is zero r at = subst (P 0) (same at) is
  where
    same : Some row ≡ Some r → row ≡ r
    same e = cc
rows_more P [] row all is (suc k) r at = let no : None ≡ Some r = at in absurd cc
rows_more P (x ∷ rows) row all is zero r at = all 0 r at
rows_more P (x ∷ rows) row all is (suc k) r at = rows_more (λ j. P (suc j)) rows row (λ j s. all (suc j) s) is k r at
