-- The last row of a table.
use Rattle.std.proofs.Common.{◌≡◌, ℕ, ◌<◌, List, [], ◌∷◌, length, set, get_or, refl, ap, ◌∙◌, get_or-set_same}
use Rattle.std.proofs.lemmas.List.{get_or_append_left, get_or_push, set-get_or, set-set, set_at}
use Rattle.shared_rows.specs.Table.{Table, row_at, with_number, with_row, with_row_at}

module _ (t : Table) (row : List ℕ) where
  pub last_row : row_at (with_row t row) (length t.rows) ≡ row
  last_row = get_or_push t.rows row [] (length t.rows) refl

  pub older_row : (k : ℕ) → k < length t.rows → row_at (with_row t row) k ≡ row_at t k
  older_row k below = get_or_append_left t.rows (row ∷ []) [] k below

  pub last_replaced : (other : List ℕ) → with_row_at (with_row t row) (length t.rows) other ≡ with_row t other
  last_replaced other = ap (λ (xs : List (List ℕ)). record { width = t.width; rows = xs }) (set_at t.rows row [] other (length t.rows) refl)

module _ (t : Table) (k : ℕ) (below : k < length t.rows) where
  -- a row in its own place
  pub row_stays : with_row_at t k (row_at t k) ≡ t
  row_stays = ap (λ (xs : List (List ℕ)). record { width = t.width; rows = xs }) (set-get_or t.rows k [])

  pub replaced_row : (row : List ℕ) → row_at (with_row_at t k row) k ≡ row
  replaced_row row = get_or-set_same t.rows k row [] below

  pub replaced_written : (row : List ℕ) (column number : ℕ) → with_number (with_row_at t k row) k column number ≡ with_row_at t k (set row column number)
  replaced_written row column number = ap (λ (xs : List (List ℕ)). record { width = t.width; rows = xs })
      (set-set t.rows k row (set (get_or (set t.rows k row) k []) column number) ∙ ap (λ (r : List ℕ). set t.rows k (set r column number)) (replaced_row row))
