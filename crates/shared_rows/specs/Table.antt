-- Tables: rows of numbers, all of one width.
use Rattle.std.specs.Prelude.{◌≡◌, ◌<◌, ℕ, List, [], ◌∷◌, ◌++◌, All, Option, None, Some, length, map, set, slice_index_or}

pub record Table : Type 0 where
  pub width : ℕ
  pub rows : List (List ℕ)

-- each row has as many numbers as the table is wide
abbrev pub IsFull : Table → Type 0
IsFull t = All (λ (row : List ℕ). length row ≡ t.width) t.rows

abbrev pub row_at : Table → ℕ → List ℕ
row_at t k = slice_index_or t.rows k []

-- the table with one more row
abbrev pub with_row : Table → List ℕ → Table
with_row t row = record { width = t.width; rows = t.rows ++ row ∷ [] }

-- the table with another number in one place
abbrev pub with_number : Table → (k column number : ℕ) → Table
with_number t k column number = record { width = t.width; rows = set t.rows k (set (row_at t k) column number) }

-- the table with another row in the place of one
abbrev pub with_row_at : Table → (k : ℕ) → List ℕ → Table
with_row_at t k row = record { width = t.width; rows = set t.rows k row }

-- the row with a number, if there is one
abbrev pub numbered_row : Table → Option ℕ → List ℕ
numbered_row t None = []
numbered_row t (Some k) = row_at t k

abbrev pub numbered_rows : Table → List (Option ℕ) → List (List ℕ)
numbered_rows t numbers = map (numbered_row t) numbers

-- the numbers are those of rows
abbrev pub AreThere : Table → List (Option ℕ) → Type 0
AreThere t numbers = (i k : ℕ) → slice_index_or numbers i None ≡ Some k → k < length t.rows
