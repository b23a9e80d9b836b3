-- Rows as lists of cells: tables whose cells are alike, one more row, another number in a cell.
use Rattle.std.proofs.Common.{◌≡◌, ◌≢◌, ℕ, ◌+◌, ◌*◌, ◌/◌, ◌<◌, ◌≤◌, All, List, [], ◌∷◌, ◌++◌, length, map, set, get_or, sym, ap, ◌∙◌, zero-add, arith, length-set}
use Rattle.std.specs.List.{range_with_len}
use Rattle.std.proofs.lemmas.List.FromFn.{fill_by_all, get_or-map-range_with_len, length-map-range_with_len, map-range_with_len_more}
use Rattle.std.proofs.lemmas.Nat.{rows as row_laws}
use Rattle.std.proofs.lemmas.Grind.{elements}
use Rattle.shared_rows.specs.Blocks.{cell, row, rows}

module _ {X : Type 0} (f : ℕ → X) (n : ℕ) where
  -- a list that is made item by item
  abbrev pub listed : List X
  listed = map f (range_with_len 0 n)

  pub listed_length : length listed ≡ n
  listed_length = length-map-range_with_len f 0 n

  pub listed_at : (k : ℕ) (d : X) → k < n → get_or listed k d ≡ f k
  listed_at k d below = get_or-map-range_with_len f 0 n k k d below (zero-add k)

  pub listed_same : (g : ℕ → X) → ((k : ℕ) → k < n → g k ≡ f k) → map g (range_with_len 0 n) ≡ listed
  listed_same g same = fill_by_all f (map g (range_with_len 0 n)) n (f 0) (length-map-range_with_len g 0 n)
      (λ k below. get_or-map-range_with_len g 0 n k k (f 0) below (zero-add k) ∙ same k below)

  pub listed_set : (g : ℕ → X) (at : ℕ) (x : X) → at < n → g at ≡ x → ((k : ℕ) → k < n → k ≢ at → g k ≡ f k) → map g (range_with_len 0 n) ≡ set listed at x
  listed_set g at x below here other = sym (fill_by_all g (set listed at x) n x (length-set listed at x ∙ listed_length) (λ k low. grind (arith, elements, here, other k, listed_at k x, listed_length)))

-- ---- places

module _ (blocks : ℕ) where
  pub next_row : (j k : ℕ) → j < k → j * blocks + blocks ≤ k * blocks
  next_row j k below = grind (arith, row_laws)

  pub place_below : (width count k column : ℕ) → width < 16 * blocks → k < count → column < width → k * blocks + column / 16 < count * blocks
  place_below width count k column wide row inside = omega (arith, next_row k count row)

  pub place_apart : (j k a b : ℕ) → a < blocks → b < blocks → j * blocks + a ≡ k * blocks + b → j ≡ k
  place_apart j k a b left right same = grind (arith, next_row j k, next_row k j)

-- ---- tables

pub rows_full : (pool : List (List ℕ)) (numbers : List ℕ) (blocks width count : ℕ) → All (λ (r : List ℕ). length r ≡ width) (rows pool numbers blocks width count)
rows_full pool numbers blocks width count k d low = grind (arith, listed_length (row pool numbers blocks width) count, listed_at (row pool numbers blocks width) count k d, listed_length (cell pool numbers blocks k) width)

-- the number in a cell of a table
pub cell_read : (pool : List (List ℕ)) (numbers : List ℕ) (blocks width count k column : ℕ) → k < count → column < width → get_or (get_or (rows pool numbers blocks width count) k []) column 0 ≡ cell pool numbers blocks k column
cell_read pool numbers blocks width count k column below inside = rw (listed_at (row pool numbers blocks width) count k [] below) (listed_at (cell pool numbers blocks k) width column 0 inside)

module _ (pool pool' : List (List ℕ)) (numbers numbers' : List ℕ) (blocks width count : ℕ) where
  -- the cells of both tables are alike
  abbrev pub AreAlike : Type 0
  AreAlike = (k column : ℕ) → k < count → column < width → cell pool' numbers' blocks k column ≡ cell pool numbers blocks k column

  pub rows_alike : AreAlike → rows pool' numbers' blocks width count ≡ rows pool numbers blocks width count
  rows_alike alike = listed_same (row pool numbers blocks width) count (row pool' numbers' blocks width)
      (λ k below. listed_same (cell pool numbers blocks k) width (cell pool' numbers' blocks k) (λ column inside. alike k column below inside))

  -- one more row
  pub rows_more : AreAlike → (last : List ℕ) → length last ≡ width → ((column : ℕ) → column < width → get_or last column 0 ≡ cell pool' numbers' blocks count column)
      → rows pool' numbers' blocks width (count + 1) ≡ rows pool numbers blocks width count ++ last ∷ []
  rows_more alike last long cells = rw (map-range_with_len_more (row pool' numbers' blocks width) 0 count count (zero-add count), rows_alike alike, fill_by_all (cell pool' numbers' blocks count) last width 0 long cells)

  -- another number in a cell
  pub rows_written : (k column number : ℕ) → k < count → column < width
      → cell pool' numbers' blocks k column ≡ number
      → ((c : ℕ) → c < width → c ≢ column → cell pool' numbers' blocks k c ≡ cell pool numbers blocks k c)
      → ((j c : ℕ) → j < count → c < width → j ≢ k → cell pool' numbers' blocks j c ≡ cell pool numbers blocks j c)
      → rows pool' numbers' blocks width count ≡ set (rows pool numbers blocks width count) k (set (get_or (rows pool numbers blocks width count) k []) column number)
  rows_written k column number below inside here beside others =
      listed_set (row pool numbers blocks width) count (row pool' numbers' blocks width) k (set (row pool numbers blocks width k) column number) below
      (listed_set (cell pool numbers blocks k) width (cell pool' numbers' blocks k) column number inside here beside)
      (λ j low apart. listed_same (cell pool numbers blocks j) width (cell pool' numbers' blocks j) (λ c within. others j c low within apart))
      ∙ ap (λ (xs : List ℕ). set (rows pool numbers blocks width count) k (set xs column number)) (sym (listed_at (row pool numbers blocks width) count k [] below))
