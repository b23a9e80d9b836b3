-- What the fields of a table say of its rows.
use Rattle.std.proofs.Common.{◌≡◌, ◌%◌, ◌*◌, ◌<◌, ◌≤◌, ℕ, List, [], length, get_or, ◌∙◌, arith, mul-le-mul_right}
use Rattle.std.proofs.lemmas.List.{get_or_default}
use Rattle.shared_rows.specs.Blocks.{IsKept, cell, place, row, table_of}
use Rattle.shared_rows.specs.Table.{IsFull, Table, row_at}
use Rattle.shared_rows.specs.declared.rows.SharedRows.TheInside.{Inside}
use Rattle.shared_rows.proofs.Cells.{cell_read, listed_length, place_below, rows_full}

module _ (d : Inside) (t : Table) (is : table_of d ≡ t) where
  pub count_is : length t.rows ≡ d.count
  count_is = rw (← is) (listed_length (row d.pool.items d.numbers.items d.blocks d.width) d.count)

  pub width_is : t.width ≡ d.width
  width_is = cc

  pub is_row : (k : ℕ) → k < length t.rows → k < d.count
  is_row k below = omega (arith, count_is)

  pub is_column : (column : ℕ) → column < t.width → column < d.width
  is_column column inside = omega (arith, width_is)

  pub number_at : (k column : ℕ) → k < length t.rows → column < t.width → get_or (row_at t k) column 0 ≡ cell d.pool.items d.numbers.items d.blocks k column
  number_at k column below inside = rw (← is) (cell_read d.pool.items d.numbers.items d.blocks d.width d.count k column (is_row k below) (is_column column inside))

  pub within_row : (k column : ℕ) → k < length t.rows → column < t.width → column < length (row_at t k)
  within_row k column below inside =
      let full : IsFull t = rw (← is) (rows_full d.pool.items d.numbers.items d.blocks d.width d.count) in
      omega (arith, full k [] below)

module _ (d : Inside) (kept : IsKept d) where
  -- a row has a block at least
  pub few_rows : (count : ℕ) (numbers : List ℕ) → length numbers ≡ count * d.blocks → count ≤ length numbers
  few_rows count numbers size =
      let most : 1 * count ≤ d.blocks * count = mul-le-mul_right count (let wide = kept.wide in omega (arith, wide)) in
      omega (arith, most, size)

  pub place_within : (k column : ℕ) → k < d.count → column < d.width → place d.blocks k column < length d.numbers.items
  place_within k column below inside = omega (arith, kept.size, place_below d.blocks d.width d.count k column kept.wide below inside)

  -- the number of the block that has a cell
  abbrev pub block_of : (k column : ℕ) → ℕ
  block_of k column = get_or d.numbers.items (place d.blocks k column) 0

  pub block_exists : (k column : ℕ) → k < d.count → column < d.width → block_of k column < length d.pool.items
  block_exists k column below inside = kept.blocks.exist (place d.blocks k column) (place_within k column below inside)

  -- what is read of the numbers of blocks
  pub block_read : (k column b : ℕ) → k < d.count → column < d.width → b ≡ get_or d.numbers.items (place d.blocks k column) b → b ≡ block_of k column
  block_read k column b below inside is = is ∙ get_or_default d.numbers.items (place d.blocks k column) b 0 (place_within k column below inside)

  pub cell_of_block : (k column b : ℕ) (block : List ℕ) → k < d.count → column < d.width → b ≡ block_of k column → block ≡ get_or d.pool.items b block → get_or block (column % 16) 0 ≡ cell d.pool.items d.numbers.items d.blocks k column
  cell_of_block k column b block below inside is read = grind (arith, get_or_default, block_exists k column below inside)
