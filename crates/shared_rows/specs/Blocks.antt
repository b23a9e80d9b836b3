-- How the rows are kept: as blocks of 16 numbers, of which one may stand in many places. No public clause cites this module.
use Rattle.std.specs.Prelude.{◌≡◌, ◌+◌, ◌*◌, ◌/◌, ◌%◌, ◌<◌, ◌≤◌, ℕ, List, [], length, map, slice_index, slice_index_or}
use Rattle.std.specs.List.{range_with_len}
use Rattle.shared_rows.specs.Table.{Table}
use Rattle.shared_rows.specs.declared.rows.SharedRows.TheInside.{Inside}

-- where the block of a row that has the column stands in the list of block numbers, when a row has so many blocks
abbrev pub place : (blocks k column : ℕ) → ℕ
place blocks k column = k * blocks + column / 16

-- the number that a row has in a column
abbrev pub cell : (pool : List (List ℕ)) (numbers : List ℕ) (blocks k column : ℕ) → ℕ
cell pool numbers blocks k column = slice_index (slice_index_or pool (slice_index numbers (place blocks k column)) []) (column % 16)

abbrev pub row : (pool : List (List ℕ)) (numbers : List ℕ) (blocks width k : ℕ) → List ℕ
row pool numbers blocks width k = map (cell pool numbers blocks k) (range_with_len 0 width)

abbrev pub rows : (pool : List (List ℕ)) (numbers : List ℕ) (blocks width count : ℕ) → List (List ℕ)
rows pool numbers blocks width count = map (row pool numbers blocks width) (range_with_len 0 count)

abbrev pub table_of : Inside → Table
table_of d = record { width = d.width; rows = rows d.pool.items d.numbers.items d.blocks d.width d.count }

-- The blocks that stand in places exist, and one from `own` on stands in one place alone.
pub record AreKept (pool : List (List ℕ)) (numbers : List ℕ) (own : ℕ) : Type 0 where
  pub few : own ≤ length pool
  pub exist : (i : ℕ) → i < length numbers → slice_index numbers i < length pool
  pub full : (b : ℕ) → b < length pool → length (slice_index_or pool b []) ≡ 16
  pub alone : (i j : ℕ) → i < length numbers → j < length numbers → own ≤ slice_index numbers i → slice_index numbers i ≡ slice_index numbers j → i ≡ j

-- In each place stands a block of the same numbers.
pub record AreSame (pool : List (List ℕ)) (numbers : List ℕ) (pool' : List (List ℕ)) (numbers' : List ℕ) : Type 0 where
  pub size : length numbers' ≡ length numbers
  pub blocks : (i : ℕ) → i < length numbers → slice_index_or pool' (slice_index numbers' i) [] ≡ slice_index_or pool (slice_index numbers i) []

pub record IsKept (d : Inside) : Type 0 where
  pub wide : d.width < 16 * d.blocks
  pub size : length d.numbers.items ≡ d.count * d.blocks
  pub blocks : AreKept d.pool.items d.numbers.items d.own
