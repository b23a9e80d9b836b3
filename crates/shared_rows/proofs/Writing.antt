-- A number is written into a cell, in a block that stands in one place alone.
use Rattle.std.proofs.Common.{◌≡◌, ◌≢◌, ℕ, ◌*◌, ◌/◌, ◌%◌, ◌<◌, ◌≤◌, List, [], length, set, get_or, arith, get_or-set_other}
use Rattle.std.proofs.lemmas.Grind.{elements}
use Rattle.shared_rows.specs.Blocks.{AreKept, AreSame, cell, place, rows}
use Rattle.shared_rows.proofs.Cells.{AreAlike, place_apart, place_below, rows_alike, rows_written}

module _ (pool pool' : List (List ℕ)) (numbers numbers' : List ℕ) (blocks width count : ℕ) (wide : width < 16 * blocks) (size : length numbers ≡ count * blocks) (same : AreSame pool numbers pool' numbers') where
  within : (k column : ℕ) → k < count → column < width → place blocks k column < length numbers
  within k column below inside = omega (arith, size, place_below blocks width count k column wide below inside)

  alike : AreAlike pool pool' numbers numbers' blocks width count
  alike k column below inside = grind (arith, same.blocks (place blocks k column), within k column below inside)

  -- blocks that are as they were make the same rows
  pub same_rows : rows pool' numbers' blocks width count ≡ rows pool numbers blocks width count
  same_rows = rows_alike pool pool' numbers numbers' blocks width count alike

  module _ (own : ℕ) (kept : AreKept pool' numbers' own) (k column : ℕ) (below : k < count) (inside : column < width) (b : ℕ) (is : b ≡ get_or numbers' (place blocks k column) 0) where
    standing : (j c : ℕ) → j < count → c < width → place blocks j c < length numbers'
    standing j c low low' = omega (arith, same.size, within j c low low')

    pub own_exists : b < length pool'
    own_exists = omega (arith, kept.exist (place blocks k column) (standing k column below inside))

    module _ (number : ℕ) (mine : own ≤ b) (block : List ℕ) (read : block ≡ get_or pool' b []) where
      abbrev after : List (List ℕ)
      after = set pool' b (set block (column % 16) number)

      -- a block in another place is another one
      other : (j c : ℕ) → j < count → c < width → place blocks j c ≢ place blocks k column → cell after numbers' blocks j c ≡ cell pool numbers blocks j c
      other j c low low' apart = grind (arith, kept.alone (place blocks k column) (place blocks j c) (standing k column below inside) (standing j c low low'), get_or-set_other, alike j c low low')

      here : cell after numbers' blocks k column ≡ number
      here = grind (arith, elements, own_exists, kept.full b)

      beside : (c : ℕ) → c < width → c ≢ column → cell after numbers' blocks k c ≡ cell pool numbers blocks k c
      beside c low apart = grind (arith, elements, own_exists, other k c below low, alike k c below low)

      pub written_rows : rows after numbers' blocks width count ≡ set (rows pool numbers blocks width count) k (set (get_or (rows pool numbers blocks width count) k []) column number)
      written_rows = rows_written pool after numbers numbers' blocks width count k column number below inside here beside
          (λ j c low low' apart. other j c low low' (λ there. apart (place_apart blocks j k (c / 16) (column / 16) (omega arith) (omega arith) there)))
