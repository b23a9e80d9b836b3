-- Words at places, in blocks of 32, of which most hold none.
use Rattle.std.proofs.Common.{zero, suc}
use Rattle.std.specs.Prelude.{◌≡◌, ◌≢◌, ◌≤◌, ◌+◌, ◌*◌, ◌/◌, ◌%◌, ℕ, ℤ, pos, Option, Some, None, if◌then◌else◌, List, length, count_by, slice_index_or, vec_capacity}
use Rattle.class_set.specs.declared.ClassSet.{ClassSet}
use Rattle.const_prop.specs.declared.values.Values.TheInside.{Inside}
use Rattle.const_prop.specs.SparseSets.{is_number, nth_holds}

-- for each block its number; of the blocks whose number isn't 0 the places that have words, and the words
pub record Blocks : Type 0 where
  pub numbers : List ℕ
  pub filled : List (ClassSet 1)
  pub words : List ℤ

abbrev pub blocks_of : Inside → Blocks
blocks_of d = record { numbers = d.numbers.items; filled = d.filled.items; words = d.words.items }

abbrev pub places : Blocks → ℕ
places b = 32 * length b.numbers

-- the word at a place of a block with this number; a block with number 0 holds none
abbrev pub word_in : (number : ℕ) → List (ClassSet 1) → List ℤ → (k : ℕ) → Option ℤ
word_in zero filled words k = None
word_in (suc n) filled words k = if nth_holds filled n k then Some (slice_index_or words (32 * n + k) (pos 0)) else None

-- the word at a place
abbrev pub word_of : Blocks → (place : ℕ) → Option ℤ
word_of b place = word_in (slice_index_or b.numbers (place / 32) 0) b.filled b.words (place % 32)

-- the blocks that have a number other than 0 have those from 1 on, each its own, so many
pub record AreNumbered (numbers : List ℕ) (count : ℕ) : Type 0 where
  pub all : count ≡ count_by is_number numbers
  pub within : (i : ℕ) → slice_index_or numbers i 0 ≤ count_by is_number numbers
  pub own : (i j : ℕ) → slice_index_or numbers i 0 ≡ slice_index_or numbers j 0 → slice_index_or numbers i 0 ≢ 0 → i ≡ j

-- and there are words for all of them, and room for every block
pub record IsKept (d : Inside) : Type 0 where
  pub numbered : AreNumbered d.numbers.items (length d.filled.items)
  pub words : length d.words.items ≡ 32 * length d.filled.items
  pub filled_room : length d.numbers.items ≤ vec_capacity d.filled
  pub words_room : 32 * length d.numbers.items ≤ vec_capacity d.words
