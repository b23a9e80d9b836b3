-- What contracts see of lists of sets: how many there are, and which numbers each has.
use Rattle.std.specs.Prelude.{ℕ, Bool, length, slice_get}
use Rattle.set_lists.specs.declared.lists.SetList.{SetList}
use Rattle.set_lists.specs.Kept.{test_by}

module _ {W : ℕ} where
  abbrev pub set_count : SetList W → ℕ
  set_count sets = length sets.items.items

  -- the set at a place has the number
  unfoldable pub test_at : SetList W → (i k : ℕ) → Bool
  test_at sets i k = test_by sets.shared.items (slice_get sets.items.items i) k
