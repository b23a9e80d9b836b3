-- What a contract sees of `Columns`: which rows are marked in which columns.
use Rattle.std.proofs.Common.{zero, suc}
use Rattle.std.specs.Prelude.{ℕ, ◌+◌, ◌*◌, ◌/◌, ◌%◌, ◌&&◌, Bool, false, List, [], ◌∷◌, nat_lt}
use Rattle.class_set.specs.ClassSet.{holds}
use Rattle.class_set.specs.declared.ClassSet.{ClassSet}
use Rattle.set_columns.specs.declared.columns.Columns.{Columns}

-- the number is a member of the set that stands at a place
abbrev pub member_at : List (ClassSet 1) → (place n : ℕ) → Bool
member_at [] place n = false
member_at (set ∷ sets) zero n = holds set n
member_at (set ∷ sets) (suc place) n = member_at sets place n

-- whether the row is marked in the column, when each column has so many blocks of 64 rows
abbrev pub marked_in : List (ClassSet 1) → (blocks column row : ℕ) → Bool
marked_in sets blocks column row = nat_lt (row / 64) blocks && member_at sets (column * blocks + row / 64) (row % 64)

unfoldable pub marked : Columns → (column row : ℕ) → Bool
marked t column row = marked_in t.marks.items t.blocks column row
