-- Sets of edges, in blocks of 64.
use Rattle.std.proofs.Common.{zero, suc}
use Rattle.std.specs.Prelude.{ℕ, ◌/◌, ◌%◌, Bool, false, List, [], ◌∷◌}
use Rattle.class_set.specs.ClassSet.{holds}
use Rattle.class_set.specs.declared.ClassSet.{ClassSet}

-- the place is in the block
abbrev pub block_holds : List (ClassSet 1) → (block place : ℕ) → Bool
block_holds [] block place = false
block_holds (set ∷ sets) zero place = holds set place
block_holds (set ∷ sets) (suc block) place = block_holds sets block place

-- the edge is in the set
abbrev pub edge_holds : List (ClassSet 1) → (edge : ℕ) → Bool
edge_holds blocks edge = block_holds blocks (edge / 64) (edge % 64)
