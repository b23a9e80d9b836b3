-- Which nodes touch which lines, by a list with a set of lines for each node.
use Rattle.std.proofs.Common.{zero, suc}
use Rattle.std.specs.Prelude.{ℕ, Bool, false, List, [], ◌∷◌}
use Rattle.class_set.specs.ClassSet.{holds}
use Rattle.class_set.specs.declared.ClassSet.{ClassSet}

module _ {W : ℕ} where
  -- whether the set of the node has the line as a member
  abbrev pub touches_in : List (ClassSet W) → (node line : ℕ) → Bool
  touches_in [] node line = false
  touches_in (set ∷ sets) zero line = holds set line
  touches_in (set ∷ sets) (suc node) line = touches_in sets node line
