-- Marks of the regions in which a node touches the line. No public clause cites this module.
use Rattle.std.specs.Prelude.{◌≡◌, ◌≢◌, ℕ, ◌<◌, ◌⊎◌, Bool, true, false, List, length, map}
use Rattle.class_set.specs.ClassSet.{holds}
use Rattle.class_set.specs.declared.ClassSet.{ClassSet}
use Rattle.closed_walks.specs.Graph.{Graph}
use Rattle.region_tree.specs.Tree.{Tree, parent_of, IsNumber}
use Rattle.region_tree.specs.Laws.{above}
use Rattle.dep_routing.specs.Quiet.{IsQuiet, IsTouched}
use Rattle.dep_routing.specs.Order.{is_marked}

module _ {W : ℕ} where
  -- which regions have the line in their sets
  abbrev pub marks_of : List (ClassSet W) → (line : ℕ) → List Bool
  marks_of sets line = map (λ set. holds set line) sets

-- the number is 0 or has a mark
abbrev pub IsNoneOrMarked : List Bool → ℕ → Type 0
IsNoneOrMarked marks r = (r ≡ 0) ⊎ (is_marked marks r ≡ true)

-- a parent that isn't 0 is a region
pub record HaveParents (t : Tree) : Type 0 where
  pub some : 0 < length t.entries
  pub numbers : (r : ℕ) → IsNumber t r → parent_of t r ≢ 0 → IsNumber t (parent_of t r)

-- the parents of marked regions have marks
abbrev pub IsMarkedUp : Tree → List Bool → Type 0
IsMarkedUp t marks = (r : ℕ) → IsNumber t r → is_marked marks r ≡ true → IsNoneOrMarked marks (parent_of t r)

-- The region has a mark now, and so have those above it; no others got one.
pub record IsMarkedFrom (t : Tree) (r : ℕ) (before marks : List Bool) : Type 0 where
  pub size : length marks ≡ length before
  pub here : IsNoneOrMarked marks r
  pub kept : (q : ℕ) → is_marked before q ≡ true → is_marked marks q ≡ true
  pub new : (q : ℕ) → is_marked marks q ≡ true → (is_marked before q ≡ true) ⊎ ((k : ℕ) × (above t k r ≡ q))
  pub up : IsMarkedUp t marks

-- The marks tell in which regions a node touches the line.
pub record AreNoisy (g : Graph) (t : Tree) (touches : ℕ → ℕ → Bool) (line : ℕ) (marks : List Bool) : Type 0 where
  pub size : length marks ≡ length t.entries
  pub noisy : (r : ℕ) → IsNumber t r → is_marked marks r ≡ true → IsTouched g t touches line r
  pub quiet : (r : ℕ) → IsNumber t r → is_marked marks r ≡ false → IsQuiet g t touches line r
