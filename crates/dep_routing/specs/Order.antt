-- An order of regions in which each stands after the one that its exit enters. No public clause cites this module.
use Rattle.std.specs.Prelude.{◌≡◌, ℕ, ◌+◌, ◌<◌, ◌≤◌, ◌↔◌, ◌⊎◌, Bool, true, false, List, [], ◌∷◌, ◌++◌, length, take, set, slice_index, slice_index_or}
use Rattle.closed_walks.specs.Walk.{Holds}
use Rattle.region_tree.specs.Tree.{Tree, entry_of, exit_of, IsNumber}

-- numbers of edges, below a bound, that rise from the entry of each region to its exit
pub record Ranks (t : Tree) : Type 0 where
  pub rank : ℕ → ℕ
  pub bound : ℕ
  pub below : (e : ℕ) → rank e < bound
  pub through : (r : ℕ) → IsNumber t r → rank (entry_of t r) < rank (exit_of t r)

-- All regions stand in the order, each after the one that its exit enters.
pub record IsOrder (t : Tree) (order : List ℕ) : Type 0 where
  pub all : (r : ℕ) → IsNumber t r → Holds order r
  pub numbers : (r : ℕ) → Holds order r → IsNumber t r
  pub after : (i q : ℕ) → i < length order → IsNumber t q → entry_of t q ≡ exit_of t (slice_index order i) → Holds (take i order) q

abbrev pub is_marked : List Bool → ℕ → Bool
is_marked marks r = slice_index_or marks r false

-- how many have no mark
abbrev pub unmarked : List Bool → ℕ
unmarked [] = 0
unmarked (true ∷ marks) = unmarked marks
unmarked (false ∷ marks) = unmarked marks + 1

-- The region was put after the order, if it wasn't in it.
abbrev pub IsPutAfter : (r : ℕ) → (marks : List Bool) → (order : List ℕ) → (marks' : List Bool) → (order' : List ℕ) → Type 0
IsPutAfter r marks order marks' order' =
    ((is_marked marks r ≡ true) × (marks' ≡ marks) × (order' ≡ order)) ⊎ ((is_marked marks r ≡ false) × (marks' ≡ set marks r true) × (order' ≡ order ++ r ∷ []))

-- Of an order in the making: the exits of the regions below k enter others or these regions stand in it, and of its first `done`
-- regions those whose exits enter them stand in it, too.
pub record IsOrdering (t : Tree) (k done : ℕ) (marks : List Bool) (order : List ℕ) : Type 0 where
  pub size : length marks ≡ length t.entries
  pub marked : (r : ℕ) → (is_marked marks r ≡ true) ↔ Holds order r
  pub numbers : (r : ℕ) → Holds order r → IsNumber t r
  pub after : (i q : ℕ) → i < length order → IsNumber t q → entry_of t q ≡ exit_of t (slice_index order i) → Holds (take i order) q
  pub within : done ≤ length order
  pub lasts : (r : ℕ) → IsNumber t r → r < k → ((q : ℕ) → IsNumber t q → entry_of t q ≡ exit_of t r → ⊥) → Holds order r
  pub steps : (i q : ℕ) → i < done → IsNumber t q → exit_of t q ≡ entry_of t (slice_index order i) → Holds order q
