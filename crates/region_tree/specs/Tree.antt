-- The regions of a flow graph and how they lie in one another. Regions are numbered from 1, and 0 stands for no region.
use Rattle.std.specs.Prelude.{◌≡◌, ◌≢◌, ℕ, ◌-◌, ◌<◌, ◌⊎◌, List, length, slice_index}
use Rattle.closed_walks.specs.Graph.{Graph}
use Rattle.closed_walks.specs.Region.{IsRegion, IsInside, IsWithin}

pub record Tree : Type 0 where
  -- for each number the edge by which the region is entered, and that by which it is left
  pub entries : List ℕ
  pub exits : List ℕ
  -- for each number the smallest other region that contains the region, or 0
  pub parents : List ℕ
  -- for each node the smallest region that holds it, or 0
  pub innermost : List ℕ

-- how many regions there are
abbrev pub region_count : Tree → ℕ
region_count t = length t.entries - 1

abbrev pub entry_of : Tree → ℕ → ℕ
entry_of t r = slice_index t.entries r

abbrev pub exit_of : Tree → ℕ → ℕ
exit_of t r = slice_index t.exits r

abbrev pub parent_of : Tree → ℕ → ℕ
parent_of t r = slice_index t.parents r

abbrev pub innermost_of : Tree → ℕ → ℕ
innermost_of t node = slice_index t.innermost node

-- the number of a region
abbrev pub IsNumber : Tree → ℕ → Type 0
IsNumber t r = (0 < r) × (r < length t.entries)

-- the node lies in the region
abbrev pub IsIn : Graph → Tree → (r node : ℕ) → Type 0
IsIn g t r node = IsInside g (entry_of t r) (exit_of t r) node

-- each node of the region r lies in the region q
abbrev pub IsPart : Graph → Tree → (r q : ℕ) → Type 0
IsPart g t r q = IsWithin g (entry_of t r) (exit_of t r) (entry_of t q) (exit_of t q)

-- a region with these two edges has a number
pub record IsNumbered (t : Tree) (a b : ℕ) : Type 0 where
  pub number : ℕ
  pub exists : IsNumber t number
  pub entry : entry_of t number ≡ a
  pub exit : exit_of t number ≡ b

-- The regions of the graph are numbered in the order of their entries.
pub record AreRegions (g : Graph) (t : Tree) : Type 0 where
  pub some : 0 < length t.entries
  pub size : length t.exits ≡ length t.entries
  pub no_entry : entry_of t 0 ≡ 0
  pub no_exit : exit_of t 0 ≡ 0
  pub sound : (r : ℕ) → IsNumber t r → IsRegion g (entry_of t r) (exit_of t r)
  pub complete : (a b : ℕ) → IsRegion g a b → IsNumbered t a b
  pub rises : (q r : ℕ) → 0 < q → q < r → r < length t.entries → entry_of t q < entry_of t r

-- The region has what is asked, and is part of each that has it.
pub record IsLeast (g : Graph) (t : Tree) (asked : ℕ → Type 0) (r : ℕ) : Type 0 where
  pub number : IsNumber t r
  pub has : asked r
  pub least : (q : ℕ) → IsNumber t q → asked q → IsPart g t r q

-- no region has what is asked
abbrev pub IsNone : Tree → (ℕ → Type 0) → Type 0
IsNone t asked = (q : ℕ) → IsNumber t q → asked q → ⊥

-- the least region that has what is asked, or 0 where none has it
abbrev pub IsLeastOrNone : Graph → Tree → (ℕ → Type 0) → ℕ → Type 0
IsLeastOrNone g t asked r = ((r ≡ 0) × IsNone t asked) ⊎ IsLeast g t asked r

-- q is another region that contains r
abbrev pub IsAround : Graph → Tree → (r q : ℕ) → Type 0
IsAround g t r q = (q ≢ r) × IsPart g t r q

-- the tree of the graph's regions
pub record IsRegionTree (g : Graph) (t : Tree) : Type 0 where
  pub regions : AreRegions g t
  pub parents_size : length t.parents ≡ length t.entries
  pub no_parent : parent_of t 0 ≡ 0
  pub parents : (r : ℕ) → IsNumber t r → IsLeastOrNone g t (λ q. IsAround g t r q) (parent_of t r)
  pub nodes : length t.innermost ≡ g.nodes
  pub innermost : (node : ℕ) → node < g.nodes → IsLeastOrNone g t (λ q. IsIn g t q node) (innermost_of t node)
