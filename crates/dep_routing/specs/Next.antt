-- Past which regions a line is led from an edge. As no test tells quiet regions, these are relations, and laws say that each edge
-- has one next edge. So what is said of one next edge of an edge, as of that in a table, is said of all.
use Rattle.std.proofs.Common.{zero, suc}
use Rattle.std.specs.Prelude.{◌≡◌, ℕ, Bool}
use Rattle.closed_walks.specs.Graph.{Graph}
use Rattle.region_tree.specs.Tree.{Tree, entry_of, exit_of}
use Rattle.dep_routing.specs.Quiet.{IsQuiet}

module _ (g : Graph) (t : Tree) (touches : ℕ → ℕ → Bool) (line : ℕ) where
  -- a quiet region is entered by e and left by f
  pub record IsHop (e f : ℕ) : Type 0 where
    pub region : ℕ
    pub quiet : IsQuiet g t touches line region
    pub entry : entry_of t region ≡ e
    pub exit : exit_of t region ≡ f

  -- no quiet region is entered by the edge
  abbrev pub IsLast : ℕ → Type 0
  IsLast e = (f : ℕ) → IsHop e f → ⊥

  -- so many hops lead from e to f
  abbrev pub Hops : (count e f : ℕ) → Type 0
  Hops zero e f = e ≡ f
  Hops (suc count) e f = (x : ℕ) × IsHop e x × Hops count x f

  -- From e the line is led to f: as long as an edge enters a quiet region, to the edge that leaves it.
  pub record Next (e f : ℕ) : Type 0 where
    pub count : ℕ
    pub hops : Hops count e f
    pub last : IsLast f
