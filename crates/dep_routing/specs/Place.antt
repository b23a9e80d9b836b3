-- Where a line of tokens stands when control has taken an edge.
use Rattle.std.specs.Prelude.{ℕ, Bool, ◌⊎◌}
use Rattle.closed_walks.specs.Graph.{Graph, from}
use Rattle.region_tree.specs.Tree.{Tree, exit_of}
use Rattle.dep_routing.specs.Quiet.{IsFree, IsLargest}
use Rattle.dep_routing.specs.Next.{Next}

module _ (g : Graph) (t : Tree) (touches : ℕ → ℕ → Bool) (line : ℕ) where
  -- the next edge from the exit of the largest quiet region that holds the node
  pub record IsAfter (node f : ℕ) : Type 0 where
    pub region : ℕ
    pub largest : IsLargest g t touches line node region
    pub next : Next g t touches line (exit_of t region) f

  -- The next edge from e, where e begins at a free node; else the one after the largest quiet region that holds this node.
  abbrev pub Place : (e f : ℕ) → Type 0
  Place e f = (IsFree g t touches line (from g e) × Next g t touches line e f) ⊎ IsAfter (from g e) f
