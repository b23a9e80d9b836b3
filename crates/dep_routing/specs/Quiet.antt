-- Which regions of a flow graph a line of tokens needn't enter. Lines are numbers from 0, and `touches node line` tells whether a
-- node touches a line. Whether a region is quiet is a fact here, and no test: the nodes in a region are told by walks, not by a
-- computation. A law says that each region is quiet or has a node that touches the line, so nothing is lost by it.
use Rattle.std.specs.Prelude.{◌≡◌, ℕ, Bool, true, false}
use Rattle.closed_walks.specs.Graph.{Graph, to}
use Rattle.region_tree.specs.Tree.{Tree, IsNumber, IsIn, IsPart}

module _ (g : Graph) (t : Tree) (touches : ℕ → ℕ → Bool) (line : ℕ) where
  -- no node in the region touches the line
  pub record IsQuiet (r : ℕ) : Type 0 where
    pub number : IsNumber t r
    pub untouched : (node : ℕ) → IsIn g t r node → touches node line ≡ false

  -- a node in the region touches the line
  pub record IsTouched (r : ℕ) : Type 0 where
    pub node : ℕ
    pub inside : IsIn g t r node
    pub touched : touches node line ≡ true

  -- a quiet region holds the node
  pub record IsInQuiet (node : ℕ) : Type 0 where
    pub region : ℕ
    pub quiet : IsQuiet region
    pub holds : IsIn g t region node

  -- no quiet region holds the node
  abbrev pub IsFree : ℕ → Type 0
  IsFree node = IsInQuiet node → ⊥

  -- the edge ends at a free node
  abbrev pub IsWire : ℕ → Type 0
  IsWire e = IsFree (to g e)

  -- q is quiet and holds the node, and contains each quiet region that holds it
  pub record IsLargest (node q : ℕ) : Type 0 where
    pub quiet : IsQuiet q
    pub holds : IsIn g t q node
    pub largest : (r : ℕ) → IsQuiet r → IsIn g t r node → IsPart g t r q
