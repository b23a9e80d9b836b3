-- Which pieces of a flow graph decide whether others are executed: control dependence, by J. Ferrante, K. Ottenstein and J. Warren, "The program
-- dependence graph and its use in optimization", ACM TOPLAS 1987.
use Rattle.std.specs.Prelude.{◌≡◌, ℕ, Bool, true, false, ◌==◌, if◌then◌else◌, List, [], ◌∷◌, ◌++◌, length, Option, Some, None, slice_get}
use Rattle.std.specs.List.{Any}
use Rattle.closed_walks.specs.Graph.{Graph}
use Rattle.closed_walks.specs.Walk.{Reach, no_edge}
use Rattle.printed_graphs.specs.declared.flow.Edge.{Edge}
use Rattle.printed_graphs.specs.declared.flow.PieceKind.{PieceKind}
use Rattle.printed_graphs.specs.declared.flow.PieceKind.TheVariants as kind
use Rattle.printed_graphs.specs.declared.flow.PrintedFlow.{PrintedFlow}

-- the edges turned round, without those that leave a piece
abbrev pub back_edges : (without : ℕ) → List Edge → List (ℕ × ℕ)
back_edges without [] = []
back_edges without (e ∷ es) = (if e.from == without then [] else (e.to, e.from) ∷ []) ++ back_edges without es

abbrev pub backward : PrintedFlow → (without : ℕ) → Graph
backward flow without = record { nodes = length flow.pieces.items; edges = back_edges without flow.edges.items }

-- END, at which edge 0 begins
abbrev pub begin_of : Option Edge → ℕ
begin_of None = 0
begin_of (Some edge) = edge.from

abbrev pub end_piece : PrintedFlow → ℕ
end_piece flow = begin_of (slice_get flow.edges.items 0)

-- from a piece control may come to END without another one
abbrev pub Evades : PrintedFlow → (without piece : ℕ) → Type 0
Evades flow without piece = Reach (backward flow without) no_edge (end_piece flow) piece

-- an edge leads from this piece to one of which P holds
abbrev pub LeadsTo : PrintedFlow → (from : ℕ) → (P : ℕ → Type 0) → Type 0
LeadsTo flow from P = Any (λ edge. (edge.from ≡ from) × P edge.to) flow.edges.items

-- After one edge that leaves the first piece the second one always comes, and after another it needn't.
pub record Controls (flow : PrintedFlow) (first second : ℕ) : Type 0 where
  pub always : LeadsTo flow first (λ piece. Evades flow second piece → ⊥)
  pub perhaps : LeadsTo flow first (Evades flow second)

abbrev pub is_branch : PieceKind → Bool
is_branch kind.Branch = true
is_branch _ = false

abbrev pub is_statement : PieceKind → Bool
is_statement kind.Act = true
is_statement kind.Branch = true
is_statement _ = false
