-- The nodes that a firing can make ready.
use Rattle.std.specs.Prelude.{◌<◌, ◌&&◌, ◌+◌, ℕ, suc, Bool, not, if◌then◌else◌, List, [], ◌∷◌, length, filter, map, All, Option, Some, None}
use Rattle.std.specs.List.{Contains, range_with_len}
use Rattle.closed_walks.specs.Graph.{to}
use Rattle.cfg_build.specs.declared.pieces.PieceKind.{PieceKind}
use Rattle.cfg_build.specs.declared.pieces.PieceKind.TheVariants as kind
use Rattle.firing.specs.declared.system.NodeName.{NodeName}
use Rattle.firing.specs.declared.system.NodeName.TheVariants.{Act, Switch}
use Rattle.net_board.specs.WithinPiece.{moved_by}
use Rattle.list_laws.specs.Member.{Member}
use Rattle.net_board.specs.Nodes.{NetOf, graph_in, kind_in, all_lines, is_free, nodes_of, first_node, switches}
use Rattle.net_board.specs.Tokens.{Tokens, edge_of}

-- ---- which node a line goes through

-- how many numbers below this one pass the test
abbrev pub passing_below : (ℕ → Bool) → ℕ → ℕ
passing_below test n = length (filter test (range_with_len 0 n))

-- the number of a switch of the piece
abbrev pub switch_number : NetOf → (piece line : ℕ) → ℕ
switch_number net piece line = suc (first_node net piece) + passing_below (λ other. is_free net piece other && not (net.touches piece other)) line

-- the number of a merge at the piece
abbrev pub merge_number : NetOf → (piece line : ℕ) → ℕ
merge_number net piece line = first_node net piece + passing_below (is_free net piece) line

-- no node has this number
abbrev pub no_node : NetOf → ℕ
no_node net = length (nodes_of net)

abbrev pub place_by : NetOf → (piece line : ℕ) → PieceKind → ℕ
place_by net piece line kind.Act = if net.touches piece line then first_node net piece else no_node net
place_by net piece line kind.Branch = if net.touches piece line then first_node net piece else if is_free net piece line then switch_number net piece line else no_node net
place_by net piece line kind.Hold = if net.touches piece line then first_node net piece else if is_free net piece line then switch_number net piece line else no_node net
place_by net piece line kind.Join = if is_free net piece line then merge_number net piece line else no_node net
place_by net piece line kind.End = if is_free net piece line then merge_number net piece line else no_node net
place_by net piece line _ = no_node net

-- the node of the piece that the line goes through
abbrev pub place_of : NetOf → (piece line : ℕ) → ℕ
place_of net piece line = place_by net piece line (kind_in net piece)

-- the nodes of the piece that the lines go through
abbrev pub places : NetOf → ℕ → List ℕ
places net piece = map (place_of net piece) (all_lines net)

-- ---- what a firing wakes

-- the nodes that wait for what the firing of a node leaves or takes
abbrev pub waiting_for : NetOf → NodeName → List ℕ
waiting_for net (Act piece) = switches net piece
waiting_for net (Switch piece line) = first_node net piece ∷ []
waiting_for net _ = []

-- where the line stands on this edge, the list has the node before which that is
abbrev pub HasNext : NetOf → List ℕ → (line : ℕ) → Option ℕ → Type 0
HasNext net woken line None = Unit {0}
HasNext net woken line (Some edge) = place_of net (to (graph_in net) edge) line < no_node net → Contains woken (place_of net (to (graph_in net) edge) line)

-- The list has the nodes before which the lines stand that the firing of a node moved, to this marking, and those that wait.
pub record IsWoken (net : NetOf) (m : Tokens) (name : NodeName) (woken : List ℕ) : Type 0 where
  pub are_nodes : All (λ j. j < length (nodes_of net)) woken
  pub lines : (line : ℕ) → Member (moved_by net name) line → HasNext net woken line (edge_of m line)
  pub nodes : (j : ℕ) → Member (waiting_for net name) j → Contains woken j
