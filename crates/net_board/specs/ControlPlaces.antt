-- At which places control stands, and by which edges firings lead it on.
use Rattle.std.specs.Prelude.{◌≡◌, ◌<◌, ℕ, true, false, Some}
use Rattle.closed_walks.specs.Graph.{edge_count}
use Rattle.firing.specs.declared.system.Fired.{Fired}
use Rattle.firing.specs.declared.system.Fired.TheVariants.{Moved, Line, Trapped}
use Rattle.net_board.specs.declared.control.Control.{Control}
use Rattle.net_board.specs.Nodes.{NetOf, graph_in}
use Rattle.net_board.specs.ControlCourse.{due_node, taken}
use Rattle.net_board.specs.Tokens.{Tokens}

-- the place is at a piece of the net, and control leaves it by one of the net's edges
pub record IsPlaced (net : NetOf) (c : Control) : Type 0 where
  pub piece : c.piece < (graph_in net).nodes
  pub leaves : c.leaves < edge_count (graph_in net)

-- where the node is due at a place, and is the first of its piece, control leaves the piece by this edge
abbrev pub Leads : NetOf → Tokens → (k edge : ℕ) → Type 0
Leads net m k edge = (c : Control) → IsPlaced net c → due_node net c ≡ Some k → c.fired ≡ 0 → taken net m c ≡ edge

-- what a firing that meets a trap answers: a piece that doesn't touch the line of output goes on
abbrev pub AnswersTrap : NetOf → (piece : ℕ) → Fired → Type 0
AnswersTrap net piece Moved = net.touches piece 0 ≡ false
AnswersTrap net piece Line = ⊥
AnswersTrap net piece Trapped = net.touches piece 0 ≡ true
