-- The marking and the place of control of a net beside the passes of its program.
use Rattle.std.specs.Prelude.{◌≡◌, ◌≤◌, ◌<◌, ℕ, false, None, Some}
use Rattle.closed_walks.specs.Graph.{edge_count, to}
use Rattle.region_tree.specs.Tree.{Tree}
use Rattle.f77_tree.specs.Execution.{Memory}
use Rattle.f77_tree.specs.Run.{Running}
use Rattle.cfg_build.specs.Joined.{is_end}
use Rattle.cfg_build.specs.Passes.{passes}
use Rattle.dep_routing.specs.Place.{Place}
use Rattle.net_board.specs.declared.control.Control.{Control}
use Rattle.net_board.specs.WithinPiece.{leaving, IsAmid}
use Rattle.net_board.specs.SoundNets.{IsNet}
use Rattle.net_board.specs.FlowFacts.{FlowFacts}
use Rattle.net_board.specs.Nodes.{NetOf, graph_in, kind_in, node_count}
use Rattle.net_board.specs.Tokens.{Tokens, edge_of, left_for, pass_at}

-- The marking between two passes, when control is on this edge: each line stands in its place, nothing is left for any switch, and
-- nothing has trapped.
pub record IsBetween (net : NetOf) (t : Tree) (m : Tokens) (edge : ℕ) (memory : Memory) : Type 0 where
  pub lines : (line place : ℕ) → line < net.routing.lines → edge_of m line ≡ Some place → Place (graph_in net) t net.touches line edge place
  pub stand : (line : ℕ) → line < net.routing.lines → (place : ℕ) × (edge_of m line ≡ Some place)
  pub edges : (k : ℕ) → left_for m k ≡ None
  pub memory_is : m.memory ≡ memory
  pub trap_is : m.trap ≡ None

-- The run of the program goes on after so many passes, on this edge, which doesn't leave the end, and with this memory.
pub record IsOnWay (net : NetOf) (passes_made edge : ℕ) (memory : Memory) : Type 0 where
  pub running : (passes net.program net.input passes_made).mark ≡ Running
  pub edge_is : (passes net.program net.input passes_made).edge ≡ edge
  pub memory_is : (passes net.program net.input passes_made).memory ≡ memory
  pub exists : edge < edge_count (graph_in net)
  pub later : 0 < edge

-- The run is on an edge to the piece of this place, and of the nodes of that so many as the place tells have fired since the
-- marking between two passes. The place tells then the edge that the next pass takes. A piece whose nodes have all fired is the
-- end.
pub record IsInLockstep (net : NetOf) (m : Tokens) (c : Control) : Type 0 where
  pub is_net : IsNet net
  pub ground : FlowFacts net is_net.tree
  pub passes_made : ℕ
  pub edge : ℕ
  pub memory : Memory
  pub way : IsOnWay net passes_made edge memory
  pub comes : to (graph_in net) edge ≡ c.piece
  pub start : Tokens
  pub between : IsBetween net is_net.tree start edge memory
  pub few : c.fired ≤ node_count net c.piece
  pub due : is_end (kind_in net c.piece) ≡ false → c.fired < node_count net c.piece
  pub amid : IsAmid net start m c.piece c.fired memory (pass_at net c.piece memory)
  pub leaves : 0 < c.fired → c.leaves ≡ leaving net c.piece (pass_at net c.piece memory)
