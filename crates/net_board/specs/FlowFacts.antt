-- What lower layers tell of the flow graph of a net, as its lockstep beside the passes needs it.
use Rattle.std.specs.Prelude.{◌≡◌, ◌≢◌, ◌<◌, ◌≤◌, ℕ, true, false}
use Rattle.closed_walks.specs.Graph.{Graph, edge_count, from, to}
use Rattle.closed_walks.specs.Reaching.{reaches_within}
use Rattle.region_tree.specs.Tree.{Tree}
use Rattle.f77_tree.specs.Execution.{Memory}
use Rattle.cfg_build.specs.declared.pieces.PieceKind.TheVariants as kind
use Rattle.cfg_build.specs.Flow.{flow}
use Rattle.cfg_build.specs.Joined.{finish}
use Rattle.cfg_build.specs.Passes.{Done, IfAlong, out, pass}
use Rattle.cfg_build.specs.Shape.{IsShaped, takes_one, leaves_one}
use Rattle.dep_routing.specs.Next.{Next}
use Rattle.dep_routing.specs.Place.{Place}
use Rattle.dep_routing.specs.Quiet.{IsFree}
use Rattle.net_board.specs.Nodes.{NetOf, graph_in, kind_in, is_acting}

-- a walk of no more edges than there are nodes leads from the one node to the other
pub record IsNearEnd (g : Graph) (node end : ℕ) : Type 0 where
  pub most : ℕ
  pub few : most ≤ g.nodes
  pub reached : reaches_within most g node end ≡ true

-- what is known of the flow graph alone
pub record GraphFacts (net : NetOf) : Type 0 where
  pub shape : IsShaped (flow net.program.execs) (finish net.program.execs)
  pub heads : (e : ℕ) → e < edge_count (graph_in net) → to (graph_in net) e < (graph_in net).nodes
  pub passes_on : (edge : ℕ) (m : Memory) → edge < edge_count (graph_in net) → IfAlong (pass net.program net.input edge m) (λ next new text. (next < edge_count (graph_in net)) × (from (graph_in net) next ≡ to (graph_in net) edge))
  pub ends : (edge : ℕ) (m : Memory) → edge < edge_count (graph_in net) → pass net.program net.input edge m ≡ Done → kind_in net (to (graph_in net) edge) ≡ kind.End
  -- where one edge leaves a piece, this is it
  pub one_out : (e : ℕ) → e < edge_count (graph_in net) → leaves_one (kind_in net (from (graph_in net) e)) ≡ true → e ≡ out (graph_in net) (from (graph_in net) e) 0
  -- from each piece few edges lead to the end
  pub few_pieces : (graph_in net).nodes ≤ 262144
  pub near_end : (node : ℕ) → node < (graph_in net).nodes → IsNearEnd (graph_in net) node (finish net.program.execs)

pub record FlowFacts (net : NetOf) (t : Tree) : Type 0 where
  -- places
  pub one_place : (line e f h : ℕ) → Place (graph_in net) t net.touches line e f → Place (graph_in net) t net.touches line e h → f ≡ h
  pub arrives : (line e : ℕ) → e < edge_count (graph_in net) → IsFree (graph_in net) t net.touches line (to (graph_in net) e) → Place (graph_in net) t net.touches line e e
  pub departs : (line d f : ℕ) → IsFree (graph_in net) t net.touches line (from (graph_in net) d) → Next (graph_in net) t net.touches line d f → Place (graph_in net) t net.touches line d f
  pub stays : (line e d f : ℕ) → e < edge_count (graph_in net) → d < edge_count (graph_in net) → from (graph_in net) d ≡ to (graph_in net) e → (IsFree (graph_in net) t net.touches line (to (graph_in net) e) → ⊥) → Place (graph_in net) t net.touches line e f → Place (graph_in net) t net.touches line d f
  -- free nodes
  pub start_free : (line : ℕ) → IsFree (graph_in net) t net.touches line 0
  pub touching : (node line : ℕ) → net.touches node line ≡ true → IsFree (graph_in net) t net.touches line node
  pub alone : (node line : ℕ) → node < (graph_in net).nodes → 0 ≢ node → takes_one (kind_in net node) ≡ true → leaves_one (kind_in net node) ≡ true → IsFree (graph_in net) t net.touches line node → net.touches node line ≡ true
  -- the pieces that touch lines are those that have a node for them
  pub touch_none : (node line : ℕ) → node < (graph_in net).nodes → is_acting (kind_in net node) ≡ false → net.touches node line ≡ false
  pub touch_some : (node : ℕ) → node < (graph_in net).nodes → is_acting (kind_in net node) ≡ true → (line : ℕ) × (line < net.routing.lines) × (net.touches node line ≡ true)
  pub graph : GraphFacts net
