-- Where token lines go from nodes, as it is looked up.
use Rattle.std.specs.Prelude.{◌≡◌, ◌<◌, ◌+◌, ℕ, true, false, suc, List, Option, Some, None, slice_get}
use Rattle.closed_walks.specs.Graph.{edge_count}
use Rattle.cfg_build.specs.Passes.{out}
use Rattle.dep_routing.specs.Routing.{next_at}
use Rattle.firing.specs.declared.system.NodeName.{NodeName}
use Rattle.firing.specs.declared.system.NodeName.TheVariants.{Op}
use Rattle.net_board.specs.Nodes.{graph_in}
use Rattle.op_board.specs.OperationNets.{OperationNet, first_operation, is_last_at, operation_at, operation_node}
use Rattle.operation_tables.specs.OperationRows.{IsNextNeed}
use Rattle.operation_tables.specs.Waits.{IsNodeBefore}
use Rattle.fork_board.specs.LoadGroups.{is_load, load_at, site, spot}
use Rattle.read_forks.specs.declared.steps.Link.{Link}
use Rattle.read_forks.specs.declared.ways.Way.{Way}
use Rattle.read_forks.specs.declared.ways.Way.TheVariants.{Before, Behind, Here, Out, Over}

abbrev pub IsLinkOf : Option Link → (line k : ℕ) → Type 0
IsLinkOf None line k = ⊥
IsLinkOf (Some link) line k = (link.line ≡ line) × (link.node ≡ k)

-- the link with this number is that of this node for the line
abbrev pub IsLinkAt : List Link → (n line k : ℕ) → Type 0
IsLinkAt links n line k = IsLinkOf (slice_get links n) line k

-- where a line is led from the piece of a load
abbrev pub led_from_load : OperationNet → (line piece : ℕ) → ℕ
led_from_load x line piece = next_at x.net.routing line (out (graph_in x.net) piece 0)

-- the next operation of the piece that needs the line is a load, and this is its link
pub record IsHere (x : OperationNet) (links : List Link) (piece i line n next : ℕ) : Type 0 where
  pub follows : IsNextNeed x piece i line next
  pub loads : is_load (operation_at x piece next).work ≡ true
  pub link : IsLinkAt links n line (first_operation x piece + next)

-- it is this node, and no load
pub record IsNodeHere (x : OperationNet) (piece i line node next : ℕ) : Type 0 where
  pub follows : IsNextNeed x piece i line next
  pub loads : is_load (operation_at x piece next).work ≡ false
  pub is_node : node ≡ first_operation x piece + next

-- the line leaves the piece, and comes on this edge before a load, whose link this is
pub record IsOver (x : OperationNet) (links : List Link) (piece i line n edge other number : ℕ) : Type 0 where
  pub last : is_last_at x piece i line ≡ true
  pub led : edge ≡ led_from_load x line piece
  pub exists : edge < edge_count (graph_in x.net)
  pub loads : load_at x line (spot edge 0) ≡ Some (site other number)
  pub link : IsLinkAt links n line (first_operation x other + number)

-- it comes before this node, which is no load
pub record IsBehind (x : OperationNet) (piece i line edge node : ℕ) : Type 0 where
  pub last : is_last_at x piece i line ≡ true
  pub led : edge ≡ led_from_load x line piece
  pub exists : edge < edge_count (graph_in x.net)
  pub loads : load_at x line (spot edge 0) ≡ None
  pub before : IsNodeBefore x line (Some edge) 0 node

pub record IsOut (x : OperationNet) (piece i line : ℕ) : Type 0 where
  pub last : is_last_at x piece i line ≡ true
  pub loads : is_load (operation_at x piece i).work ≡ false

abbrev pub IsWay : OperationNet → List Link → (piece i line : ℕ) → Way → Type 0
IsWay x links piece i line (Here n) = (next : ℕ) × IsHere x links piece i line n next
IsWay x links piece i line (Before node) = (next : ℕ) × IsNodeHere x piece i line node next
IsWay x links piece i line (Over n edge) = (other : ℕ) × ((number : ℕ) × IsOver x links piece i line n edge other number)
IsWay x links piece i line (Behind edge node) = IsBehind x piece i line edge node
IsWay x links piece i line Out = IsOut x piece i line

-- the lines of switches and merges leave the piece
abbrev pub IsWayOf : OperationNet → List Link → NodeName → (line : ℕ) → Way → Type 0
IsWayOf x links (Op piece i) line way = IsWay x links piece i line way
IsWayOf x links _ line way = way ≡ Out

abbrev pub AreWays : OperationNet → List Link → Type 0
AreWays x links = (n : ℕ) (link : Link) → slice_get links n ≡ Some link → IsWayOf x links (operation_node x link.node) link.line link.way

-- ---- after a load

-- the link of the next load, if there is one
abbrev pub link_after : Way → Option ℕ
link_after (Here n) = Some n
link_after (Over n edge) = Some n
link_after (Before node) = None
link_after (Behind edge node) = None
link_after Out = None

-- on which edge the line stands, and what it has passed there
abbrev pub edge_after : Way → (edge : ℕ) → ℕ
edge_after (Here n) edge = edge
edge_after (Over n led) edge = led
edge_after (Before node) edge = edge
edge_after (Behind led node) edge = led
edge_after Out edge = edge

abbrev pub passed_after : Way → (passed : ℕ) → ℕ
passed_after (Here n) passed = suc passed
passed_after (Over n led) passed = 0
passed_after (Before node) passed = suc passed
passed_after (Behind led node) passed = 0
passed_after Out passed = passed

-- before which node it stands, if that is no load
abbrev pub node_after : Way → (node : ℕ) → ℕ
node_after (Here n) node = node
node_after (Over n led) node = node
node_after (Before next) node = next
node_after (Behind led next) node = next
node_after Out node = node
