-- A line that was opened for the loads of a group, from the first one on.
use Rattle.std.specs.Prelude.{◌≡◌, ◌<◌, ℕ, Bool, true, false, List, length, Option, Some, None, slice_get}
use Rattle.firing.specs.declared.system.NodeName.{NodeName}
use Rattle.firing.specs.declared.system.NodeName.TheVariants.{Act, Merge, Op, Switch}
use Rattle.op_board.specs.OperationNets.{OperationNet, operation_node}
use Rattle.fork_board.specs.LoadGroups.{Site, Spot, is_among, is_site, load_at}
use Rattle.read_forks.specs.LoadChanges.{Loaded}
use Rattle.read_forks.specs.RisingLinks.{line_at}
use Rattle.read_forks.specs.declared.steps.Link.{Link}

abbrev pub node_in : Option Link → ℕ
node_in None = 0
node_in (Some link) = link.node

-- the node of the link with this number
abbrev pub node_at : List Link → (n : ℕ) → ℕ
node_at links n = node_in (slice_get links n)

abbrev pub is_open_in : Option Link → Bool
is_open_in None = false
is_open_in (Some link) = link.open

-- there is a load, and the node is this one
abbrev pub is_load_of : NodeName → Option Site → Bool
is_load_of (Op piece number) (Some load) = is_site piece number load
is_load_of (Op piece number) None = false
is_load_of (Switch piece line) load = false
is_load_of (Merge piece line) load = false
is_load_of (Act piece) load = false

-- there the line stands before a load, whose link this is
pub record StandsAt (x : OperationNet) (links : List Link) (line n : ℕ) (s : Spot) : Type 0 where
  pub inside : n < length links
  pub same : line_at links n ≡ line
  pub load : is_load_of (operation_node x (node_at links n)) (load_at x line s) ≡ true

-- the line is open for these loads alone, and others are as before
pub record IsOpenedFor (line : ℕ) (loads : List Site) (old new : Loaded) : Type 0 where
  pub here : (piece number : ℕ) → new line piece number ≡ is_among loads piece number
  pub others : (l piece number : ℕ) → (l ≡ line → ⊥) → new l piece number ≡ old l piece number
