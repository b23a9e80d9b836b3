-- The rounds of a run.
use Rattle.std.specs.Prelude.{◌≡◌, ◌<◌, ℕ, suc, ◌+◌, ◌-◌, ◌^◌, List, [], ◌∷◌, length, min, option_map, slice_get, slice_index_or, Some}
use Rattle.printed_graphs.specs.declared.dataflow.Node.{Node}
use Rattle.printed_graphs.specs.declared.dataflow.Node.TheVariants as node
use Rattle.printed_graphs.specs.declared.dataflow.PrintedGraph.{PrintedGraph}
use Rattle.printed_graphs.specs.declared.trace.Firing.{Firing}
use Rattle.printed_graphs.specs.declared.trace.NodeName.{NodeName}
use Rattle.printed_graphs.specs.declared.trace.NodeName.TheVariants as name
use Rattle.trace_profiles.specs.Rounds.{Round, next_round, round_of}
use Rattle.trace_profiles.specs.declared.loads.Loads.{Loads}

-- the rounds of firings after others, of which the newest stands first
abbrev pub rounds_from : PrintedGraph → Loads → List Round → List Firing → List ℕ
rounds_from g order rs [] = []
rounds_from g order rs (f ∷ fs) = let round = next_round g order rs f.node in round ∷ rounds_from g order (round_of f.node round ∷ rs) fs

abbrev pub name_of : Node → NodeName
name_of (node.Operation piece number work lines) = name.Operation piece number
name_of (node.Switch piece line) = name.Switch piece line
name_of (node.Merge piece line) = name.Merge piece line

-- the graph has the node that fired, under its name
abbrev pub Fires : List Node → Firing → Type 0
Fires nodes f = option_map name_of (slice_get nodes f.node) ≡ Some f.name

-- This is the line of the first firing of a node that the graph doesn't have, where so many lines stand before the firings.
pub record TellsFiring (nodes : List Node) (firings : List Firing) (before line : ℕ) : Type 0 where
  pub place : ℕ
  pub inside : place < length firings
  pub earlier : (k : ℕ) (d : Firing) → k < place → Fires nodes (slice_index_or firings k d)
  pub is_none : (d : Firing) → Fires nodes (slice_index_or firings place d) → ⊥
  pub line_is : line ≡ min (before + suc place) (2 ^ 64 - 1)
