-- Ways of token lines, joined at the nodes that they lead past.
use Rattle.std.specs.Prelude.{ℕ, suc, ◌+◌, ◌*◌, Bool, true, false, ◌&&◌, nat_le, if◌then◌else◌, List, [], ◌∷◌, ◌++◌, map, length, Option, Some, None}
use Rattle.closed_walks.specs.Graph.{Graph}
use Rattle.closed_walks.specs.Walk.{Reach, no_edge}
use Rattle.printed_graphs.specs.declared.dataflow.Node.{Node}
use Rattle.printed_graphs.specs.declared.dataflow.PrintedGraph.{PrintedGraph}
use Rattle.graph_dependences.specs.Nodes.{lets_pass}
use Rattle.graph_dependences.specs.declared.joined.Step.{Step}
use Rattle.graph_dependences.specs.declared.kinds.Passing.{Passing}
use Rattle.graph_dependences.specs.declared.ways.Carrier.{Carrier}
use Rattle.graph_dependences.specs.declared.ways.Carrier.TheVariants as carrier
use Rattle.graph_dependences.specs.declared.ways.Hop.{Hop}
use Rattle.graph_dependences.specs.declared.ways.Way.{Way}

-- The way goes round a loop that has all pieces from one to another: its edge leads from a piece that comes no earlier in the text than the last of
-- them, to one that comes no later than the first.
abbrev pub hop_turns : (first last : ℕ) → Option Hop → Bool
hop_turns first last None = false
hop_turns first last (Some hop) = nat_le hop.ends first && nat_le last hop.begins

abbrev pub step_of : (first last : ℕ) → Way → Step
step_of first last way = record { from = way.from; to = way.to; turns = hop_turns first last way.hop; carrier = way.carrier }

abbrev pub steps_of : (first last : ℕ) → List Way → List Step
steps_of first last ways = map (step_of first last) ways

-- Each node stands six times in the graph: as lines come to it, as it has fired, and as lines go on from it, before a turn and after one.
abbrev pub coming : (node : ℕ) → (turned : Bool) → ℕ
coming node turned = node * 6 + (if turned then 1 else 0)

abbrev pub fired : (node : ℕ) → (turned : Bool) → ℕ
fired node turned = node * 6 + (if turned then 3 else 2)

abbrev pub leaving : (node : ℕ) → (turned : Bool) → ℕ
leaving node turned = node * 6 + (if turned then 5 else 4)

-- from one place to another, before the step turns or after a turn
abbrev pub edges_between : (from to : ℕ → Bool → ℕ) → Step → List (ℕ × ℕ)
edges_between from to s = (from s.from false, to s.to s.turns) ∷ (from s.from true, to s.to true) ∷ []

-- A line goes on to a node, and a value to one that takes it. What comes to a LOAD comes to the next one too, which doesn't wait for it, and what waits
-- for a LOAD of a line stands behind the next one as well.
abbrev pub edges_by : Carrier → Step → List (ℕ × ℕ)
edges_by carrier.Line s = edges_between leaving coming s
edges_by carrier.Value s = edges_between fired coming s
edges_by carrier.Loads s = edges_between coming coming s ++ edges_between leaving leaving s

abbrev pub step_edges : List Step → List (ℕ × ℕ)
step_edges [] = []
step_edges (s ∷ ss) = edges_by s.carrier s ++ step_edges ss

-- past a node
abbrev pub node_edges : (passes : Bool) → (k : ℕ) → List (ℕ × ℕ)
node_edges passes k =
    (fired k false, leaving k false) ∷ (fired k true, leaving k true)
    ∷ (if passes then (coming k false, fired k false) ∷ (coming k true, fired k true) ∷ [] else [])

-- past nodes, numbered from k on
abbrev pub passing_edges : Passing → (line k : ℕ) → List Node → List (ℕ × ℕ)
passing_edges passing line k [] = []
passing_edges passing line k (n ∷ ns) = node_edges (lets_pass passing line n) k ++ passing_edges passing line (suc k) ns

abbrev pub joined_edges : PrintedGraph → Passing → (line : ℕ) → List Step → List (ℕ × ℕ)
joined_edges g passing line steps = step_edges steps ++ passing_edges passing line 0 g.nodes.items

abbrev pub joined : PrintedGraph → Passing → (line : ℕ) → List Step → Graph
joined g passing line steps = record { nodes = length g.nodes.items * 6; edges = joined_edges g passing line steps }

-- steps lead from one node to another past such nodes alone, over a turn or over none
abbrev pub Leads : PrintedGraph → Passing → (line : ℕ) → List Step → (from to : ℕ) → (turned : Bool) → Type 0
Leads g passing line steps from to turned = Reach (joined g passing line steps) no_edge (fired from false) (coming to turned)
