-- The earliest round in which each firing of a trace could have come.
use Rattle.std.specs.Prelude.{ℕ, suc, ◌-◌, ◌^◌, ◌==◌, ◌&&◌, Bool, true, false, if◌then◌else◌, List, [], ◌∷◌, length, map, min, max, nat_lt, slice_get, slice_index, Option, Some, None}
use Rattle.std.specs.List.{list_any}
use Rattle.printed_graphs.specs.declared.dataflow.Node.{Node}
use Rattle.printed_graphs.specs.declared.dataflow.Node.TheVariants as node
use Rattle.printed_graphs.specs.declared.dataflow.Operand.{Operand}
use Rattle.printed_graphs.specs.declared.dataflow.Operand.TheVariants as operand
use Rattle.printed_graphs.specs.declared.dataflow.PrintedGraph.{PrintedGraph}
use Rattle.printed_graphs.specs.declared.dataflow.Value.{Value}
use Rattle.printed_graphs.specs.declared.dataflow.Work.{Work}
use Rattle.printed_graphs.specs.declared.dataflow.Work.TheVariants as work
use Rattle.printed_graphs.specs.Nodes.{piece_of}
use Rattle.trace_profiles.specs.declared.loads.Loads.{Loads}
use Rattle.trace_profiles.specs.declared.loads.Loads.TheVariants as loads

-- ---- firings and their rounds, the newest first

-- a firing of a node, and its round; rounds are counted from 1
pub record Round : Type 0 where
  pub node : ℕ
  pub round : ℕ

abbrev pub round_of : (node round : ℕ) → Round
round_of node round = record { node = node; round = round }

-- the round of the newest firing of such a node, or 0
abbrev pub last_round : (is : ℕ → Bool) → List Round → ℕ
last_round is [] = 0
last_round is (r ∷ rs) = if is r.node then r.round else last_round is rs

-- the greatest round of a firing of such a node, or 0
abbrev pub latest_round : (is : ℕ → Bool) → List Round → ℕ
latest_round is [] = 0
latest_round is (r ∷ rs) = if is r.node then max (latest_round is rs) r.round else latest_round is rs

abbrev pub greatest : List ℕ → ℕ
greatest [] = 0
greatest (n ∷ ns) = max n (greatest ns)

-- ---- nodes of a graph

-- the token lines that a node takes
abbrev pub lines_of : Option Node → List ℕ
lines_of None = []
lines_of (Some (node.Operation piece number work lines)) = lines.items
lines_of (Some (node.Switch piece line)) = line ∷ []
lines_of (Some (node.Merge piece line)) = line ∷ []

abbrev pub is_operation : Option Node → Bool
is_operation (Some (node.Operation piece number work lines)) = true
is_operation _ = false

abbrev pub is_decide : Work → Bool
is_decide work.Decide = true
is_decide _ = false

-- it tells the edge by which control leaves
abbrev pub is_decision : Option Node → Bool
is_decision (Some (node.Operation piece number work lines)) = is_decide work
is_decision _ = false

-- a load of those that fire in any order
abbrev pub is_free : Loads → Work → Bool
is_free loads.InAnyOrder work.Load = true
is_free _ _ = false

abbrev pub is_free_node : Loads → Option Node → Bool
is_free_node order (Some (node.Operation piece number work lines)) = is_free order work
is_free_node order _ = false

abbrev pub is_switch : Option Node → Bool
is_switch (Some (node.Switch piece line)) = true
is_switch _ = false

-- The nodes of a piece stand side by side: they are a run of nodes. These are the numbers of the runs, counted from 0.
abbrev pub run_after : (last : Option ℕ) → (number piece : ℕ) → ℕ
run_after None number piece = number
run_after (Some last) number piece = if last == piece then number else suc number

abbrev pub runs_from : (last : Option ℕ) → (number : ℕ) → List Node → List ℕ
runs_from last number [] = []
runs_from last number (n ∷ ns) = run_after last number (piece_of n) ∷ runs_from (Some (piece_of n)) (run_after last number (piece_of n)) ns

abbrev pub run_of : PrintedGraph → (node : ℕ) → ℕ
run_of g k = slice_index (runs_from None 0 g.nodes.items) k

-- the operands of a node: those of the last line that tells some of it
abbrev pub operands_in : List Value → (node : ℕ) → List Operand → List Operand
operands_in [] k found = found
operands_in (v ∷ vs) k found = operands_in vs k (if v.node == k then v.operands.items else found)

abbrev pub operands_of : PrintedGraph → (node : ℕ) → List Operand
operands_of g k = if is_operation (slice_get g.nodes.items k) then operands_in g.values.items k [] else []

abbrev pub is_value_of : (giver : ℕ) → Operand → Bool
is_value_of giver (operand.From k) = k == giver
is_value_of giver (operand.Known z) = false

-- ---- what a firing of a node does

-- it moves the line of the graph
abbrev pub moves : PrintedGraph → (line node : ℕ) → Bool
moves g line k = nat_lt line (length g.lines.items) && list_any (λ l. l == line) (lines_of (slice_get g.nodes.items k))

-- It moves the line, and a node that is free waits for that: such a node doesn't wait for others that are.
abbrev pub holds_up : PrintedGraph → Loads → (free : Bool) → (line node : ℕ) → Bool
holds_up g order free line k = if free && is_free_node order (slice_get g.nodes.items k) then false else moves g line k

-- it takes the value of a node of the graph, and so empties its place
abbrev pub takes : PrintedGraph → (giver node : ℕ) → Bool
takes g giver k = nat_lt giver (length g.nodes.items) && list_any (is_value_of giver) (operands_of g k)

-- it is of this node of the graph, which is an operation
abbrev pub gives : PrintedGraph → (giver node : ℕ) → Bool
gives g giver k = nat_lt giver (length g.nodes.items) && (is_operation (slice_get g.nodes.items k) && (k == giver))

-- it decides by which edge control leaves the piece, or leads a line along that edge
abbrev pub decides : PrintedGraph → (run node : ℕ) → Bool
decides g run k = nat_lt run (length g.nodes.items) && (is_decision (slice_get g.nodes.items k) && (run_of g k == run))

abbrev pub switches : PrintedGraph → (run node : ℕ) → Bool
switches g run k = nat_lt run (length g.nodes.items) && (is_switch (slice_get g.nodes.items k) && (run_of g k == run))

-- ---- the round of a firing

-- the latest firings that moved lines, for a node that waits for them
abbrev pub newest_moves : PrintedGraph → Loads → List Round → (free : Bool) → List ℕ → ℕ
newest_moves g order rs free lines = greatest (map (λ line. latest_round (holds_up g order free line) rs) lines)

-- the last firing that gave an operand
abbrev pub given_round : PrintedGraph → List Round → Operand → ℕ
given_round g rs (operand.From giver) = last_round (gives g giver) rs
given_round g rs (operand.Known z) = 0

-- the latest of the firings for which one of a node waits
abbrev pub waits_by : PrintedGraph → Loads → List Round → (k : ℕ) → Option Node → ℕ
waits_by g order rs k None = 0
waits_by g order rs k (Some (node.Operation piece number work lines)) =
    max (max (max (last_round (takes g k) rs) (newest_moves g order rs (is_free order work) lines.items)) (greatest (map (given_round g rs) (operands_of g k))))
    (if is_decide work then latest_round (switches g (run_of g k)) rs else 0)
waits_by g order rs k (Some (node.Switch piece line)) = max (latest_round (moves g line) rs) (last_round (decides g (run_of g k)) rs)
waits_by g order rs k (Some (node.Merge piece line)) = latest_round (moves g line) rs

-- A firing comes a round after them. Rounds that are too many for 32 bits count as the last one.
abbrev pub next_round : PrintedGraph → Loads → List Round → (k : ℕ) → ℕ
next_round g order rs k = min (suc (waits_by g order rs k (slice_get g.nodes.items k))) (2 ^ 32 - 1)
