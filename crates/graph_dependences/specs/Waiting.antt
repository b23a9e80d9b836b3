-- Whether one statement waits for another.
use Rattle.std.specs.Prelude.{◌≡◌, ℕ, zero, suc, Bool, true, false, ◌==◌, ◌&&◌, if◌then◌else◌, List, [], ◌∷◌, ◌++◌, length, None, Some, slice_get}
use Rattle.printed_graphs.specs.Nodes.{piece_of}
use Rattle.printed_graphs.specs.declared.dataflow.Node.{Node}
use Rattle.printed_graphs.specs.declared.dataflow.Operand.{Operand}
use Rattle.printed_graphs.specs.declared.dataflow.Operand.TheVariants as operand
use Rattle.printed_graphs.specs.declared.dataflow.PrintedGraph.{PrintedGraph}
use Rattle.printed_graphs.specs.declared.dataflow.Value.{Value}
use Rattle.printed_graphs.specs.declared.flow.PrintedFlow.{PrintedFlow}
use Rattle.graph_dependences.specs.Dependences.{steps_between}
use Rattle.graph_dependences.specs.Joined.{Leads}
use Rattle.graph_dependences.specs.Nodes.{is_operation, is_decision, is_switch, text_line}
use Rattle.graph_dependences.specs.Ways.{ways_of}
use Rattle.graph_dependences.specs.declared.ways.Carrier.TheVariants as carrier
use Rattle.graph_dependences.specs.declared.kinds.Passing.TheVariants as passing
use Rattle.graph_dependences.specs.declared.waiting.Wait.{Wait}
use Rattle.graph_dependences.specs.declared.waiting.Wait.TheVariants as wait
use Rattle.graph_dependences.specs.declared.ways.Way.{Way}

-- the ways of the first token lines
abbrev pub line_ways : PrintedGraph → PrintedFlow → (count : ℕ) → List Way
line_ways g flow zero = []
line_ways g flow (suc k) = line_ways g flow k ++ ways_of g flow k

-- the way of a value, or of a decision
abbrev pub step_to : (from to : ℕ) → Way
step_to from to = record { from = from; to = to; hop = None; carrier = carrier.Value }

-- from a decision to the switches of its piece, which stand after it; these nodes are numbered from k on
abbrev pub switch_ways : (from piece k : ℕ) → List Node → List Way
switch_ways from piece k [] = []
switch_ways from piece k (n ∷ ns) = if piece_of n == piece then (if is_switch n then step_to from k ∷ [] else []) ++ switch_ways from piece (suc k) ns else []

abbrev pub decision_ways : (k : ℕ) → List Node → List Way
decision_ways k [] = []
decision_ways k (n ∷ ns) = (if is_decision n then switch_ways k (piece_of n) (suc k) ns else []) ++ decision_ways (suc k) ns

-- from operands to the operation that takes them
abbrev pub operand_ways : (to : ℕ) → List Operand → List Way
operand_ways to [] = []
operand_ways to (operand.From from ∷ os) = step_to from to ∷ operand_ways to os
operand_ways to (operand.Known z ∷ os) = operand_ways to os

abbrev pub value_ways : List Value → List Way
value_ways [] = []
value_ways (v ∷ vs) = operand_ways v.node v.operands.items ++ value_ways vs

abbrev pub all_ways : PrintedGraph → PrintedFlow → List Way
all_ways g flow = line_ways g flow (length g.lines.items) ++ (decision_ways 0 g.nodes.items ++ value_ways g.values.items)

-- the node is an operation of the statement at this line of the text
abbrev pub is_of : PrintedFlow → (line : ℕ) → Node → Bool
is_of flow line n = is_operation n && (text_line flow n == line)

-- The operation with the second number, of the statement at the one line, waits for that with the first number, of the statement at the other, over a
-- turn or over none.
pub record WaitsAt (g : PrintedGraph) (flow : PrintedFlow) (one_line two_line : ℕ) (turned : Bool) (first second : ℕ) : Type 0 where
  pub one : Node
  pub two : Node
  pub is_one : slice_get g.nodes.items first ≡ Some one
  pub is_two : slice_get g.nodes.items second ≡ Some two
  pub of_first : is_of flow one_line one ≡ true
  pub of_second : is_of flow two_line two ≡ true
  pub leads : Leads g passing.All 0 (steps_between one two (all_ways g flow)) first second turned

-- some operation of the one statement waits for this one of the other, and for some of it
abbrev pub WaitsOn : PrintedGraph → PrintedFlow → (one_line two_line : ℕ) → (turned : Bool) → (first : ℕ) → Type 0
WaitsOn g flow one_line two_line turned first = (second : ℕ) × WaitsAt g flow one_line two_line turned first second

abbrev pub WaitsFor : PrintedGraph → PrintedFlow → (one_line two_line : ℕ) → (turned : Bool) → Type 0
WaitsFor g flow one_line two_line turned = (first : ℕ) × WaitsOn g flow one_line two_line turned first

abbrev pub Waits : PrintedGraph → PrintedFlow → (one_line two_line : ℕ) → Wait → Type 0
Waits g flow one_line two_line wait.Never = (WaitsFor g flow one_line two_line false → ⊥) × (WaitsFor g flow one_line two_line true → ⊥)
Waits g flow one_line two_line wait.Carried = (WaitsFor g flow one_line two_line false → ⊥) × WaitsFor g flow one_line two_line true
Waits g flow one_line two_line wait.Always = WaitsFor g flow one_line two_line false
