-- Tables of the last rounds, by what firings did.
use Rattle.std.specs.Prelude.{◌≡◌, ◌<◌, ℕ, zero, suc, ◌==◌, ◌&&◌, Bool, true, if◌then◌else◌, List, [], length, map, max, nat_lt, slice_get, slice_index, Option, Some, None}
use Rattle.std.specs.List.{list_any}
use Rattle.printed_graphs.specs.declared.dataflow.Operand.{Operand}
use Rattle.printed_graphs.specs.declared.dataflow.PrintedGraph.{PrintedGraph}
use Rattle.printed_graphs.specs.declared.dataflow.Value.{Value}
use Rattle.printed_graphs.specs.declared.dataflow.Operand.TheVariants as operand
use Rattle.trace_profiles.specs.Rounds.{Round, holds_up, is_value_of, last_round, latest_round, moves, takes, gives, decides, switches, operands_in, runs_from}
use Rattle.trace_profiles.specs.declared.rounds.Rounds.{Rounds}

-- the rounds of the last firings that did this to each
abbrev pub IsTable : List ℕ → (test : ℕ → ℕ → Bool) → List Round → Type 0
IsTable numbers test rs = (i : ℕ) → slice_index numbers i ≡ last_round (test i) rs

-- the rounds of the latest firings that did this to each
abbrev pub IsLatest : List ℕ → (test : ℕ → ℕ → Bool) → List Round → Type 0
IsLatest numbers test rs = (i : ℕ) → slice_index numbers i ≡ latest_round (test i) rs

-- the number stands at those that are marked, and elsewhere what stood there
abbrev pub IsMarked : (old new : List ℕ) → (marked : ℕ → Bool) → (n : ℕ) → Type 0
IsMarked old new marked n = (i : ℕ) → slice_index new i ≡ (if nat_lt i (length old) && marked i then n else slice_index old i)

abbrev pub is_line : List ℕ → (i : ℕ) → Bool
is_line lines i = list_any (λ l. l == i) lines

abbrev pub is_giver : List Operand → (i : ℕ) → Bool
is_giver operands i = list_any (is_value_of i) operands

-- what stands there for lines, and for the givers of operands
abbrev pub rounds_at : List ℕ → (places : List ℕ) → List ℕ
rounds_at numbers places = map (slice_index numbers) places

abbrev pub given_in : List ℕ → Operand → ℕ
given_in numbers (operand.From giver) = slice_index numbers giver
given_in numbers (operand.Known z) = 0

abbrev pub operands_in_value : Option Value → List Operand
operands_in_value None = []
operands_in_value (Some value) = value.operands.items

-- the operands of the value with this place in the list, counted from 1
abbrev pub operands_by : (place : ℕ) → List Value → List Operand
operands_by zero values = []
operands_by (suc k) values = operands_in_value (slice_get values k)

-- Where the operands of each node stand, and its run.
pub record KnowsNodes (g : PrintedGraph) (places run_numbers : List ℕ) : Type 0 where
  pub operands : (k : ℕ) → k < length g.nodes.items → operands_by (slice_index places k) g.values.items ≡ operands_in g.values.items k []
  pub runs : run_numbers ≡ runs_from None 0 g.nodes.items

-- The tables tell these firings.
pub record Tells (r : Rounds) (rs : List Round) : Type 0 where
  pub knows : KnowsNodes r.graph.now r.operands.items r.runs.items
  pub count_lines : length r.moved.items ≡ length r.graph.now.lines.items
  pub count_settled : length r.settled.items ≡ length r.graph.now.lines.items
  pub count_fired : length r.fired.items ≡ length r.graph.now.nodes.items
  pub count_emptied : length r.emptied.items ≡ length r.graph.now.nodes.items
  pub count_decided : length r.decided.items ≡ length r.graph.now.nodes.items
  pub count_switched : length r.switched.items ≡ length r.graph.now.nodes.items
  pub moved : IsLatest r.moved.items (moves r.graph.now) rs
  pub settled : IsLatest r.settled.items (holds_up r.graph.now r.loads true) rs
  pub fired : IsTable r.fired.items (gives r.graph.now) rs
  pub emptied : IsTable r.emptied.items (takes r.graph.now) rs
  pub decided : IsTable r.decided.items (decides r.graph.now) rs
  pub switched : IsLatest r.switched.items (switches r.graph.now) rs

-- a number is raised where it stands
abbrev pub IsRaised : (old new : List ℕ) → (marked : ℕ → Bool) → (n : ℕ) → Type 0
IsRaised old new marked n = (i : ℕ) → slice_index new i ≡ (if nat_lt i (length old) && marked i then max (slice_index old i) n else slice_index old i)
