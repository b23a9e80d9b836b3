-- The firings for which a firing waits, by the tables.
use Rattle.std.proofs.Common.{◌≡◌, ℕ, ◌<◌, if◌then◌else◌, Bool, true, false, List, [], length, map, max, get_or, Option, Some, slice_get, slice_index, refl, ap, sym, ◌∙◌}
use mathlib.Core.Path.{fun_ext}
use Rattle.std.proofs.lemmas.Option.{slice_get-get_or}
use Rattle.printed_graphs.specs.declared.dataflow.Node.{Node}
use Rattle.printed_graphs.specs.declared.dataflow.Node.TheVariants as node
use Rattle.printed_graphs.specs.declared.dataflow.Operand.{Operand}
use Rattle.printed_graphs.specs.declared.dataflow.Operand.TheVariants as operand
use Rattle.printed_graphs.specs.declared.dataflow.PrintedGraph.{PrintedGraph}
use Rattle.printed_graphs.specs.declared.dataflow.Work.{Work}
use Rattle.trace_profiles.specs.declared.rounds.Rounds.{Rounds}
use Rattle.trace_profiles.specs.Rounds.{Round, decides, gives, given_round, greatest, holds_up, is_decide, is_free, is_operation, last_round, latest_round, moves, newest_moves, operands_in, operands_of, run_of, switches, takes, waits_by}
use Rattle.trace_profiles.specs.Tables.{IsTable, Tells, given_in, operands_by, rounds_at}

-- the node at a place
pub node_there : (nodes : List Node) (k : ℕ) (found n : Node) → k < length nodes → found ≡ get_or nodes k found → found ≡ n → slice_get nodes k ≡ Some n
node_there nodes k found n lt at is = slice_get-get_or nodes k found lt ∙ ap Some (sym at ∙ is)

pub merge_waits : (r : Rounds) (rs : List Round) (k piece line result : ℕ) → Tells r rs → slice_get r.graph.now.nodes.items k ≡ Some (node.Merge piece line) → result ≡ slice_index r.moved.items line → result ≡ waits_by r.graph.now r.loads rs k (slice_get r.graph.now.nodes.items k)
merge_waits r rs k piece line result t there is = is ∙ t.moved line ∙ ap (waits_by r.graph.now r.loads rs k) (sym there)

run_same : (r : Rounds) (rs : List Round) (k run : ℕ) → Tells r rs → run ≡ slice_index r.runs.items k → run ≡ run_of r.graph.now k
run_same r rs k run t is = is ∙ ap (λ (runs : List ℕ). slice_index runs k) t.knows.runs

pub switch_waits : (r : Rounds) (rs : List Round) (k piece line run moved decided result : ℕ) → Tells r rs → slice_get r.graph.now.nodes.items k ≡ Some (node.Switch piece line) → run ≡ slice_index r.runs.items k → moved ≡ slice_index r.moved.items line → decided ≡ slice_index r.decided.items run → result ≡ max moved decided → result ≡ waits_by r.graph.now r.loads rs k (slice_get r.graph.now.nodes.items k)
switch_waits r rs k piece line run moved decided result t there at one two is =
    let g = r.graph.now in
    let last : decided ≡ last_round (decides g (run_of g k)) rs = two ∙ t.decided run ∙ ap (λ n. last_round (decides g n) rs) (run_same r rs k run t at) in
    is ∙ ap (λ n. max n decided) (one ∙ t.moved line) ∙ ap (max (latest_round (moves g line) rs)) last ∙ ap (waits_by g r.loads rs k) (sym there)

given_same : (g : PrintedGraph) (fired : List ℕ) (rs : List Round) (o : Operand) → IsTable fired (gives g) rs → given_in fired o ≡ given_round g rs o
given_same g fired rs (operand.From giver) table = table giver
given_same g fired rs (operand.Known z) table = refl

-- the operands of an operation
pub own_operands : (r : Rounds) (rs : List Round) (k piece number : ℕ) (work : Work) (lines : _) (operands : List Operand) → Tells r rs → k < length r.graph.now.nodes.items → slice_get r.graph.now.nodes.items k ≡ Some (node.Operation piece number work lines) → operands ≡ operands_by (slice_index r.operands.items k) r.graph.now.values.items → operands ≡ operands_of r.graph.now k
own_operands r rs k piece number work lines operands t lt there is =
    is ∙ t.knows.operands k lt ∙ ap (λ (n : Option Node). if is_operation n then operands_in r.graph.now.values.items k [] else []) (sym there)

pub switched_round : (r : Rounds) (rs : List Round) (k result : ℕ) (work : Work) → Tells r rs → result ≡ (if is_decide work then slice_index r.switched.items (slice_index r.runs.items k) else 0) → result ≡ (if is_decide work then latest_round (switches r.graph.now (run_of r.graph.now k)) rs else 0)
switched_round r rs k result work t is =
    let g = r.graph.now in
    let run = slice_index r.runs.items k in
    is ∙ ap (λ n. if is_decide work then n else 0) (t.switched run ∙ ap (λ n. latest_round (switches g n) rs) (run_same r rs k run t refl))

-- the latest firings on lines, for a node that is free and for one that isn't
abbrev pub moved_by : Rounds → (free : Bool) → List ℕ
moved_by r free = if free then r.settled.items else r.moved.items

moved_same : (r : Rounds) (rs : List Round) (free : Bool) → Tells r rs → (line : ℕ) → slice_index (moved_by r free) line ≡ latest_round (holds_up r.graph.now r.loads free line) rs
moved_same r rs true t line = t.settled line
moved_same r rs false t line = t.moved line

-- how a firing of an operation is told from what it waits for
pub record OperationRounds (r : Rounds) (k : ℕ) (work : Work) (lines : List ℕ) (operands : List Operand) (moved given emptied switched result : ℕ) : Type 0 where
  pub moved_is : moved ≡ greatest (rounds_at (moved_by r (is_free r.loads work)) lines)
  pub given_is : given ≡ greatest (map (given_in r.fired.items) operands)
  pub emptied_is : emptied ≡ slice_index r.emptied.items k
  pub switched_is : switched ≡ (if is_decide work then slice_index r.switched.items (slice_index r.runs.items k) else 0)
  pub result_is : result ≡ max (max (max emptied moved) given) switched

pub operation_waits : (r : Rounds) (rs : List Round) (k piece number : ℕ) (work : Work) (lines : _) (operands : List Operand) (moved given emptied switched result : ℕ) → Tells r rs → k < length r.graph.now.nodes.items → slice_get r.graph.now.nodes.items k ≡ Some (node.Operation piece number work lines) → operands ≡ operands_by (slice_index r.operands.items k) r.graph.now.values.items → OperationRounds r k work lines.items operands moved given emptied switched result → result ≡ waits_by r.graph.now r.loads rs k (slice_get r.graph.now.nodes.items k)
operation_waits r rs k piece number work lines operands moved given emptied switched result t lt there has told =
    let g = r.graph.now in
    let own = own_operands r rs k piece number work lines operands t lt there has in
    let free = is_free r.loads work in
    let last_moved : moved ≡ newest_moves g r.loads rs free lines.items = told.moved_is ∙ ap (λ (f : ℕ → ℕ). greatest (map f lines.items)) (fun_ext (moved_same r rs free t)) in
    let last_given : given ≡ greatest (map (given_round g rs) (operands_of g k)) = told.given_is ∙ ap (λ (f : Operand → ℕ). greatest (map f operands)) (fun_ext (λ o. given_same g r.fired.items rs o t.fired)) ∙ ap (λ os. greatest (map (given_round g rs) os)) own in
    let last_emptied : emptied ≡ last_round (takes g k) rs = told.emptied_is ∙ t.emptied k in
    told.result_is
    ∙ ap (λ n. max (max (max n moved) given) switched) last_emptied
    ∙ ap (λ n. max (max (max (last_round (takes g k) rs) n) given) switched) last_moved
    ∙ ap (λ n. max (max (max (last_round (takes g k) rs) (newest_moves g r.loads rs free lines.items)) n) switched) last_given
    ∙ ap (λ n. max (max (max (last_round (takes g k) rs) (newest_moves g r.loads rs free lines.items)) (greatest (map (given_round g rs) (operands_of g k)))) n) (switched_round r rs k switched work t told.switched_is)
    ∙ ap (waits_by g r.loads rs k) (sym there)
