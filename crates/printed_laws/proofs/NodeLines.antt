-- The lines of nodes, as both sides write them.
use Rattle.std.proofs.Common.{◌≡◌, ℕ, Bool, ◌<◌, ◌^◌, List, [], ◌∷◌, ◌++◌, length, map, filter, codes, All, refl, ap, sym, ◌∙◌, subst, arith}
use Rattle.std.specs.Fmt.{decimal}
use Rattle.std.specs.List.{range_with_len}
use Rattle.std.proofs.Math.Nat.{lt_trans}
use Rattle.std.proofs.lemmas.List.Elements.{All-filter, All-weaker}
use Rattle.std.proofs.lemmas.List.FromFn.{length-range_with_len}
use Rattle.op_table.specs.declared.Op.{Op as Operator}
use Rattle.op_table.specs.declared.Op.TheVariants as op
use Rattle.firing.specs.declared.system.NodeName.{NodeName}
use Rattle.firing.specs.declared.system.NodeName.TheVariants.{Act, Merge, Switch, Op}
use Rattle.net_board.specs.Nodes.{graph_in, all_lines}
use Rattle.op_board.specs.OperationNets.{OperationNet, all_operation_nodes, needed, operation_at, operation_count, operation_node}
use Rattle.operation_tables.specs.declared.telling.OpName.{OpName}
use Rattle.operation_tables.specs.declared.telling.OpName.TheVariants as name
use Rattle.operation_tables.specs.Telling.{operation_name}
use Rattle.graph_texts.specs.GraphText.{node_line, node_lines, node_text as told_text, numbers_text}
use Rattle.graph_texts.specs.OperationNames.{op_name, operator_name, work_name}
use Rattle.printed_graphs.specs.declared.dataflow.Node.{Node}
use Rattle.printed_graphs.specs.declared.dataflow.Node.TheVariants as node
use Rattle.printed_graphs.specs.declared.dataflow.Work.{Work}
use Rattle.printed_graphs.specs.declared.dataflow.Work.TheVariants as work
use Rattle.printed_graphs.specs.DataflowText.{node_text, node_line_text}
use Rattle.printed_graphs.specs.Names.{operator_text, work_text}
use Rattle.printed_graphs.specs.Printable.{AreShort, IsPrintableNode}
use Rattle.printed_graphs.specs.Words.{lines_from}
use Rattle.printed_laws.proofs.Lines.{all_made_below, apart, each_below, filtered_most, lines_same}
use Rattle.printed_laws.proofs.NetNodes.{IsNodeOf, node_named, operations_within}
use Rattle.printed_laws.proofs.Rows.{vec_with, capped_is, short_is_small}

-- ---- what operations do

abbrev pub work_of : OpName → Work
work_of name.Load = work.Load
work_of (name.Apply op) = work.Apply op
work_of name.Store = work.Store
work_of name.Write = work.Write
work_of name.Begin = work.Begin
work_of name.Advance = work.Advance
work_of name.Decide = work.Decide
work_of name.Take = work.Take

operator_same : (op : Operator) → operator_text op ≡ operator_name op
operator_same op.Add = refl
operator_same op.Sub = refl
operator_same op.Mul = refl
operator_same op.Div = refl
operator_same op.Pow = refl
operator_same op.Neg = refl
operator_same op.Lt = refl
operator_same op.Le = refl
operator_same op.Eq = refl
operator_same op.Ne = refl
operator_same op.Ge = refl
operator_same op.Gt = refl
operator_same op.Not = refl
operator_same op.And = refl
operator_same op.Or = refl
operator_same op.Eqv = refl
operator_same op.Neqv = refl
operator_same op.Mod = refl
operator_same op.Abs = refl
operator_same op.Sign = refl
operator_same op.Max = refl
operator_same op.Min = refl
operator_same op.Truth = refl
operator_same op.Bound = refl
operator_same op.Place = refl
operator_same op.Three = refl
operator_same op.Pick = refl
operator_same op.Step = refl
operator_same op.AddChecked = refl
operator_same op.SubChecked = refl
operator_same op.MulChecked = refl
operator_same op.NegChecked = refl
operator_same op.AbsChecked = refl
operator_same op.PowChecked = refl

work_same : (n : OpName) → work_text (work_of n) ≡ op_name n
work_same name.Load = refl
work_same (name.Apply op) = operator_same op
work_same name.Store = refl
work_same name.Write = refl
work_same name.Begin = refl
work_same name.Advance = refl
work_same name.Decide = refl
work_same name.Take = refl

-- ---- nodes

abbrev pub does : OperationNet → (piece i : ℕ) → Work
does x piece i = work_of (operation_name (operation_at x piece i).work)

abbrev pub node_of : OperationNet → NodeName → Node
node_of x (Op piece i) = node.Operation piece i (does x piece i) (vec_with (needed x piece i))
node_of x (Switch piece line) = node.Switch piece line
node_of x (Merge piece line) = node.Merge piece line
-- there is no such node
node_of x (Act piece) = node.Merge 0 0

needed_few : (x : OperationNet) (piece i top : ℕ) → x.net.routing.lines < top → length (needed x piece i) < top
needed_few x piece i top few =
    let most = filtered_most (x.needs piece i) (all_lines x.net) in
    let all = length-range_with_len 0 x.net.routing.lines in
    omega (arith, few, most, all)

name_same : (x : OperationNet) (name : NodeName) → x.net.routing.lines < 2 ^ 63 → IsNodeOf x name → node_text (node_of x name) ≡ told_text x name
name_same x (Op piece i) few is =
    ap (λ ns. codes " OP " ++ decimal piece ++ (32 ∷ decimal i) ++ (32 ∷ []) ++ work_text (does x piece i) ++ numbers_text ns) (capped_is (needed x piece i) (needed_few x piece i (2 ^ 63) few))
    ∙ ap (λ word. codes " OP " ++ decimal piece ++ (32 ∷ decimal i) ++ (32 ∷ []) ++ word ++ numbers_text (needed x piece i)) (work_same (operation_name (operation_at x piece i).work))
    ∙ ap (λ l. l ++ numbers_text (needed x piece i)) (sym (apart (codes " OP " ++ decimal piece ++ (32 ∷ decimal i)) (work_name (operation_at x piece i).work)))
name_same x (Switch piece line) few is = refl
name_same x (Merge piece line) few is = refl
name_same x (Act piece) few is = absurd is

abbrev pub nodes_told_of : OperationNet → List Node
nodes_told_of x = map (λ k. node_of x (operation_node x k)) (range_with_len 0 (length (all_operation_nodes x)))

pub nodes_told : (x : OperationNet) → x.net.routing.lines < 2 ^ 63 → lines_from node_line_text 0 (nodes_told_of x) ≡ node_lines x
nodes_told x few =
    lines_same node_line_text (λ k. node_of x (operation_node x k)) (node_line x) 0 0 0 (length (all_operation_nodes x)) (omega arith)
    (λ i k at low lt.
    let same : i ≡ k = omega (arith, at) in
    let exists : k < length (all_operation_nodes x) = omega (arith, lt) in
    ap (λ n. node_line_text n (node_of x (operation_node x k))) same
    ∙ ap (λ text. codes "N " ++ decimal k ++ text ++ (10 ∷ [])) (name_same x (operation_node x k) few (node_named x k exists)))

-- ---- they can be read

-- its pieces, lines and nodes are fewer than so many
pub record IsBelow (x : OperationNet) (top : ℕ) : Type 0 where
  pub pieces : (graph_in x.net).nodes < top
  pub lines : x.net.routing.lines < top
  pub nodes : length (all_operation_nodes x) < top

lines_below : (x : OperationNet) (top : ℕ) (test : ℕ → Bool) → x.net.routing.lines < top → All (λ line. line < top) (filter test (all_lines x.net))
lines_below x top test few =
    All-filter test (λ line. line < top) (all_lines x.net) (All-weaker (λ line. line < x.net.routing.lines) (λ line. line < top) (λ line lt. lt_trans lt few) (all_lines x.net) (each_below x.net.routing.lines))

pub number_below : (x : OperationNet) (piece i top : ℕ) → length (all_operation_nodes x) < top → piece < (graph_in x.net).nodes → i < operation_count x piece → i < top
number_below x piece i top few exists lt = let within = operations_within x piece exists in omega (arith, few, lt, within)

name_printable : (x : OperationNet) (name : NodeName) → IsBelow x (2 ^ 32) → IsNodeOf x name → IsPrintableNode (node_of x name)
name_printable x (Op piece i) below is = (
  lt_trans is.0 below.pieces,
  number_below x piece i (2 ^ 32) below.nodes is.0 is.1,
  subst AreShort (sym (capped_is (needed x piece i) (needed_few x piece i (2 ^ 63) (lt_trans below.lines short_is_small)))) (lines_below x (2 ^ 32) (x.needs piece i) below.lines),
)
name_printable x (Switch piece line) below is = (lt_trans is.0 below.pieces, lt_trans is.1 below.lines)
name_printable x (Merge piece line) below is = (lt_trans is.0 below.pieces, lt_trans is.1 below.lines)
name_printable x (Act piece) below is = absurd is

pub nodes_printable : (x : OperationNet) → IsBelow x (2 ^ 32) → All IsPrintableNode (nodes_told_of x)
nodes_printable x below =
    all_made_below IsPrintableNode (λ k. node_of x (operation_node x k)) (length (all_operation_nodes x)) (λ k lt. name_printable x (operation_node x k) below (node_named x k lt))
