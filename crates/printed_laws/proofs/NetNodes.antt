-- The nodes of a net of operations: their names, and how many there are.
use Rattle.std.proofs.Common.{◌≡◌, ℕ, zero, suc, Bool, ◌&&◌, not, ◌+◌, ◌<◌, ◌≤◌, List, [], ◌∷◌, length, map, filter, flat_map, All, slice_get, refl, ap, sym, ◌∙◌, subst, arith}
use Rattle.std.specs.List.{range_with_len}
use Rattle.std.proofs.lemmas.List.{length-append}
use Rattle.std.proofs.lemmas.List.FromFn.{length-map-range_with_len}
use Rattle.std.proofs.lemmas.List.Elements.{All-nil, All-append, All-head, All-tail, All-filter, All-map, All-weaker}
use Rattle.cfg_build.specs.declared.pieces.PieceKind.{PieceKind}
use Rattle.cfg_build.specs.declared.pieces.PieceKind.TheVariants as kind
use Rattle.dep_routing.specs.Touches.{exec_kind}
use Rattle.firing.specs.declared.system.NodeName.{NodeName}
use Rattle.firing.specs.declared.system.NodeName.TheVariants.{Act, Merge, Switch, Op}
use Rattle.net_board.specs.Nodes.{graph_in, kind_in, all_lines, is_free, name_in, nodes_by, passing, switch_lines}
use Rattle.op_board.specs.Operations.{operations_of}
use Rattle.op_board.specs.OperationNets.{OperationNet, all_operation_nodes, first_operation, operation_count, operation_node, operation_nodes, operation_nodes_at, operation_nodes_by}
use Rattle.printed_laws.proofs.Lines.{all_made_below, each_below, each_of_parts}

-- the name of a node of the net
abbrev pub IsNodeOf : OperationNet → NodeName → Type 0
IsNodeOf x (Op piece i) = (piece < (graph_in x.net).nodes) × (i < operation_count x piece)
IsNodeOf x (Switch piece line) = (piece < (graph_in x.net).nodes) × (line < x.net.routing.lines)
IsNodeOf x (Merge piece line) = (piece < (graph_in x.net).nodes) × (line < x.net.routing.lines)
IsNodeOf x (Act piece) = ⊥

operations_named : (x : OperationNet) (piece : ℕ) → piece < (graph_in x.net).nodes → All (IsNodeOf x) (operation_nodes x piece)
operations_named x piece exists =
    all_made_below (IsNodeOf x) (Op piece) (operation_count x piece) (λ i lt. (exists, lt))

switches_named : (x : OperationNet) (piece : ℕ) (test : ℕ → Bool) → piece < (graph_in x.net).nodes → All (IsNodeOf x) (map (Switch piece) (filter test (all_lines x.net)))
switches_named x piece test exists =
    All-map (IsNodeOf x) (Switch piece) (filter test (all_lines x.net))
    (All-filter test (λ line. IsNodeOf x (Switch piece line)) (all_lines x.net) (All-weaker (λ line. line < x.net.routing.lines) (λ line. IsNodeOf x (Switch piece line)) (λ line lt. (exists, lt)) (all_lines x.net) (each_below x.net.routing.lines)))

merges_named : (x : OperationNet) (piece : ℕ) (test : ℕ → Bool) → piece < (graph_in x.net).nodes → All (IsNodeOf x) (map (Merge piece) (filter test (all_lines x.net)))
merges_named x piece test exists =
    All-map (IsNodeOf x) (Merge piece) (filter test (all_lines x.net))
    (All-filter test (λ line. IsNodeOf x (Merge piece line)) (all_lines x.net) (All-weaker (λ line. line < x.net.routing.lines) (λ line. IsNodeOf x (Merge piece line)) (λ line lt. (exists, lt)) (all_lines x.net) (each_below x.net.routing.lines)))

named_by : (x : OperationNet) (piece : ℕ) (k : PieceKind) → piece < (graph_in x.net).nodes → kind_in x.net piece ≡ k → All (IsNodeOf x) (operation_nodes_by x piece k)
named_by x piece kind.Act exists is = operations_named x piece exists
named_by x piece kind.Branch exists is = All-append (IsNodeOf x) (operation_nodes x piece) (map (Switch piece) (passing x.net piece)) (operations_named x piece exists) (switches_named x piece (λ line. is_free x.net piece line && not (x.net.touches piece line)) exists)
named_by x piece kind.Hold exists is = All-append (IsNodeOf x) (operation_nodes x piece) (map (Switch piece) (passing x.net piece)) (operations_named x piece exists) (switches_named x piece (λ line. is_free x.net piece line && not (x.net.touches piece line)) exists)
named_by x piece kind.Join exists is = subst (λ k. All (IsNodeOf x) (nodes_by x.net piece k)) (sym is) (merges_named x piece (is_free x.net piece) exists)
named_by x piece kind.End exists is = subst (λ k. All (IsNodeOf x) (nodes_by x.net piece k)) (sym is) (merges_named x piece (is_free x.net piece) exists)
named_by x piece kind.Start exists is = subst (λ k. All (IsNodeOf x) (nodes_by x.net piece k)) (sym is) (All-nil (IsNodeOf x))
named_by x piece kind.Pass exists is = subst (λ k. All (IsNodeOf x) (nodes_by x.net piece k)) (sym is) (All-nil (IsNodeOf x))

nodes_named : (x : OperationNet) → All (IsNodeOf x) (all_operation_nodes x)
nodes_named x =
    each_of_parts (λ piece. piece < (graph_in x.net).nodes) (IsNodeOf x) (operation_nodes_at x) (range_with_len 0 (graph_in x.net).nodes)
    (λ piece exists. named_by x piece (kind_in x.net piece) exists refl)
    (each_below (graph_in x.net).nodes)

named_at : (P : NodeName → Type 0) (names : List NodeName) (k : ℕ) → All P names → k < length names → P (name_in (slice_get names k))
named_at P [] k all lt = absurd (omega (arith, lt))
named_at P (name ∷ names) zero all lt = All-head P name names all
named_at P (name ∷ names) (suc k) all lt = named_at P names k (All-tail P name names all) (omega (arith, lt))

pub node_named : (x : OperationNet) (k : ℕ) → k < length (all_operation_nodes x) → IsNodeOf x (operation_node x k)
node_named x k lt = named_at (IsNodeOf x) (all_operation_nodes x) k (nodes_named x) lt

-- ---- how many there are

spans : {X : Type 0} (f : ℕ → List X) (a n k : ℕ) → k < n → length (flat_map f (range_with_len a k)) + length (f (a + k)) ≤ length (flat_map f (range_with_len a n))
spans f a zero k lt = absurd (omega (arith, lt))
spans f a (suc n) zero lt =
    let whole = length-append (f a) (flat_map f (range_with_len (a + 1) n)) in
    let same : length (f (a + 0)) ≡ length (f a) = ap (λ m. length (f m)) (omega arith) in
    omega (arith, whole, same)
spans f a (suc n) (suc k) lt =
    let whole = length-append (f a) (flat_map f (range_with_len (a + 1) n)) in
    let part = length-append (f a) (flat_map f (range_with_len (a + 1) k)) in
    let same : length (f (a + suc k)) ≡ length (f (a + 1 + k)) = ap (λ m. length (f m)) (omega arith) in
    let rest = spans f (a + 1) n k (omega (arith, lt)) in
    omega (arith, whole, part, same, rest)

none_within : (x : OperationNet) (piece : ℕ) (k : PieceKind) → kind_in x.net piece ≡ k → operations_of x.net.program.names k (exec_kind x.net.program piece) ≡ [] → operation_count x piece ≤ length (operation_nodes_by x piece k)
none_within x piece k is none =
    let count : operation_count x piece ≡ 0 = ap (λ kind. length (operations_of x.net.program.names kind (exec_kind x.net.program piece))) is ∙ ap length none in
    omega (arith, count)

-- a piece has no more operations than nodes
counted_by : (x : OperationNet) (piece : ℕ) (k : PieceKind) → kind_in x.net piece ≡ k → operation_count x piece ≤ length (operation_nodes_by x piece k)
counted_by x piece kind.Act is = let same = length-map-range_with_len (Op piece) 0 (operation_count x piece) in omega (arith, same)
counted_by x piece kind.Branch is =
    let same = length-map-range_with_len (Op piece) 0 (operation_count x piece) in
    let whole = length-append (operation_nodes x piece) (map (Switch piece) (switch_lines x.net piece kind.Branch)) in
    omega (arith, same, whole)
counted_by x piece kind.Hold is =
    let same = length-map-range_with_len (Op piece) 0 (operation_count x piece) in
    let whole = length-append (operation_nodes x piece) (map (Switch piece) (switch_lines x.net piece kind.Hold)) in
    omega (arith, same, whole)
counted_by x piece kind.Join is = none_within x piece kind.Join is refl
counted_by x piece kind.End is = none_within x piece kind.End is refl
counted_by x piece kind.Start is = none_within x piece kind.Start is refl
counted_by x piece kind.Pass is = none_within x piece kind.Pass is refl

pub operations_within : (x : OperationNet) (piece : ℕ) → piece < (graph_in x.net).nodes → first_operation x piece + operation_count x piece ≤ length (all_operation_nodes x)
operations_within x piece exists =
    let few = counted_by x piece (kind_in x.net piece) refl in
    let within : first_operation x piece + length (operation_nodes_at x (0 + piece)) ≤ length (all_operation_nodes x) = spans (operation_nodes_at x) 0 (graph_in x.net).nodes piece exists in
    let same : length (operation_nodes_at x (0 + piece)) ≡ length (operation_nodes_at x piece) = ap (λ m. length (operation_nodes_at x m)) (omega arith) in
    omega (arith, few, within, same)
