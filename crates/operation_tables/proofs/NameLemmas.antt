-- The nodes of a net of operations, piece by piece.
use Rattle.std.proofs.Common.{◌≡◌, ◌<◌, ◌≤◌, ℕ, suc, ◌+◌, ◌-◌, true, List, [], ◌∷◌, ◌++◌, length, slice_get, Some, map, flat_map, refl, sym, ap, ◌∙◌, arith, length-append}
use Rattle.std.specs.List.{range_with_len}
use Rattle.cfg_build.specs.declared.pieces.PieceKind.{PieceKind}
use Rattle.cfg_build.specs.declared.pieces.PieceKind.TheVariants as kind
use Rattle.firing.specs.declared.system.NodeName.{NodeName}
use Rattle.firing.specs.declared.system.NodeName.TheVariants.{Act, Switch}
use Rattle.net_board.specs.Nodes.{NetOf, first_node, graph_in, kind_in, name_in, node_at, node_count, nodes_at, nodes_below, nodes_by, switch_lines}
use Rattle.op_board.specs.OperationFacts.{is_parting}
use Rattle.op_board.specs.OperationNets.{OperationNet, operation_nodes, operation_nodes_at, operation_nodes_by}
use Rattle.operation_tables.proofs.GrownLists.{append_assoc, named_more, rows_split}

get_here : (xs : List NodeName) (y : NodeName) (ys : List NodeName) → slice_get (xs ++ y ∷ ys) (length xs) ≡ Some y
get_here [] y ys = refl
get_here (x ∷ xs) y ys = get_here xs y ys

-- what stands between two lists has the numbers from the length of the first one on
row_named : (xs ys zs : List NodeName) → map (λ k. name_in (slice_get (xs ++ (ys ++ zs)) k)) (range_with_len (length xs) (length ys)) ≡ ys
row_named xs [] zs = refl
row_named xs (y ∷ ys) zs =
    let one : List NodeName = xs ++ y ∷ [] in
    let same : xs ++ (y ∷ (ys ++ zs)) ≡ one ++ (ys ++ zs) = sym (append_assoc xs (y ∷ []) (ys ++ zs)) in
    let count : length one ≡ length xs + 1 = length-append xs (y ∷ []) in
    let head : name_in (slice_get (xs ++ (y ∷ (ys ++ zs))) (length xs)) ≡ y = ap name_in (get_here xs y (ys ++ zs)) in
    let rest : map (λ k. name_in (slice_get (xs ++ (y ∷ (ys ++ zs))) k)) (range_with_len (length xs + 1) (length ys)) ≡ ys =
    ap (λ all. map (λ k. name_in (slice_get all k)) (range_with_len (length xs + 1) (length ys))) same
    ∙ ap (λ n. map (λ k. name_in (slice_get (one ++ (ys ++ zs)) k)) (range_with_len n (length ys))) (sym count)
    ∙ row_named one ys zs in
    ap (λ n. n ∷ map (λ k. name_in (slice_get (xs ++ (y ∷ (ys ++ zs))) k)) (range_with_len (length xs + 1) (length ys))) head ∙ ap (λ ns. y ∷ ns) rest

module _ (net : NetOf) (piece : ℕ) (exists : piece < (graph_in net).nodes) where
  -- the nodes of a piece have its numbers
  nodes_named : map (node_at net) (range_with_len (first_node net piece) (node_count net piece)) ≡ nodes_at net piece
  nodes_named =
      let m : ℕ = (graph_in net).nodes - (piece + 1) in
      let is : (graph_in net).nodes ≡ piece + suc m = omega (arith, exists) in
      let rest : List NodeName = flat_map (nodes_at net) (range_with_len (piece + 1) m) in
      ap (λ all. map (λ k. name_in (slice_get all k)) (range_with_len (first_node net piece) (node_count net piece))) (rows_split (nodes_at net) piece m (graph_in net).nodes is)
      ∙ row_named (nodes_below net piece) (nodes_at net piece) rest

  pub all_turns : (first end : ℕ) → first ≡ first_node net piece → end ≡ first_node net piece + node_count net piece → map (node_at net) (range_with_len first (end - first)) ≡ nodes_at net piece
  all_turns first end is last =
      let count : end - first ≡ node_count net piece = omega (arith, is, last) in
      ap (λ a. map (node_at net) (range_with_len a (end - first))) is
      ∙ ap (λ n. map (node_at net) (range_with_len (first_node net piece) n)) count
      ∙ nodes_named

  -- those behind the first one
  pub later_turns : (from end : ℕ) (name : NodeName) (more : List NodeName) → nodes_at net piece ≡ name ∷ more → from ≡ first_node net piece + 1 → end ≡ first_node net piece + node_count net piece → map (node_at net) (range_with_len from (end - from)) ≡ more
  later_turns from end name more are is last =
      let count : node_count net piece ≡ suc (length more) = ap length are in
      let whole : node_at net (first_node net piece) ∷ map (node_at net) (range_with_len (first_node net piece + 1) (length more)) ≡ name ∷ more =
      ap (λ n. map (node_at net) (range_with_len (first_node net piece) n)) (sym count) ∙ nodes_named ∙ are in
      let rest : map (node_at net) (range_with_len (first_node net piece + 1) (length more)) ≡ more = cc in
      let left : end - from ≡ length more = omega (arith, is, last, count) in
      ap (λ n. map (node_at net) (range_with_len from n)) left
      ∙ ap (λ a. map (node_at net) (range_with_len a (length more))) is
      ∙ rest

-- one node more of a row, after what stood there
pub turns_more : (net : NetOf) (old before now : List NodeName) (from n : ℕ) (name : NodeName) → now ≡ before ++ name ∷ [] → name ≡ node_at net n → from ≤ n → before ≡ old ++ map (node_at net) (range_with_len from (n - from)) → now ≡ old ++ map (node_at net) (range_with_len from (n + 1 - from))
turns_more net old before now from n name are is low so =
    let here : from + (n - from) ≡ n = omega (arith, low) in
    let more : (n - from) + 1 ≡ n + 1 - from = omega (arith, low) in
    are
    ∙ ap (λ y. before ++ y ∷ []) is
    ∙ named_more (node_at net) old before from (n - from) n here so
    ∙ ap (λ k. old ++ map (node_at net) (range_with_len from k)) more

-- where edges part a piece has a node for its statement, and its switches
pub parting_nodes : (net : NetOf) (piece : ℕ) (k : PieceKind) → is_parting k ≡ true → nodes_by net piece k ≡ Act piece ∷ map (Switch piece) (switch_lines net piece k)
parting_nodes net piece kind.Branch is = refl
parting_nodes net piece kind.Hold is = refl
parting_nodes net piece kind.Start is = absurd cc
parting_nodes net piece kind.Pass is = absurd cc
parting_nodes net piece kind.Act is = absurd cc
parting_nodes net piece kind.Join is = absurd cc
parting_nodes net piece kind.End is = absurd cc

pub parting_operations : (x : OperationNet) (piece : ℕ) (k : PieceKind) → is_parting k ≡ true → operation_nodes_by x piece k ≡ operation_nodes x piece ++ map (Switch piece) (switch_lines x.net piece k)
parting_operations x piece kind.Branch is = refl
parting_operations x piece kind.Hold is = refl
parting_operations x piece kind.Start is = absurd cc
parting_operations x piece kind.Pass is = absurd cc
parting_operations x piece kind.Act is = absurd cc
parting_operations x piece kind.Join is = absurd cc
parting_operations x piece kind.End is = absurd cc

module _ (x : OperationNet) (piece : ℕ) where
  -- the operations, and the switches behind them
  pub parting_named : (old mid new : List NodeName) (from end : ℕ) → piece < (graph_in x.net).nodes → is_parting (kind_in x.net piece) ≡ true → from ≡ first_node x.net piece + 1 → end ≡ first_node x.net piece + node_count x.net piece → mid ≡ old ++ operation_nodes x piece → new ≡ mid ++ map (node_at x.net) (range_with_len from (end - from)) → new ≡ old ++ operation_nodes_at x piece
  parting_named old mid new from end exists parts is last before after =
      let turns = later_turns x.net piece exists from end (Act piece) (map (Switch piece) (switch_lines x.net piece (kind_in x.net piece))) (parting_nodes x.net piece (kind_in x.net piece) parts) is last in
      after
      ∙ ap (λ xs. xs ++ map (node_at x.net) (range_with_len from (end - from))) before
      ∙ ap (λ xs. (old ++ operation_nodes x piece) ++ xs) turns
      ∙ append_assoc old (operation_nodes x piece) (map (Switch piece) (switch_lines x.net piece (kind_in x.net piece)))
      ∙ ap (λ xs. old ++ xs) (sym (parting_operations x piece (kind_in x.net piece) parts))
