-- The nodes of a net of operations beside those of its net of statements.
use Rattle.std.proofs.Common.{◌≡◌, ◌<◌, ℕ, zero, suc, ◌+◌, true, false, List, [], ◌∷◌, ◌++◌, length, map, Some, None, slice_get, refl, ap, ◌∙◌, subst, length-append, arith}
use Rattle.std.specs.List.{range_with_len}
use Rattle.cfg_build.specs.declared.pieces.PieceKind.{PieceKind}
use Rattle.cfg_build.specs.declared.pieces.PieceKind.TheVariants as kind
use Rattle.dep_routing.specs.Touches.{exec_kind}
use Rattle.firing.specs.declared.system.NodeName.{NodeName}
use Rattle.firing.specs.declared.system.NodeName.TheVariants.{Switch, Op}
use Rattle.net_board.specs.Nodes.{graph_in, kind_in, is_acting, name_in, nodes_at, nodes_by, node_count, passing, switch_lines}
use Rattle.net_board.proofs.ListPrefixes.{HasItem, below_length, get_flat, get_left, get_right, item_at}
use Rattle.op_board.specs.Operations.{operations_of}
use Rattle.op_board.specs.OperationNets.{OperationNet, all_operation_nodes, first_operation, operation_count, operation_node, operation_node_count, operation_nodes, operation_nodes_at, operation_nodes_by}

-- ---- lists

get_range : (a n i : ℕ) → i < n → slice_get (range_with_len a n) i ≡ Some (a + i)
get_range a zero i low = absurd (omega (arith, low))
get_range a (suc n) zero low = ap (λ (k : ℕ). Some k) plus_zero
  where
    plus_zero : a ≡ a + 0
    plus_zero = omega arith
get_range a (suc n) (suc i) low = get_range (a + 1) n i (omega (arith, low)) ∙ ap (λ (k : ℕ). Some k) shift
  where
    shift : a + 1 + i ≡ a + suc i
    shift = omega arith

get_map : (f : ℕ → NodeName) (xs : List ℕ) (i k : ℕ) → slice_get xs i ≡ Some k → slice_get (map f xs) i ≡ Some (f k)
get_map f [] i k at = let e : None ≡ Some k = at in absurd cc
get_map f (y ∷ xs) zero k at = ap (λ (n : ℕ). Some (f n)) (same y k at)
  where
    same : (a b : ℕ) → Some a ≡ Some b → a ≡ b
    same a b e = cc
get_map f (y ∷ xs) (suc i) k at = get_map f xs i k at

length_map : (f : ℕ → NodeName) (xs : List ℕ) → length (map f xs) ≡ length xs
length_map f [] = refl
length_map f (y ∷ xs) = ap suc (length_map f xs)

length_range : (a n : ℕ) → length (range_with_len a n) ≡ n
length_range a zero = refl
length_range a (suc n) = ap suc (length_range (a + 1) n)

module _ (x : OperationNet) where
  -- ---- numbers

  pub operation_number : (piece j : ℕ) (name : NodeName) → piece < (graph_in x.net).nodes → slice_get (operation_nodes_at x piece) j ≡ Some name → slice_get (all_operation_nodes x) (first_operation x piece + j) ≡ Some name
  operation_number piece j name exists at =
      let same : piece ≡ 0 + piece = omega arith in
      get_flat (operation_nodes_at x) 0 (graph_in x.net).nodes piece j name exists (subst (λ (p : ℕ). slice_get (operation_nodes_at x p) j ≡ Some name) same at)

  pub operation_named : (piece j : ℕ) (name : NodeName) → piece < (graph_in x.net).nodes → slice_get (operation_nodes_at x piece) j ≡ Some name → operation_node x (first_operation x piece + j) ≡ name
  operation_named piece j name exists at = ap name_in (operation_number piece j name exists at)

  pub operation_below : (piece j : ℕ) → piece < (graph_in x.net).nodes → j < operation_node_count x piece → first_operation x piece + j < length (all_operation_nodes x)
  operation_below piece j exists low =
      let r : HasItem (operation_nodes_at x piece) j = item_at (operation_nodes_at x piece) j low in
      below_length (all_operation_nodes x) (first_operation x piece + j) r.item (operation_number piece j r.item exists r.at)

  -- ---- the nodes of a piece

  length_operations : (piece : ℕ) → length (operation_nodes x piece) ≡ operation_count x piece
  length_operations piece = length_map (Op piece) (range_with_len 0 (operation_count x piece)) ∙ length_range 0 (operation_count x piece)

  in_operations : (piece i : ℕ) → i < operation_count x piece → slice_get (operation_nodes x piece) i ≡ Some (Op piece i)
  in_operations piece i low =
      let e : 0 + i ≡ i = omega arith in
      get_map (Op piece) (range_with_len 0 (operation_count x piece)) i i (get_range 0 (operation_count x piece) i low ∙ ap (λ (k : ℕ). Some k) e)

  operation_by : (piece i : ℕ) (k : PieceKind) → is_acting k ≡ true → i < operation_count x piece → slice_get (operation_nodes_by x piece k) i ≡ Some (Op piece i)
  operation_by piece i kind.Act acts low = in_operations piece i low
  operation_by piece i kind.Branch acts low = get_left (operation_nodes x piece) (map (Switch piece) (switch_lines x.net piece kind.Branch)) i (Op piece i) (in_operations piece i low)
  operation_by piece i kind.Hold acts low = get_left (operation_nodes x piece) (map (Switch piece) (switch_lines x.net piece kind.Hold)) i (Op piece i) (in_operations piece i low)
  operation_by piece i kind.Start acts low = absurd cc
  operation_by piece i kind.Pass acts low = absurd cc
  operation_by piece i kind.Join acts low = absurd cc
  operation_by piece i kind.End acts low = absurd cc

  pub is_operation : (piece i : ℕ) → is_acting (kind_in x.net piece) ≡ true → i < operation_count x piece → slice_get (operation_nodes_at x piece) i ≡ Some (Op piece i)
  is_operation piece i acts low = operation_by piece i (kind_in x.net piece) acts low

  -- one node stands for the operations in a net of statements, and the others are the same
  abbrev pub OthersSame : (piece : ℕ) → PieceKind → Type 0
  OthersSame piece k = (j : ℕ) (name : NodeName) → slice_get (nodes_by x.net piece k) (suc j) ≡ Some name → slice_get (operation_nodes_by x piece k) (operation_count x piece + j) ≡ Some name

  switches_same : (piece : ℕ) (lines : List ℕ) (j : ℕ) (name : NodeName) → slice_get (map (Switch piece) lines) j ≡ Some name → slice_get (operation_nodes x piece ++ map (Switch piece) lines) (operation_count x piece + j) ≡ Some name
  switches_same piece lines j name at = subst (λ (i : ℕ). slice_get (operation_nodes x piece ++ map (Switch piece) lines) (i + j) ≡ Some name) (length_operations piece) (get_right (operation_nodes x piece) (map (Switch piece) lines) j name at)

  others_by : (piece : ℕ) (k : PieceKind) → is_acting k ≡ true → OthersSame piece k
  others_by piece kind.Act acts j name at = let e : None ≡ Some name = at in absurd cc
  others_by piece kind.Branch acts j name at = switches_same piece (passing x.net piece) j name at
  others_by piece kind.Hold acts j name at = switches_same piece (passing x.net piece) j name at
  others_by piece kind.Start acts j name at = absurd cc
  others_by piece kind.Pass acts j name at = absurd cc
  others_by piece kind.Join acts j name at = absurd cc
  others_by piece kind.End acts j name at = absurd cc

  pub others_same : (piece : ℕ) → is_acting (kind_in x.net piece) ≡ true → OthersSame piece (kind_in x.net piece)
  others_same piece acts = others_by piece (kind_in x.net piece) acts

  count_by : (piece : ℕ) (k : PieceKind) → is_acting k ≡ true → suc (length (operation_nodes_by x piece k)) ≡ length (nodes_by x.net piece k) + operation_count x piece
  count_by piece kind.Act acts = let long = length_operations piece in omega (arith, long)
  count_by piece kind.Branch acts = let long = length_operations piece in let all = length-append (operation_nodes x piece) (map (Switch piece) (passing x.net piece)) in omega (arith, long, all)
  count_by piece kind.Hold acts = let long = length_operations piece in let all = length-append (operation_nodes x piece) (map (Switch piece) (passing x.net piece)) in omega (arith, long, all)
  count_by piece kind.Start acts = absurd cc
  count_by piece kind.Pass acts = absurd cc
  count_by piece kind.Join acts = absurd cc
  count_by piece kind.End acts = absurd cc

  pub acting_count : (piece : ℕ) → is_acting (kind_in x.net piece) ≡ true → suc (operation_node_count x piece) ≡ node_count x.net piece + operation_count x piece
  acting_count piece acts = count_by piece (kind_in x.net piece) acts

  same_by : (piece : ℕ) (k : PieceKind) → is_acting k ≡ false → operation_nodes_by x piece k ≡ nodes_at x.net piece
  same_by piece kind.Act acts = absurd cc
  same_by piece kind.Branch acts = absurd cc
  same_by piece kind.Hold acts = absurd cc
  same_by piece kind.Start acts = refl
  same_by piece kind.Pass acts = refl
  same_by piece kind.Join acts = refl
  same_by piece kind.End acts = refl

  -- a piece that doesn't act has the same nodes
  pub nodes_same : (piece : ℕ) → is_acting (kind_in x.net piece) ≡ false → operation_nodes_at x piece ≡ nodes_at x.net piece
  nodes_same piece acts = same_by piece (kind_in x.net piece) acts

  none_by : (piece : ℕ) (k : PieceKind) → is_acting k ≡ false → length (operations_of x.net.program.names k (exec_kind x.net.program piece)) ≡ 0
  none_by piece kind.Act acts = absurd cc
  none_by piece kind.Branch acts = absurd cc
  none_by piece kind.Hold acts = absurd cc
  none_by piece kind.Start acts = refl
  none_by piece kind.Pass acts = refl
  none_by piece kind.Join acts = refl
  none_by piece kind.End acts = refl

  pub no_operations : (piece : ℕ) → is_acting (kind_in x.net piece) ≡ false → operation_count x piece ≡ 0
  no_operations piece acts = none_by piece (kind_in x.net piece) acts
