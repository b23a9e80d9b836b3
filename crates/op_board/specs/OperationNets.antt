-- The net of a program with operations as nodes: what firings never change, and its nodes.
use Rattle.std.specs.Prelude.{ℕ, Bool, suc, ◌==◌, ◌&&◌, List, [], ◌++◌, length, map, filter, flat_map, Option, Some, None, slice_get}
use Rattle.std.specs.List.{range_with_len}
use Rattle.cfg_build.specs.declared.pieces.PieceKind.{PieceKind}
use Rattle.cfg_build.specs.declared.pieces.PieceKind.TheVariants as kind
use Rattle.dep_routing.specs.Touches.{exec_kind}
use Rattle.firing.specs.declared.system.NodeName.{NodeName}
use Rattle.firing.specs.declared.system.NodeName.TheVariants.{Op, Switch}
use Rattle.net_board.specs.Nodes.{NetOf, graph_in, kind_in, all_lines, name_in, nodes_at, switch_lines}
use Rattle.net_board.specs.WokenNodes.{passing_below}
use Rattle.op_board.specs.Operations.{Operation, DecideFirst, operations_of}

-- a net whose nodes are statements, and which lines each operation of a piece needs
pub record OperationNet : Type 0 where
  pub net : NetOf
  pub needs : (piece i line : ℕ) → Bool

-- ---- operations

abbrev pub operations_at : OperationNet → (piece : ℕ) → List Operation
operations_at x piece = operations_of x.net.program.names (kind_in x.net piece) (exec_kind x.net.program piece)

abbrev pub operation_count : OperationNet → (piece : ℕ) → ℕ
operation_count x piece = length (operations_at x piece)

abbrev pub operation_in : Option Operation → Operation
operation_in None = record { work = DecideFirst; operands = [] }
operation_in (Some operation) = operation

-- the operation with this number of a piece
abbrev pub operation_at : OperationNet → (piece i : ℕ) → Operation
operation_at x piece i = operation_in (slice_get (operations_at x piece) i)

-- ---- lines

-- the lines that an operation needs
abbrev pub needed : OperationNet → (piece i : ℕ) → List ℕ
needed x piece i = filter (x.needs piece i) (all_lines x.net)

-- how many of the operations of a piece before this one need the line
abbrev pub needing_before : OperationNet → (piece i line : ℕ) → ℕ
needing_before x piece i line = passing_below (λ j. x.needs piece j line) i

-- none of the operations of the piece that need the line comes after this one
abbrev pub is_last_at : OperationNet → (piece i line : ℕ) → Bool
is_last_at x piece i line = needing_before x piece (operation_count x piece) line == suc (needing_before x piece i line)

-- the lines that go on from the piece after the operation
abbrev pub last_needed : OperationNet → (piece i : ℕ) → List ℕ
last_needed x piece i = filter (λ line. x.needs piece i line && is_last_at x piece i line) (all_lines x.net)

-- ---- nodes

abbrev pub operation_nodes : OperationNet → (piece : ℕ) → List NodeName
operation_nodes x piece = map (Op piece) (range_with_len 0 (operation_count x piece))

-- A piece that acts, branches or holds has a node for each of its operations, where a net of statements has one; switches and merges
-- are the same.
abbrev pub operation_nodes_by : OperationNet → (piece : ℕ) → PieceKind → List NodeName
operation_nodes_by x piece kind.Act = operation_nodes x piece
operation_nodes_by x piece kind.Branch = operation_nodes x piece ++ map (Switch piece) (switch_lines x.net piece kind.Branch)
operation_nodes_by x piece kind.Hold = operation_nodes x piece ++ map (Switch piece) (switch_lines x.net piece kind.Hold)
operation_nodes_by x piece _ = nodes_at x.net piece

abbrev pub operation_nodes_at : OperationNet → (piece : ℕ) → List NodeName
operation_nodes_at x piece = operation_nodes_by x piece (kind_in x.net piece)

abbrev pub operation_node_count : OperationNet → (piece : ℕ) → ℕ
operation_node_count x piece = length (operation_nodes_at x piece)

-- the nodes of the pieces below this one
abbrev pub operation_nodes_below : OperationNet → (piece : ℕ) → List NodeName
operation_nodes_below x piece = flat_map (operation_nodes_at x) (range_with_len 0 piece)

-- all nodes, in the order of their numbers: by pieces, and at each its operations first, and then its switches or merges by lines
abbrev pub all_operation_nodes : OperationNet → List NodeName
all_operation_nodes x = operation_nodes_below x (graph_in x.net).nodes

-- the number of the first node of a piece, which is that of its first operation where it has operations
abbrev pub first_operation : OperationNet → (piece : ℕ) → ℕ
first_operation x piece = length (operation_nodes_below x piece)

abbrev pub operation_node : OperationNet → (k : ℕ) → NodeName
operation_node x k = name_in (slice_get (all_operation_nodes x) k)
