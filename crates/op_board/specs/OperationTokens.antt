-- The markings of a net of operations, which of its nodes are ready there, and what they lead to.
use Rattle.std.specs.Prelude.{ℕ, suc, ◌+◌, ◌&&◌, ◌==◌, ℤ, pos, Bool, true, false, not, if◌then◌else◌, List, [], ◌∷◌, length, map, fold, replicate, Option, Some, None, is_some, slice_get, slice_index, slice_set, unwrap_or, Result, Ok, Err}
use Rattle.std.specs.List.{list_all}
use Rattle.op_table.specs.declared.Trap.{Trap}
use Rattle.cfg_build.specs.Passes.{out}
use Rattle.firing.specs.declared.system.NodeName.{NodeName}
use Rattle.firing.specs.declared.system.NodeName.TheVariants.{Act, Merge, Switch, Op}
use Rattle.firing.specs.Moves.{Moves}
use Rattle.net_board.specs.Nodes.{graph_in, switches}
use Rattle.net_board.specs.Tokens.{Tokens, first_tokens, is_before, led_from, left_for, source_line, switched, merged, with_all, written}
use Rattle.net_board.specs.WokenNodes.{switch_number}
use Rattle.op_board.specs.Operations.{Operand, Known, From, Operation, Work, gives_value, is_decision}
use Rattle.op_board.specs.Effects.{Effect, performed}
use Rattle.op_board.specs.OperationNets.{OperationNet, all_operation_nodes, first_operation, is_last_at, last_needed, needed, needing_before, operation_at, operation_node}

-- What the nodes have to work on: the tokens of a net of statements, whose switches have their places here too; how many of the
-- operations that need a line it has passed at the piece to which its edge leads; and for each node the value that it has given, as long
-- as no operation has taken it.
pub record OperationTokens : Type 0 where
  pub tokens : Tokens
  pub passed : List ℕ
  pub values : List (Option ℤ)

-- how many of the operations that need it a line has passed
abbrev pub passed_by : OperationTokens → (line : ℕ) → ℕ
passed_by m line = slice_index m.passed line

abbrev pub value_of : Option (Option ℤ) → Option ℤ
value_of None = None
value_of (Some value) = value

-- the value that a node has given, and that isn't taken
abbrev pub value_at : OperationTokens → (k : ℕ) → Option ℤ
value_at m k = value_of (slice_get m.values k)

-- ---- operands

-- the operand's value is there
abbrev pub is_given : OperationNet → OperationTokens → (piece : ℕ) → Operand → Bool
is_given x m piece (Known z) = true
is_given x m piece (From number) = is_some (value_at m (first_operation x piece + number))

abbrev pub operand_in : OperationNet → OperationTokens → (piece : ℕ) → Operand → ℤ
operand_in x m piece (Known z) = z
operand_in x m piece (From number) = unwrap_or (value_at m (first_operation x piece + number)) (pos 0)

-- the nodes that give operands
abbrev pub givers : OperationNet → (piece : ℕ) → List Operand → List ℕ
givers x piece [] = []
givers x piece (Known z ∷ operands) = givers x piece operands
givers x piece (From number ∷ operands) = (first_operation x piece + number) ∷ givers x piece operands

-- ---- which nodes are ready

-- the line stands before this operation of the piece
abbrev pub stands_before : OperationNet → OperationTokens → (piece i line : ℕ) → Bool
stands_before x m piece i line = is_before x.net m.tokens piece line && (passed_by m line == needing_before x piece i line)

-- nothing is left for any switch of the piece
abbrev pub are_clear : OperationNet → OperationTokens → (piece : ℕ) → Bool
are_clear x m piece = list_all (λ switch. not (is_some (left_for m.tokens switch))) (switches x.net piece)

-- A decision waits for the switches of its piece.
abbrev pub has_room : OperationNet → OperationTokens → (piece : ℕ) → Work → Bool
has_room x m piece work = if is_decision work then are_clear x m piece else true

-- Each line that it needs stands before it, its operands are there, and its value isn't: it was taken.
abbrev pub can_operate : OperationNet → OperationTokens → (k piece i : ℕ) → Operation → Bool
can_operate x m k piece i op = list_all (stands_before x m piece i) (needed x piece i) && list_all (is_given x m piece) op.operands && not (is_some (value_at m k)) && has_room x m piece op.work

abbrev pub ready_as : OperationNet → OperationTokens → ℕ → NodeName → Bool
ready_as x m k (Op piece i) = can_operate x m k piece i (operation_at x piece i)
ready_as x m k (Switch piece line) = is_before x.net m.tokens piece line && is_some (left_for m.tokens (switch_number x.net piece line))
ready_as x m k (Merge piece line) = is_before x.net m.tokens piece line
ready_as x m k (Act piece) = false

-- ---- what firings do

-- these places have these values, and all others what they had
abbrev pub replaced : {A : Type 0} → List A → List ℕ → (ℕ → A) → List A
replaced items places item = fold (λ done place. slice_set done place (item place)) items places

-- what comes of an operation at the values of its operands
abbrev pub performed_at : OperationNet → OperationTokens → (piece : ℕ) → Operation → Result Effect Trap
performed_at x m piece op = performed x.net.program.names x.net.input m.tokens.memory op.work (map (operand_in x m piece) op.operands)

-- the operands are taken
abbrev pub taken_values : OperationNet → OperationTokens → (piece : ℕ) → Operation → List (Option ℤ)
taken_values x m piece op = replaced m.values (givers x piece op.operands) (λ k. None)

-- and a value is given
abbrev pub given_values : OperationNet → OperationTokens → (k piece : ℕ) → Operation → Option ℤ → List (Option ℤ)
given_values x m k piece op value = slice_set (taken_values x m piece op) k value

-- what a line has passed after an operation
abbrev pub passed_after : OperationNet → OperationTokens → (piece i line : ℕ) → ℕ
passed_after x m piece i line = if is_last_at x piece i line then 0 else suc (passed_by m line)

-- A line that the operation needs has passed it. After the last of the piece's operations that need it the line is led along the edge
-- by which control leaves the piece; a decision leaves that for the switches of its piece.
abbrev pub moved_on : OperationNet → OperationTokens → (piece i : ℕ) → Work → Effect → Tokens
moved_on x m piece i work effect =
    let edge = out (graph_in x.net) piece effect.choice in
    record {
      lines = with_all m.tokens.lines (last_needed x piece i) (led_from x.net edge);
      edges = if is_decision work then with_all m.tokens.edges (switches x.net piece) (λ switch. Some edge) else m.tokens.edges;
      memory = effect.memory;
      trap = m.tokens.trap;
    }

abbrev pub operated_on : OperationNet → OperationTokens → (k piece i : ℕ) → Operation → Effect → OperationTokens
operated_on x m k piece i op effect = record {
  tokens = moved_on x m piece i op.work effect;
  passed = replaced m.passed (needed x piece i) (passed_after x m piece i);
  values = given_values x m k piece op effect.value;
}

-- the lines that the operation needs vanish
abbrev pub trapped_tokens : OperationNet → OperationTokens → (piece i : ℕ) → Trap → Tokens
trapped_tokens x m piece i trap = record m.tokens { lines = with_all m.tokens.lines (needed x piece i) (λ line. None); trap = Some (trap, source_line x.net piece) }

abbrev pub stopped_by : OperationNet → OperationTokens → (piece i : ℕ) → Operation → Trap → OperationTokens
stopped_by x m piece i op trap = record {
  tokens = trapped_tokens x m piece i trap;
  passed = replaced m.passed (needed x piece i) (λ line. 0);
  values = taken_values x m piece op;
}

-- an operation that doesn't need the line of output can't stop the net: it gives 0, to which no run comes
abbrev pub zero_effect : OperationTokens → Work → Effect
zero_effect m work = record { value = if gives_value work then Some (pos 0) else None; memory = m.tokens.memory; text = []; choice = 0 }

abbrev pub operated : OperationNet → OperationTokens → (k piece i : ℕ) → Operation → Result Effect Trap → OperationTokens
operated x m k piece i op (Ok effect) = operated_on x m k piece i op effect
operated x m k piece i op (Err trap) = if x.needs piece i 0 then stopped_by x m piece i op trap else operated_on x m k piece i op (zero_effect m op.work)

-- the line has passed none of the operations of the piece to which it comes
abbrev pub unpassed : OperationTokens → (line : ℕ) → List ℕ
unpassed m line = slice_set m.passed line 0

-- switches and merges do to the tokens what they do in a net of statements
abbrev pub switched_on : OperationNet → OperationTokens → (piece line : ℕ) → OperationTokens
switched_on x m piece line = let switch = switch_number x.net piece line in record m { tokens = switched x.net m.tokens switch line (left_for m.tokens switch); passed = unpassed m line }

abbrev pub merged_on : OperationNet → OperationTokens → (piece line : ℕ) → OperationTokens
merged_on x m piece line = record m { tokens = merged x.net m.tokens piece line; passed = unpassed m line }

abbrev pub fired_as : OperationNet → OperationTokens → ℕ → NodeName → OperationTokens
fired_as x m k (Op piece i) = operated x m k piece i (operation_at x piece i) (performed_at x m piece (operation_at x piece i))
fired_as x m k (Switch piece line) = switched_on x m piece line
fired_as x m k (Merge piece line) = merged_on x m piece line
fired_as x m k (Act piece) = m

-- ---- what firings write

abbrev pub text_written : Result Effect Trap → Option (List ℕ)
text_written (Err trap) = None
text_written (Ok effect) = written effect.text

abbrev pub line_as : OperationNet → OperationTokens → NodeName → Option (List ℕ)
line_as x m (Op piece i) = text_written (performed_at x m piece (operation_at x piece i))
line_as x m _ = None

-- ---- the moves

-- the node goes through the line of output
abbrev pub serial_as : OperationNet → NodeName → Bool
serial_as x (Op piece i) = x.needs piece i 0
serial_as x (Switch piece line) = line == 0
serial_as x (Merge piece line) = line == 0
serial_as x (Act piece) = false

abbrev pub operation_moves : OperationNet → Moves OperationTokens
operation_moves x = record {
  nodes = length (all_operation_nodes x);
  name = operation_node x;
  serial = λ k. serial_as x (operation_node x k);
  ready = λ m k. ready_as x m k (operation_node x k);
  fired = λ m k. fired_as x m k (operation_node x k);
  line = λ m k. line_as x m (operation_node x k);
  trap = λ m. m.tokens.trap;
}

-- The marking of a net of statements, where none of the operations of a piece has fired without the others: no line has passed any,
-- and no value waits to be taken.
abbrev pub between_pieces : OperationNet → Tokens → OperationTokens
between_pieces x m = record {
  tokens = m;
  passed = replicate x.net.routing.lines 0;
  values = replicate (length (all_operation_nodes x)) None;
}

-- the marking before any firing
abbrev pub first_operation_tokens : OperationNet → OperationTokens
first_operation_tokens x = between_pieces x (first_tokens x.net)
