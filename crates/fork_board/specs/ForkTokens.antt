-- The game of a net of operations in which the loads of a group fire in any order: its markings, which nodes are ready there, and what
-- they lead to.
use Rattle.std.specs.Prelude.{ℕ, ◌&&◌, ◌||◌, ◌==◌, Bool, false, not, if◌then◌else◌, length, Option, Some, None, is_some}
use Rattle.std.specs.List.{list_all}
use Rattle.firing.specs.declared.system.NodeName.{NodeName}
use Rattle.firing.specs.declared.system.NodeName.TheVariants.{Op}
use Rattle.firing.specs.Control.{Course}
use Rattle.firing.specs.Moves.{Moves}
use Rattle.net_board.specs.declared.control.Control.{Control}
use Rattle.net_board.specs.Tokens.{edge_of, with_all}
use Rattle.op_board.specs.Operations.{Operation}
use Rattle.op_board.specs.OperationCourse.{control_after, due_operation}
use Rattle.op_board.specs.OperationNets.{OperationNet, all_operation_nodes, needed, operation_at, operation_node}
use Rattle.op_board.specs.OperationTokens.{OperationTokens, fired_as, first_operation_tokens, is_given, line_as, passed_by, ready_as, replaced, serial_as, value_at}
use Rattle.fork_board.specs.LoadGroups.{Site, Spot, spot, group_at, behind_group, is_among, is_load}

-- What the nodes have to work on: that of a net of operations; and for each line, which loads of the group before which it stands have
-- fired since it came there.
pub record ForkTokens : Type 0 where
  pub operations : OperationTokens
  pub loaded : (line piece number : ℕ) → Bool

-- ---- where a line stands

-- on an edge, or it has vanished; how many operations it has passed there; and the loads that have fired
pub record Standing : Type 0 where
  pub edge : Option ℕ
  pub passed : ℕ
  pub loaded : (piece number : ℕ) → Bool

abbrev pub standing : ForkTokens → (line : ℕ) → Standing
standing m line = record { edge = edge_of m.operations.tokens line; passed = passed_by m.operations line; loaded = m.loaded line }

-- the line stands before this load: the load is one of the group, and hasn't fired
abbrev pub is_open_on : OperationNet → (line piece number : ℕ) → Standing → Option ℕ → Bool
is_open_on x line piece number s None = false
is_open_on x line piece number s (Some edge) = is_among (group_at x line (spot edge s.passed)) piece number && not (s.loaded piece number)

abbrev pub is_open : OperationNet → (line piece number : ℕ) → Standing → Bool
is_open x line piece number s = is_open_on x line piece number s s.edge

-- ---- what a load does to a line

abbrev pub none_loaded : (piece number : ℕ) → Bool
none_loaded piece number = false

abbrev pub with_load : (piece number : ℕ) → ((piece number : ℕ) → Bool) → (other_piece other : ℕ) → Bool
with_load piece number loaded other_piece other = ((piece == other_piece) && (number == other)) || loaded other_piece other

-- all loads of the group have fired
abbrev pub is_whole : OperationNet → (line : ℕ) → Standing → Spot → Bool
is_whole x line s at = list_all (λ (load : Site). s.loaded load.piece load.number) (group_at x line at)

abbrev pub standing_at : Spot → Standing
standing_at at = record { edge = Some at.edge; passed = at.passed; loaded = none_loaded }

-- Once all have fired, the line goes on to where it stands after the last one. Until then it stays.
abbrev pub gone_on : OperationNet → (line : ℕ) → Standing → Option ℕ → Standing
gone_on x line s None = s
gone_on x line s (Some edge) = let at = spot edge s.passed in if is_whole x line s at then standing_at (behind_group x line at) else s

-- one more load has fired
abbrev pub read_by : OperationNet → (line piece number : ℕ) → Standing → Standing
read_by x line piece number s = gone_on x line (record s { loaded = with_load piece number s.loaded }) s.edge

-- ---- which nodes are ready

-- A load waits for its lines, for its operands, and until its value was taken.
abbrev pub can_load : OperationNet → ForkTokens → (k piece i : ℕ) → Operation → Bool
can_load x m k piece i op =
    list_all (λ line. is_open x line piece i (standing m line)) (needed x piece i) && list_all (is_given x m.operations piece) op.operands && not (is_some (value_at m.operations k))

abbrev pub is_load_node : OperationNet → NodeName → Bool
is_load_node x (Op piece i) = is_load (operation_at x piece i).work
is_load_node x _ = false

abbrev pub fork_ready_as : OperationNet → ForkTokens → ℕ → NodeName → Bool
fork_ready_as x m k (Op piece i) = if is_load (operation_at x piece i).work then can_load x m k piece i (operation_at x piece i) else ready_as x m.operations k (Op piece i)
fork_ready_as x m k name = ready_as x m.operations k name

-- ---- what firings do

-- where a line stands after a load
abbrev pub after_load : OperationNet → ForkTokens → (piece i line : ℕ) → Standing
after_load x m piece i line = read_by x line piece i (standing m line)

-- Beside the lines that it needs, a load changes what it changes in a net of operations.
abbrev pub loaded_on : OperationNet → ForkTokens → (piece i : ℕ) → (done : OperationTokens) → ForkTokens
loaded_on x m piece i done = record {
  operations = record {
    tokens = record done.tokens { lines = with_all m.operations.tokens.lines (needed x piece i) (λ line. (after_load x m piece i line).edge) };
    passed = replaced m.operations.passed (needed x piece i) (λ line. (after_load x m piece i line).passed);
    values = done.values;
  };
  loaded = λ line. if x.needs piece i line then (after_load x m piece i line).loaded else m.loaded line;
}

-- other nodes do what they do there
abbrev pub unforked : ForkTokens → OperationTokens → ForkTokens
unforked m done = record { operations = done; loaded = m.loaded }

abbrev pub fork_fired_as : OperationNet → ForkTokens → ℕ → NodeName → ForkTokens
fork_fired_as x m k (Op piece i) = let done = fired_as x m.operations k (Op piece i) in if is_load (operation_at x piece i).work then loaded_on x m piece i done else unforked m done
fork_fired_as x m k name = unforked m (fired_as x m.operations k name)

-- ---- the moves

abbrev pub fork_moves : OperationNet → Moves ForkTokens
fork_moves x = record {
  nodes = length (all_operation_nodes x);
  name = operation_node x;
  serial = λ k. serial_as x (operation_node x k);
  ready = λ m k. fork_ready_as x m k (operation_node x k);
  fired = λ m k. fork_fired_as x m k (operation_node x k);
  line = λ m k. line_as x m.operations (operation_node x k);
  trap = λ m. m.operations.tokens.trap;
}

-- the program's own order is that of a net of operations
abbrev pub fork_course : OperationNet → Course ForkTokens Control
fork_course x = record { due = λ m c. due_operation x c; moved = λ m c. control_after x m.operations c }

-- a marking at which no load has fired of a group whose others haven't
abbrev pub with_no_loads : OperationTokens → ForkTokens
with_no_loads m = record { operations = m; loaded = λ line. none_loaded }

-- the marking before any firing
abbrev pub first_fork_tokens : OperationNet → ForkTokens
first_fork_tokens x = with_no_loads (first_operation_tokens x)
