-- The parts of a marking of a net of operations, and those on which the firings of each node depend.
use Rattle.std.specs.Prelude.{ℕ, ◌==◌, ◌&&◌, ◌||◌, ℤ, Bool, false, Option, slice_get}
use Rattle.std.specs.List.{list_any}
use Rattle.alias_classes.specs.Classes.{ClassTable, class_of_word, class_of_loop}
use Rattle.firing.specs.declared.system.NodeName.{NodeName}
use Rattle.firing.specs.declared.system.NodeName.TheVariants.{Merge, Op, Switch}
use Rattle.net_board.specs.Footprints.{Part, Line, Left, Word, Count, StepOf, Taken, Trap, Value, at, is_switch}
use Rattle.net_board.specs.WokenNodes.{switch_number}
use Rattle.op_board.specs.Operations.{is_decision}
use Rattle.op_board.specs.OperationNets.{OperationNet, operation_at, operation_node}
use Rattle.op_board.specs.OperationTokens.{OperationTokens, givers}

-- a part of the tokens, how many operations a line has passed, and the value of a node
pub data OperationPart : Type 0 where
  Token : (part : Part) → OperationPart
  Passed : (line : ℕ) → OperationPart
  Given : (k : ℕ) → OperationPart

abbrev pub PartValue : OperationPart → Type 0
PartValue (Token part) = Value part
PartValue (Passed line) = Option ℕ
PartValue (Given k) = Option (Option ℤ)

abbrev pub part_at : OperationTokens → (part : OperationPart) → PartValue part
part_at m (Token part) = at m.tokens part
part_at m (Passed line) = slice_get m.passed line
part_at m (Given k) = slice_get m.values k

-- the operation takes the value of this node
abbrev pub is_giver : OperationNet → (piece i k : ℕ) → Bool
is_giver x piece i k = list_any (λ giver. giver == k) (givers x piece (operation_at x piece i).operands)

-- An operation depends on the lines that it needs, on its operands and its own value, and on what belongs to these lines: words, counts
-- and steps to their classes, the data and the trap to the line of output. A decision depends on what is left for its switches too.
abbrev pub foot_as : OperationNet → ClassTable → ℕ → NodeName → OperationPart → Bool
foot_as x c k (Op piece i) (Token (Line line)) = x.needs piece i line
foot_as x c k (Op piece i) (Token (Left node)) = is_decision (operation_at x piece i).work && is_switch x.net piece node
foot_as x c k (Op piece i) (Token (Word word)) = x.needs piece i (class_of_word c word)
foot_as x c k (Op piece i) (Token (Count loop_no)) = x.needs piece i (class_of_loop c loop_no)
foot_as x c k (Op piece i) (Token (StepOf loop_no)) = x.needs piece i (class_of_loop c loop_no)
foot_as x c k (Op piece i) (Token Taken) = x.needs piece i 0
foot_as x c k (Op piece i) (Token Trap) = x.needs piece i 0
foot_as x c k (Op piece i) (Passed line) = x.needs piece i line
foot_as x c k (Op piece i) (Given j) = (k == j) || is_giver x piece i j
foot_as x c k (Switch piece line) (Token (Line other)) = line == other
foot_as x c k (Switch piece line) (Token (Left node)) = switch_number x.net piece line == node
foot_as x c k (Switch piece line) (Passed other) = line == other
foot_as x c k (Merge piece line) (Token (Line other)) = line == other
foot_as x c k (Merge piece line) (Passed other) = line == other
foot_as x c k _ _ = false

abbrev pub operation_foot : OperationNet → ClassTable → ℕ → OperationPart → Bool
operation_foot x c k part = foot_as x c k (operation_node x k) part
