-- The parts of a marking of the game with groups of loads, those on which the firings of each node depend, and those that loads share.
use Rattle.std.specs.Prelude.{ℕ, ◌&&◌, Bool, true, false, if◌then◌else◌, Option, Some, None, slice_get}
use Rattle.alias_classes.specs.Classes.{ClassTable}
use Rattle.firing.specs.declared.system.NodeName.{NodeName}
use Rattle.firing.specs.declared.system.NodeName.TheVariants.{Op}
use Rattle.net_board.specs.Footprints.{Line, Left, Word, Count, StepOf, Taken, Trap}
use Rattle.net_board.specs.Tokens.{joined}
use Rattle.op_board.specs.OperationFootprints.{OperationPart, Token, Passed, Given, PartValue, foot_as, part_at}
use Rattle.op_board.specs.OperationNets.{OperationNet, operation_node}
use Rattle.op_board.specs.OperationTokens.{OperationTokens}
use Rattle.fork_board.specs.ForkTokens.{ForkTokens, Standing, is_load_node, read_by}

-- all that tells where a line stands, and each part of a marking of operations that doesn't
pub data ForkPart : Type 0 where
  Stand : (line : ℕ) → ForkPart
  Rest : (part : OperationPart) → ForkPart

-- the places for a line, if there are such
pub record StandValue : Type 0 where
  pub edge : Option (Option ℕ)
  pub passed : Option ℕ
  pub loaded : (piece number : ℕ) → Bool

abbrev pub tells_line : OperationPart → Bool
tells_line (Token (Line line)) = true
tells_line (Token part) = false
tells_line (Passed line) = true
tells_line (Given k) = false

-- what tells where a line stands is left out
abbrev pub rest_at : OperationTokens → (part : OperationPart) → PartValue part
rest_at m (Token (Line line)) = None
rest_at m (Token (Left node)) = part_at m (Token (Left node))
rest_at m (Token (Word word)) = part_at m (Token (Word word))
rest_at m (Token (Count n)) = part_at m (Token (Count n))
rest_at m (Token (StepOf n)) = part_at m (Token (StepOf n))
rest_at m (Token Taken) = part_at m (Token Taken)
rest_at m (Token Trap) = part_at m (Token Trap)
rest_at m (Passed line) = None
rest_at m (Given k) = part_at m (Given k)

abbrev pub ForkValue : ForkPart → Type 0
ForkValue (Stand line) = StandValue
ForkValue (Rest part) = PartValue part

abbrev pub fork_part_at : ForkTokens → (part : ForkPart) → ForkValue part
fork_part_at m (Stand line) = record { edge = slice_get m.operations.tokens.lines line; passed = slice_get m.operations.passed line; loaded = m.loaded line }
fork_part_at m (Rest part) = rest_at m.operations part

-- a node depends on what it depends on in a net of operations
abbrev pub fork_foot_as : OperationNet → ClassTable → ℕ → NodeName → ForkPart → Bool
fork_foot_as x c k name (Stand line) = foot_as x c k name (Token (Line line))
fork_foot_as x c k name (Rest part) = if tells_line part then false else foot_as x c k name part

abbrev pub fork_foot : OperationNet → ClassTable → ℕ → ForkPart → Bool
fork_foot x c k part = fork_foot_as x c k (operation_node x k) part

-- ---- what loads share

abbrev pub is_read : OperationPart → Bool
is_read (Token (Word word)) = true
is_read (Token (Count n)) = true
is_read (Token (StepOf n)) = true
is_read _ = false

-- loads share the lines that they need, and what belongs to these in the memory
abbrev pub fork_shares_as : OperationNet → ClassTable → ℕ → NodeName → ForkPart → Bool
fork_shares_as x c k name (Stand line) = is_load_node x name && foot_as x c k name (Token (Line line))
fork_shares_as x c k name (Rest part) = is_load_node x name && (is_read part && foot_as x c k name part)

abbrev pub fork_shares : OperationNet → ClassTable → ℕ → ForkPart → Bool
fork_shares x c k part = fork_shares_as x c k (operation_node x k) part

abbrev pub number_in : Option ℕ → ℕ
number_in None = 0
number_in (Some n) = n

abbrev pub standing_of : StandValue → Standing
standing_of v = record { edge = joined v.edge; passed = number_in v.passed; loaded = v.loaded }

-- what stands at a place, if there is such, after something is put there
abbrev pub put_in : {A : Type 0} → A → Option A → Option A
put_in new None = None
put_in new (Some old) = Some new

abbrev pub stood_as : Standing → StandValue → StandValue
stood_as s v = record { edge = put_in s.edge v.edge; passed = put_in s.passed v.passed; loaded = s.loaded }

-- a load makes a step on each line that it needs, and leaves the memory
abbrev pub stand_read : OperationNet → (line : ℕ) → NodeName → StandValue → StandValue
stand_read x line (Op piece i) v = stood_as (read_by x line piece i (standing_of v)) v
stand_read x line _ v = v

abbrev pub fork_update : OperationNet → ℕ → (part : ForkPart) → ForkValue part → ForkValue part
fork_update x k (Stand line) v = stand_read x line (operation_node x k) v
fork_update x k (Rest part) v = v
