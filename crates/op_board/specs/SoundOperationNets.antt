-- Which nets of operations are those of programs, and which of their markings can come.
use Rattle.std.specs.Prelude.{◌≡◌, ◌<◌, ◌↔◌, ℕ, true, length}
use Rattle.alias_classes.specs.Classes.{ClassTable}
use Rattle.net_board.specs.Nodes.{graph_in}
use Rattle.net_board.specs.ProgramFacts.{ProgramFacts}
use Rattle.net_board.specs.SoundNets.{IsNet, IsMarking}
use Rattle.op_board.specs.Needs.{OperationNeeds, TrapsAsKnown}
use Rattle.op_board.specs.OperationNets.{OperationNet, all_operation_nodes, operation_at, operation_count}
use Rattle.op_board.specs.OperationTokens.{OperationTokens}

-- each operation needs these lines, and no others
abbrev pub AreNeeds : OperationNet → ClassTable → Type 0
AreNeeds x c = (piece i line : ℕ) → piece < (graph_in x.net).nodes → i < operation_count x piece → (x.needs piece i line ≡ true) ↔ OperationNeeds c (x.net.touches piece) (operation_at x piece i) line

pub record IsOperationNet (x : OperationNet) : Type 0 where
  pub is_net : IsNet x.net
  pub own_needs : AreNeeds x is_net.classes
  -- A piece touches the line of output where an operator of it traps at what is known: else that could fire at any time.
  pub traps : (piece i : ℕ) → piece < (graph_in x.net).nodes → i < operation_count x piece → TrapsAsKnown (operation_at x piece i) → x.net.touches piece 0 ≡ true

-- there is a number for each line, and a place for the value of each node
pub record IsOperationMarking (x : OperationNet) (m : OperationTokens) : Type 0 where
  pub tokens : IsMarking x.net m.tokens
  pub passed : length m.passed ≡ x.net.routing.lines
  pub values : length m.values ≡ length (all_operation_nodes x)

-- a marking of a net of operations that can come
pub record OperationsCanCome (x : OperationNet) (m : OperationTokens) : Type 0 where
  pub ground : ProgramFacts
  pub is_net : IsOperationNet x
  pub is_marking : IsOperationMarking x m
