-- Which markings of the game with groups of loads can come.
use Rattle.net_board.specs.ProgramFacts.{ProgramFacts}
use Rattle.op_board.specs.OperationNets.{OperationNet}
use Rattle.op_board.specs.SoundOperationNets.{IsOperationMarking, IsOperationNet}
use Rattle.fork_board.specs.ForkTokens.{ForkTokens}

-- a marking of a net of operations that can come
pub record ForksCanCome (x : OperationNet) (m : ForkTokens) : Type 0 where
  pub ground : ProgramFacts
  pub is_net : IsOperationNet x
  pub is_marking : IsOperationMarking x m.operations
