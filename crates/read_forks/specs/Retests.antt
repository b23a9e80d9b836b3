-- Whose values nodes take.
use Rattle.std.specs.Prelude.{ℕ, Bool, false}
use Rattle.firing.specs.declared.system.NodeName.{NodeName}
use Rattle.firing.specs.declared.system.NodeName.TheVariants.{Op}
use Rattle.op_board.specs.OperationFootprints.{is_giver}
use Rattle.op_board.specs.OperationNets.{OperationNet}

-- the node takes the value of node k
abbrev pub takes : OperationNet → NodeName → (k : ℕ) → Bool
takes x (Op piece i) k = is_giver x piece i k
takes x _ k = false
