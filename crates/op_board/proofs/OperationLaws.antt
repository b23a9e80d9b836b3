-- Nets of operations keep the laws of firing, and begin soundly.
use Rattle.firing.specs.Laws.{IsLawful}
use Rattle.net_board.specs.Nodes.{NetOf}
use Rattle.net_board.specs.ProgramFacts.{ProgramFacts}
use Rattle.net_board.specs.SoundNets.{CanCome, IsNet}
use Rattle.net_board.specs.Tokens.{first_tokens}
use Rattle.op_board.specs.OperationNets.{OperationNet}
use Rattle.op_board.specs.OperationTokens.{first_operation_tokens, operation_moves}
use Rattle.op_board.specs.SoundOperationNets.{IsOperationNet, OperationsCanCome}
use Rattle.op_board.proofs.CoveringNeeds.{needs_cover}
use Rattle.op_board.proofs.OperationFirings.{FiringFacts, first_operations_come, operation_laws}
use Rattle.op_board.proofs.PieceFacts.{touched_by}

pub firing_facts : (ground : ProgramFacts) (x : OperationNet) (n : IsOperationNet x) → FiringFacts x n.is_net.classes
firing_facts ground x n = record { touched = touched_by ground x n; covers = needs_cover ground x n }

pub operations_lawful : (x : OperationNet) → IsLawful (OperationsCanCome x) (operation_moves x)
operations_lawful = operation_laws (λ x ground n. firing_facts ground x n)

pub operations_begin : ((net : NetOf) → IsNet net → CanCome net (first_tokens net)) → (x : OperationNet) → IsOperationNet x → OperationsCanCome x (first_operation_tokens x)
operations_begin begin x n = first_operations_come (begin x.net n.is_net).ground x n
