use Rattle.firing.specs.Control.{KeepsStep}
use Rattle.firing.specs.SourceOrder.{IsSourceOrder}
use Rattle.net_board.specs.ControlCourse.{arrival}
use Rattle.op_board.specs.OperationCourse.{operation_course}
use Rattle.op_board.specs.OperationLockstep.{IsInOperationLockstep}
use Rattle.op_board.specs.OperationTokens.{operation_moves}
use Rattle.op_board.specs.OrderFacts.{OrderFacts}
use Rattle.op_board.specs.SoundOperationNets.{OperationsCanCome}
use Rattle.net_board.specs.Tokens.{first_tokens}
use Rattle.op_board.proofs.LockstepOperations.{operations_have_order, operations_keep_step}
use Rattle.op_board.proofs.OperationControl.{begins}
use Rattle.op_board.proofs.simulation_laws.operation_nets_stay_in_lockstep.Goals as goal

pub returns-clause-begins : goal.returns-clause-begins
returns-clause-begins c = λ x n.
    let known : OrderFacts x = c.runs_ground_orders.ensures x n in
    begins x n known.operations known.words (first_tokens x.net) (arrival x.net 1) 0 known.begins known.comes

pub returns-clause-steady : goal.returns-clause-steady
returns-clause-steady c = λ x. record {
  kept = λ m p k sound in_step can due going.
      let known : OrderFacts x = c.runs_ground_orders.ensures x sound.is_net in
      let steady : KeepsStep (OperationsCanCome x) (operation_moves x) (operation_course x) (IsInOperationLockstep x) = operations_keep_step x sound.is_net known.operations known.words (c.nets_stay_in_lockstep.ensures.steady x.net) (c.nets_stay_in_lockstep.ensures.ordered x.net) in
      steady.kept m p k sound in_step can due going;
}

pub returns-clause-ordered : goal.returns-clause-ordered
returns-clause-ordered c = λ x. record {
  fires = λ m p k sound in_step going due.
      let known : OrderFacts x = c.runs_ground_orders.ensures x sound.is_net in
      let ordered : IsSourceOrder (OperationsCanCome x) (operation_moves x) (operation_course x) (IsInOperationLockstep x) = operations_have_order x sound.is_net known.operations known.words (c.nets_stay_in_lockstep.ensures.steady x.net) (c.nets_stay_in_lockstep.ensures.ordered x.net) in
      ordered.fires m p k sound in_step going due;
  over = λ m p sound in_step going due.
      let known : OrderFacts x = c.runs_ground_orders.ensures x sound.is_net in
      let ordered : IsSourceOrder (OperationsCanCome x) (operation_moves x) (operation_course x) (IsInOperationLockstep x) = operations_have_order x sound.is_net known.operations known.words (c.nets_stay_in_lockstep.ensures.steady x.net) (c.nets_stay_in_lockstep.ensures.ordered x.net) in
      ordered.over m p sound in_step going due;
}
