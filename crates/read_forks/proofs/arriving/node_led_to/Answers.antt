use Rattle.std.proofs.Common.{Some, subst}
use Rattle.op_board.specs.OperationNets.{OperationNet}
use Rattle.operation_tables.specs.Waits.{IsNodeBefore}
use Rattle.read_forks.proofs.arriving.node_led_to.Goals as goal

pub returns-else-led-wire-clause-before : goal.returns-else-led-wire-clause-before
returns-else-led-wire-clause-before g c = subst (λ (y : OperationNet). IsNodeBefore y c.args.line (Some c.args.wire) 0 c.node_at.result) c.led_to-led.ensures.net c.node_at.ensures
