-- Where lines are led.
use Rattle.std.specs.Prelude.{◌≡◌, ◌<◌, Some}
use Rattle.dep_routing.specs.Routing.{next_at}
use Rattle.op_board.specs.OperationNets.{OperationNet}
use Rattle.operation_places.specs.declared.leads.Lead.{Lead}
use Rattle.operation_tables.specs.Waits.{IsNodeBefore}

-- The line, led along the edge, comes to stand on the wire, before the node. Of what is no line of the net nothing is told.
pub record IsLead (x : OperationNet) (lead : Lead) : Type 0 where
  pub wire : lead.line < x.net.routing.lines → lead.wire ≡ next_at x.net.routing lead.line lead.edge
  pub node : lead.line < x.net.routing.lines → IsNodeBefore x lead.line (Some lead.wire) 0 lead.node
