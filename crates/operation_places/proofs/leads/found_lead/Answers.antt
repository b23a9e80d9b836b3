use Rattle.std.proofs.lemmas.List.Elements.{All-set}
use Rattle.operation_tables.specs.BoardView.{operation_net_on}
use Rattle.operation_places.specs.declared.leads.Lead.{Lead}
use Rattle.operation_places.specs.Leads.{IsLead}
use Rattle.operation_places.proofs.leads.found_lead.Goals as goal

pub returns-then-place-len-clause-leads : goal.returns-then-place-len-clause-leads
returns-then-place-len-clause-leads g c =
    let lead : Lead = record { line = c.args.line; edge = c.args.edge; wire = c.next_wire-wire.result; node = c.node_before-node.result } in
    let is : IsLead (operation_net_on c.args.board.now) lead = record { wire = λ inside. c.next_wire-wire.ensures; node = λ inside. c.node_before-node.ensures.before } in
    All-set (IsLead (operation_net_on c.args.board.now)) c.args.leads.now.items c.args.place lead
    is c.requires.leads
