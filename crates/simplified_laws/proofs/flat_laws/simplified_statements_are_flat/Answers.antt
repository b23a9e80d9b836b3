use Rattle.simplified_laws.proofs.FlatResult.{statements-flat}
use Rattle.simplified_laws.proofs.flat_laws.simplified_statements_are_flat.Goals as goal

pub returns : goal.returns
returns c =
    statements-flat c.reaching_is_told.ensures c.chains_lead_to_successors.ensures.chain c.executables_have_own_pieces.ensures c.chains_lead_to_successors.ensures.first
    c.pieces_have_ways_out.ensures.count c.pieces_have_ways_out.ensures.holds
    c.flow_graph_is_strong.ensures c.flow_graph_has_shape.ensures c.live_decisions_are_known.ensures
    c.items_lead_to_items.ensures.leads c.items_lead_to_items.ensures.live c.items_lead_to_items.ensures.rests c.items_lead_to_items.ensures.jumps c.items_lead_to_items.ensures.dos
