use Rattle.simplified_laws.proofs.LiveRanges.{live-starts, increments-too}
use Rattle.simplified_laws.proofs.laws.live_ranges_have_live_starts.Goals as goal

pub returns-clause-ranges : goal.returns-clause-ranges
returns-clause-ranges c =
    live-starts c.reaching_is_told.ensures c.chains_lead_to_successors.ensures.chain c.executables_have_own_pieces.ensures c.chains_lead_to_successors.ensures.first
    c.pieces_have_ways_out.ensures.count c.pieces_have_ways_out.ensures.holds
    c.flow_graph_is_strong.ensures c.flow_graph_has_shape.ensures c.live_decisions_are_known.ensures

pub returns-clause-increments : goal.returns-clause-increments
returns-clause-increments c =
    increments-too
    (live-starts c.reaching_is_told.ensures c.chains_lead_to_successors.ensures.chain c.executables_have_own_pieces.ensures c.chains_lead_to_successors.ensures.first
    c.pieces_have_ways_out.ensures.count c.pieces_have_ways_out.ensures.holds
    c.flow_graph_is_strong.ensures c.flow_graph_has_shape.ensures c.live_decisions_are_known.ensures)
