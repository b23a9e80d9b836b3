use Rattle.simplified_laws.proofs.LeadingOn.{first-live, lead-on}
use Rattle.simplified_laws.proofs.laws.live_executables_lead_on.Goals as goal

pub returns-clause-first : goal.returns-clause-first
returns-clause-first c = first-live c.reaching_is_told.ensures c.chains_lead_to_successors.ensures.chain c.chains_lead_to_successors.ensures.first c.flow_graph_is_strong.ensures c.flow_graph_has_shape.ensures c.live_decisions_are_known.ensures

pub returns-clause-leads : goal.returns-clause-leads
returns-clause-leads c = lead-on c.reaching_is_told.ensures c.chains_lead_to_successors.ensures.chain c.flow_graph_is_strong.ensures c.flow_graph_has_shape.ensures c.live_decisions_are_known.ensures
