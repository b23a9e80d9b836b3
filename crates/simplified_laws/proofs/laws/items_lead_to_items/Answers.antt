use Rattle.simplified_laws.proofs.ItemWays.{rests-items, jumps-items}
use Rattle.simplified_laws.proofs.LiveItems.{first-item, live-items, items-lead, dos-items}
use Rattle.simplified_laws.proofs.laws.items_lead_to_items.Goals as goal

pub returns-clause-first : goal.returns-clause-first
returns-clause-first c = first-item c.live_ranges_have_live_starts.ensures.increments c.live_executables_lead_on.ensures.first

pub returns-clause-live : goal.returns-clause-live
returns-clause-live c = live-items c.live_ranges_have_live_starts.ensures.increments

pub returns-clause-leads : goal.returns-clause-leads
returns-clause-leads c = items-lead c.live_ranges_have_live_starts.ensures.increments c.live_executables_lead_on.ensures.leads

pub returns-clause-rests : goal.returns-clause-rests
returns-clause-rests c =
    rests-items c.executables_have_own_pieces.ensures c.flow_graph_is_strong.ensures c.flow_graph_has_shape.ensures c.live_decisions_are_known.ensures
    (items-lead c.live_ranges_have_live_starts.ensures.increments c.live_executables_lead_on.ensures.leads)

pub returns-clause-jumps : goal.returns-clause-jumps
returns-clause-jumps c =
    jumps-items c.executables_have_own_pieces.ensures c.flow_graph_is_strong.ensures c.flow_graph_has_shape.ensures c.live_decisions_are_known.ensures
    (items-lead c.live_ranges_have_live_starts.ensures.increments c.live_executables_lead_on.ensures.leads)

pub returns-clause-dos : goal.returns-clause-dos
returns-clause-dos c = dos-items
