use Rattle.net_board.proofs.ArrivalLaws.{arrival_busy, arrival_by_doublings}
use Rattle.net_board.proofs.simulation_laws.control_arrives.Goals as goal

pub returns-clause-busy : goal.returns-clause-busy
returns-clause-busy c = λ net edge well inside. arrival_busy net (c.flow_graphs_lead_on.ensures net well) edge inside

pub returns-clause-doublings : goal.returns-clause-doublings
returns-clause-doublings c = λ net edge well inside. arrival_by_doublings net (c.flow_graphs_lead_on.ensures net well) edge inside
