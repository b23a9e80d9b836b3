use Rattle.cfg_build.specs.Flow.{flow}
use Rattle.dep_routing.proofs.LeavingRuns.{marks, leaves}
use Rattle.dep_routing.proofs.leaving.quiet_regions_are_left.Goals as goal

pub returns-clause-marks : goal.returns-clause-marks
returns-clause-marks c = λ p table touches are traps. marks p table touches are traps

pub returns-clause-leaves : goal.returns-clause-leaves
returns-clause-leaves c = λ p t touches input n r well tree marked words running quiet holds. leaves p t touches (record {
  facts = c.tree_facts.ensures (flow p.execs).graph t (c.flow_graph_is_strong.ensures p.names p.execs p.loops well) tree;
  well = well;
  enters = λ k e few plain outside within. c.ranges_are_entered_by_tests.ensures.enters p.names p.execs p.loops k e well few plain outside within;
  returns = λ e loop plain act increments. c.ranges_are_entered_by_tests.ensures.returns p.names p.execs p.loops e loop well plain act increments;
  shape = c.flow_graph_has_shape.ensures p.names p.execs p.loops well;
  keep = λ names taken m kind. c.executables_keep_the_rest.ensures.rest names taken m kind;
  acts = λ node below act. c.acts_go_on.ensures p.names p.execs p.loops node well below act;
  walk = λ taken. record { edges = λ i. c.passes_are_a_walk.ensures.edges p taken i well; leads_on = λ i runs. c.passes_are_a_walk.ensures.leads_on p taken i well runs };
}) marked input words r quiet n running holds
