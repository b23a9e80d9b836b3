use Rattle.dep_routing.proofs.FreeNodes.{bypass_told, free_of_test, passing_told, test_of_free_node, wires_alike}
use Rattle.dep_routing.proofs.free_laws.free_lines_are_told.Goals as goal

pub returns-clause-free : goal.returns-clause-free
returns-clause-free c = λ g t touches lines r node line flow is exists low.
    (λ told. free_of_test c.edges_of_nodes.ensures.touch g r t touches lines is node line low told, λ free. test_of_free_node c.edges_of_nodes.ensures.touch g r t touches lines is node line flow exists low free)

pub returns-clause-touched : goal.returns-clause-touched
returns-clause-touched c = λ g t touches lines r node line flow is exists low touched.
    test_of_free_node c.edges_of_nodes.ensures.touch g r t touches lines is node line flow exists low (c.free_nodes.ensures.touching g t touches line node touched)

pub returns-clause-passing : goal.returns-clause-passing
returns-clause-passing c = λ g t touches lines r node line flow is exists low. passing_told c.edges_of_nodes.ensures.touch g r t touches lines is node line flow exists low

pub returns-clause-wires : goal.returns-clause-wires
returns-clause-wires c = λ g t touches lines r edge line flow is exists low. wires_alike c.edges_of_nodes.ensures.touch g r t touches lines is edge line exists low

pub returns-clause-bypasses : goal.returns-clause-bypasses
returns-clause-bypasses c = λ g t touches lines r edge line flow is exists low tree.
    bypass_told c.edges_of_nodes.ensures.touch g r t touches lines is flow (c.tree_facts.ensures g t flow tree) (λ l e f edge free next. c.next_edges.ensures.wire g t touches l e f flow tree edge free next) edge line exists low
