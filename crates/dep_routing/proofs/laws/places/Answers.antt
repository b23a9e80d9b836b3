use Rattle.dep_routing.proofs.Placing.{place_of, place_one, place_edge, place_wire}
use Rattle.dep_routing.proofs.laws.places.Goals as goal

pub returns-clause-some : goal.returns-clause-some
returns-clause-some c = λ g t touches line e flow s edge. place_of g t (c.tree_facts.ensures g t flow s) touches line e edge

pub returns-clause-one : goal.returns-clause-one
returns-clause-one c = λ g t touches line e f h flow s a b. place_one g t (c.tree_facts.ensures g t flow s) touches line e f h a b

pub returns-clause-exists : goal.returns-clause-exists
returns-clause-exists c = λ g t touches line e f flow s edge p. place_edge g t (c.tree_facts.ensures g t flow s) touches line e f edge p

pub returns-clause-wire : goal.returns-clause-wire
returns-clause-wire c = λ g t touches line e f flow s edge p. place_wire g t (c.tree_facts.ensures g t flow s) touches line e f edge p
