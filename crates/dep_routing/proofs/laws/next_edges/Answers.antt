use Rattle.dep_routing.proofs.Hopping.{next_of, next_one, next_edge, next_wire, next_stays, next_back, loose_free}
use Rattle.dep_routing.proofs.laws.next_edges.Goals as goal

pub returns-clause-some : goal.returns-clause-some
returns-clause-some c = λ g t touches line e flow s. next_of g t (c.tree_facts.ensures g t flow s) touches line e

pub returns-clause-one : goal.returns-clause-one
returns-clause-one c = λ g t touches line e f h flow s a b. next_one g t (c.tree_facts.ensures g t flow s) touches line e f h a b

pub returns-clause-exists : goal.returns-clause-exists
returns-clause-exists c = λ g t touches line e f flow s edge n. next_edge g t (c.tree_facts.ensures g t flow s) touches line e f edge n

pub returns-clause-wire : goal.returns-clause-wire
returns-clause-wire c = λ g t touches line e f flow s edge free n.
    let facts = c.tree_facts.ensures g t flow s in
    next_wire g t facts touches line e f edge (loose_free g t facts touches line e free) n

pub returns-clause-stays : goal.returns-clause-stays
returns-clause-stays c = λ g t touches line e f flow s wire n. next_stays g t (c.tree_facts.ensures g t flow s) touches line e f wire n

pub returns-clause-back : goal.returns-clause-back
returns-clause-back c = λ g t touches line e d f flow s free_e free_d a b. next_back g t (c.tree_facts.ensures g t flow s) touches line e d f free_e free_d a b
