use Rattle.std.proofs.Common.{inl}
use Rattle.dep_routing.proofs.Placing.{place_free, free_next, place_passes}
use Rattle.dep_routing.proofs.laws.places_over_a_pass.Goals as goal

pub returns-clause-arrives : goal.returns-clause-arrives
returns-clause-arrives c = λ g t touches line e flow s edge free. place_free g t (c.tree_facts.ensures g t flow s) touches line e edge free

pub returns-clause-departs : goal.returns-clause-departs
returns-clause-departs c = λ g t touches line d f flow s free.
    (λ p. free_next g t (c.tree_facts.ensures g t flow s) touches line d f free p, λ n. inl (free, n))

pub returns-clause-stays : goal.returns-clause-stays
returns-clause-stays c = λ g t touches line e d f flow s edge other meets held. place_passes g t (c.tree_facts.ensures g t flow s) touches line e d f edge other meets held
