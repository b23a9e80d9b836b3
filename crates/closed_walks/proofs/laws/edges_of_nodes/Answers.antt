use Rattle.closed_walks.proofs.Touching.{Holds-edges_at, edges_at-Holds, edges_at-rising}
use Rattle.closed_walks.proofs.laws.edges_of_nodes.Goals as goal

pub returns-clause-touch : goal.returns-clause-touch
returns-clause-touch c = λ g node e. (λ held. edges_at-Holds g node e held, λ touched. Holds-edges_at g node e touched.0 touched.1)

pub returns-clause-rise : goal.returns-clause-rise
returns-clause-rise c = λ g node i j less within. edges_at-rising g node i j less within
