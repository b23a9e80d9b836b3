use Rattle.closed_walks.proofs.Single.{passed_region, passed_inside}
use Rattle.closed_walks.proofs.region_laws.passed_nodes.Goals as goal

pub returns-clause-region : goal.returns-clause-region
returns-clause-region c = λ g node a b flow p away. passed_region g flow node a b p away

pub returns-clause-inside : goal.returns-clause-inside
returns-clause-inside c = λ g node a b n flow p. passed_inside g flow node a b p n
