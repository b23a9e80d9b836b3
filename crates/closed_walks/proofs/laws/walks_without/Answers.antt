use Rattle.closed_walks.proofs.Classes.{only_with}
use Rattle.closed_walks.proofs.laws.walks_without.Goals as goal

pub returns : goal.returns
returns c = λ g a b. only_with g a b
