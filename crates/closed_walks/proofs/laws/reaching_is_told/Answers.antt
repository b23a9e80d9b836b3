use Rattle.closed_walks.proofs.Telling.{told}
use Rattle.closed_walks.proofs.laws.reaching_is_told.Goals as goal

pub returns : goal.returns
returns c = λ g u v sound node. told g sound u v node
