use Rattle.closed_walks.proofs.Cuts.{class_side}
use Rattle.closed_walks.proofs.region_laws.sides_of_classes.Goals as goal

pub returns : goal.returns
returns c = λ g a b sound strong p. class_side g sound strong a b p
