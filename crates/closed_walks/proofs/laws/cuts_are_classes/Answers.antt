use Rattle.closed_walks.proofs.Cuts.{class_is_cut}
use Rattle.closed_walks.proofs.laws.cuts_are_classes.Goals as goal

pub returns : goal.returns
returns c = λ g a b sound strong a_edge b_edge apart. class_is_cut g sound strong a b a_edge b_edge apart
