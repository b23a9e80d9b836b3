use Rattle.closed_walks.proofs.Cycles.{class_is_cycles}
use Rattle.closed_walks.proofs.laws.cycles_are_classes.Goals as goal

pub returns : goal.returns
returns c = λ g a b sound strong a_edge b_edge. class_is_cycles g sound strong a b a_edge b_edge
