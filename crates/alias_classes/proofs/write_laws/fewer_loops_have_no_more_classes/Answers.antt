use Rattle.alias_classes.proofs.Writing.{fewer, same_classes}
use Rattle.alias_classes.proofs.write_laws.fewer_loops_have_no_more_classes.Goals as goal

pub returns-clause-number : goal.returns-clause-number
returns-clause-number c = λ p q same less. fewer p q same less

pub returns-clause-same : goal.returns-clause-same
returns-clause-same c = λ p q t same is. same_classes p q same t is
