use Rattle.f77_tree.proofs.KnownValues.{known_with-is, known-known_with}
use Rattle.f77_tree.proofs.laws.known_values_are_right.Goals as goal

pub returns-clause-value : goal.returns-clause-value
returns-clause-value c = λ names words store next e z right is. known_with-is names words store next right e z is

pub returns-clause-more : goal.returns-clause-more
returns-clause-more c = known-known_with
