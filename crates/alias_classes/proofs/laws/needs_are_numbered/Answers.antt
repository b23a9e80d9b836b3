use Rattle.alias_classes.proofs.Numbered.{exec-numbered}
use Rattle.alias_classes.proofs.laws.needs_are_numbered.Goals as goal

pub returns : goal.returns
returns c = λ p t kind n is classes can needs. exec-numbered c.accesses_stay_in_their_names.ensures.own p t n is classes kind can needs
