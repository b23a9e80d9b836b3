use Rattle.cycle_equiv.proofs.NamedClasses.{names_tell_classes as told}
use Rattle.cycle_equiv.proofs.laws.names_tell_classes.Goals as goal

pub returns : goal.returns
returns c = told
