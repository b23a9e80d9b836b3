use Rattle.cycle_equiv.proofs.BracketClasses.{brackets_tell_classes as told}
use Rattle.cycle_equiv.proofs.laws.brackets_tell_classes.Goals as goal

pub returns : goal.returns
returns c = told
