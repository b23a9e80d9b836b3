use Rattle.sure_traps.proofs.Constants.{shown}
use Rattle.sure_traps.proofs.laws.constants_show_their_traps.Goals as goal

pub returns : goal.returns
returns c = shown
