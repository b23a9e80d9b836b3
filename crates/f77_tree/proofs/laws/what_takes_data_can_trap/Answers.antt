use Rattle.f77_tree.proofs.ForesightLemmas.{taking-traps}
use Rattle.f77_tree.proofs.laws.what_takes_data_can_trap.Goals as goal

pub returns : goal.returns
returns c = taking-traps
