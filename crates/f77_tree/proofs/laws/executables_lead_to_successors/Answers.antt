use Rattle.f77_tree.proofs.Outcomes.{outcome-successor}
use Rattle.f77_tree.proofs.laws.executables_lead_to_successors.Goals as goal

pub returns : goal.returns
returns c = outcome-successor
