use Rattle.f77_tree.proofs.WellFormedLaws.{well_formed-runs}
use Rattle.f77_tree.proofs.laws.well_formed_programs_can_run.Goals as goal

pub returns : goal.returns
returns c = well_formed-runs
