use Rattle.called_runs.proofs.StandingDeclared.{standing-declared}
use Rattle.called_runs.proofs.copied_names.stand_ins_are_declared_alike.Goals as goal

pub returns : goal.returns
returns c = λ u x. standing-declared x u
