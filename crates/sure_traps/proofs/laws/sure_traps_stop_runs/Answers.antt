use Rattle.sure_traps.proofs.Sound.{sound}
use Rattle.sure_traps.proofs.Stops.{stops}
use Rattle.sure_traps.proofs.laws.sure_traps_stop_runs.Goals as goal

pub returns-clause-expressions : goal.returns-clause-expressions
returns-clause-expressions c = λ names e h store next. sound names store next e h

pub returns-clause-executables : goal.returns-clause-executables
returns-clause-executables c = stops
