use Rattle.called_runs.proofs.PairedPlacings.{frame-paired, frame-placed}
use Rattle.called_runs.proofs.placings.frames_are_placed.Goals as goal

pub returns-clause-placed : goal.returns-clause-placed
returns-clause-placed c = frame-placed

pub returns-clause-paired : goal.returns-clause-paired
returns-clause-paired c = frame-paired
