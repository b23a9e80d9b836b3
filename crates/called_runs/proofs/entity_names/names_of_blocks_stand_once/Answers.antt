use Rattle.called_runs.proofs.BlocksOfTexts.{stand-once}
use Rattle.called_runs.proofs.entity_names.names_of_blocks_stand_once.Goals as goal

pub returns : goal.returns
returns c = λ stmts checked text accepted k block i x there. stand-once stmts checked accepted text c.programs_are_well_formed.ensures.well_formed c.units_are_sources.ensures k block i x there
