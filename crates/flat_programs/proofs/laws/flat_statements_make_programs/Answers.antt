use Rattle.flat_programs.proofs.FlatPrograms.{are-execs, program-well_formed}
use Rattle.flat_programs.proofs.laws.flat_statements_make_programs.Goals as goal

pub returns-clause-executables : goal.returns-clause-executables
returns-clause-executables c = are-execs

pub returns-clause-program : goal.returns-clause-program
returns-clause-program c = program-well_formed
