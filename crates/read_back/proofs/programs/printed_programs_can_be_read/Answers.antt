use Rattle.read_back.proofs.ReadPrograms.{can_be_read}
use Rattle.read_back.proofs.programs.printed_programs_can_be_read.Goals as goal

pub returns : goal.returns
returns c = λ p flat is. can_be_read p flat is (c.executables_tell_statements.ensures.proper p flat is.well_formed is.statements)
