use Rattle.form_laws.proofs.ProperPrograms.{program-each}
use Rattle.form_laws.proofs.laws.executables_have_right_kinds.Goals as goal

pub returns : goal.returns
returns c = program-each
