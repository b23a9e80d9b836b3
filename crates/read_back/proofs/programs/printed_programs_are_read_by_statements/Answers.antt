use Rattle.read_back.proofs.ProgramRead.{program_read}
use Rattle.read_back.proofs.programs.printed_programs_are_read_by_statements.Goals as goal

pub returns : goal.returns
returns c = λ q flat given. program_read q flat c.one_answer.ensures.only given
