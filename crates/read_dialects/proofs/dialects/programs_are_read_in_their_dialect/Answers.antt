use Rattle.read_dialects.proofs.StatementDialects.{read-dialect}
use Rattle.read_dialects.proofs.dialects.programs_are_read_in_their_dialect.Goals as goal

pub returns-clause-read : goal.returns-clause-read
returns-clause-read c = read-dialect c.one_answer.ensures.due

pub returns-clause-accepted : goal.returns-clause-accepted
returns-clause-accepted c = λ bytes checked p is. read-dialect c.one_answer.ensures.due bytes checked p (c.accepted_texts_are_read.ensures bytes checked p is)
