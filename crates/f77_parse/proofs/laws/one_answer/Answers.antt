use Rattle.f77_parse.proofs.StatementsKept.{reading_due, only_reading}
use Rattle.f77_parse.proofs.laws.one_answer.Goals as goal

pub returns-clause-due : goal.returns-clause-due
returns-clause-due c = reading_due

pub returns-clause-only : goal.returns-clause-only
returns-clause-only c = only_reading
