use Rattle.refusal_laws.proofs.Readings.{refusal-lies, statement-lies}
use Rattle.refusal_laws.proofs.laws.refusals_lie_in_their_text.Goals as goal

pub returns-clause-program : goal.returns-clause-program
returns-clause-program c = refusal-lies

pub returns-clause-statements : goal.returns-clause-statements
returns-clause-statements c = statement-lies
