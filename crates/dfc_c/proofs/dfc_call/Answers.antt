use Rattle.dfc_c.proofs.NoAnswers.{nothing_shown}
use Rattle.dfc_c.proofs.dfc_call.Goals as goal

pub returns-in-Err-NoMemory-clause-answer : goal.returns-in-Err-NoMemory-clause-answer
returns-in-Err-NoMemory-clause-answer c = λ small. nothing_shown c.args.words.now c.args.text.now c.args.out.now

pub returns-in_default-clause-answer : goal.returns-in_default-clause-answer
returns-in_default-clause-answer c = λ small. nothing_shown c.args.words.now c.args.text.now c.args.out.now
