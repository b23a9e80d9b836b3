use Rattle.std.proofs.Common.{inr}
use Rattle.storage_checks.proofs.given_words.GivenWords.last_reaching.Goals as goal

pub returns-else-from-end : goal.returns-else-from-end
returns-else-from-end c = inr ((c.in-Some.first, c.in-Some.end), c.in-Some.ensures, c.if-from-end.false)
