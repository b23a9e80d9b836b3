use Rattle.std.proofs.Common.{subst}
use Rattle.brackets.specs.Brackets.{AreApart}
use Rattle.brackets.proofs.lists.BracketLists.size.Goals as goal

pub returns-clause-apart : goal.returns-clause-apart
returns-clause-apart g c = subst AreApart c.self.view_is c.self.invariant.apart
