use Rattle.std.proofs.Common.{length}
use Rattle.set_lists.proofs.lists.members_of.Goals as goal

pub returns-in-Some-clause-there : goal.returns-in-Some-clause-there
returns-in-Some-clause-there g c = c.in-Some.ensures.there (length c.args.shared.now.items)
