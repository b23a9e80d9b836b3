use Rattle.std.proofs.Common.{ℕ, List, get_or, ap}
use Rattle.redundancy.proofs.UserWords.{met_by_one}
use Rattle.redundancy.proofs.rows.killed.Goals as goal

pub returns-in-Some : goal.returns-in-Some
returns-in-Some g c = met_by_one c.args.sets.now c.args.users.now c.args.set.now c.in-Some.n _ c.requires.users (rw c.in-Some.is at c.only_member.ensures) (ap (λ (users : List ℕ). get_or users c.in-Some.n 0) c.as_slice.ensures)
