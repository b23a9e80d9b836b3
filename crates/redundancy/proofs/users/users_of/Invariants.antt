use Rattle.redundancy.specs.Killing.{AreUsers}
use Rattle.redundancy.proofs.users.users_of.Given as goal

abbrev pub invariant-loop-k : goal.invariant-loop-k
invariant-loop-k g l = AreUsers l.sets l.k l.users
