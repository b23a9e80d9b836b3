use Rattle.std.proofs.Common.{◌≡◌, take}
use Rattle.redundancy.specs.Digests.{digest_of_all}
use Rattle.redundancy.proofs.trees.+digest.Given as goal

abbrev pub invariant-digest_all-loop-e : goal.invariant-digest_all-loop-e
invariant-digest_all-loop-e l = l.all ≡ digest_of_all (take l.e-index l.e-items)
