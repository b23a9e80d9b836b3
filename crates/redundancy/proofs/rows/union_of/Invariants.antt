use Rattle.std.proofs.Common.{◌≡◌, ℕ, ◌<◌, true, get_or}
use Rattle.class_set.specs.declared.ClassSet.{ClassSet}
use Rattle.class_set.specs.ClassSet.{holds}
use Rattle.redundancy.proofs.rows.union_of.Given as goal

abbrev pub invariant-loop-set : goal.invariant-loop-set
invariant-loop-set g l = (k n : ℕ) (d : ClassSet g.row.W) → k < l.set-index → holds (get_or l.sets k d) n ≡ true → holds l.all n ≡ true
