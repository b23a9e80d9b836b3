use Rattle.std.proofs.Common.{◌≡◌, ℕ, ◌<◌, true, length, get_or}
use Rattle.std.specs.Prelude.{◌↔◌}
use Rattle.class_set.specs.declared.ClassSet.{ClassSet}
use Rattle.class_set.specs.ClassSet.{holds}
use Rattle.redundancy.specs.Fitting.{WritesAt}
use Rattle.redundancy.proofs.pieces.writes_of.Given as goal

abbrev pub invariant-loop-node : goal.invariant-loop-node
invariant-loop-node g l = record {
  count : length l.all.items ≡ l.node;
  writes : (k n : ℕ) (d : ClassSet g.row.W) → k < l.node → (holds (get_or l.all.items k d) n ≡ true) ↔ WritesAt l.c l.p.execs l.f.pieces k n;
}
