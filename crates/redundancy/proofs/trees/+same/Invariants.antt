use Rattle.std.proofs.Common.{◌≡◌, length, take}
use Rattle.redundancy.proofs.trees.+same.Given as goal

abbrev pub invariant-all_same-loop-x : goal.invariant-all_same-loop-x
invariant-all_same-loop-x l = record {
  counted : l.k ≡ l.x-index;
  items : l.x-items ≡ l.xs;
  as_many : length l.xs ≡ length l.ys;
  same : take l.x-index l.xs ≡ take l.x-index l.ys;
}
