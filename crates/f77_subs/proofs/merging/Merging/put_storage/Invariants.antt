use Rattle.std.proofs.Common.{◌≡◌, ◌++◌, ◌-◌, ◌≤◌, ◌⊎◌, length, flat_map}
use Rattle.f77_subs.specs.MergedStorage.{unit_storage}
use Rattle.unit_laws.proofs.ManyBlocks.{run_to}
use Rattle.f77_subs.proofs.merging.Merging.put_storage.Given as goal

abbrev pub invariant-loop-k : goal.invariant-loop-k
invariant-loop-k l = record {
  some : 1 ≤ l.k;
  most : (l.k ≤ length l.self.new.now.text.now.us.now) ⊎ (l.k ≡ 1);
  put : l.out.items ≡ l.initial.out.items ++ flat_map (unit_storage l.kind l.self.new.now.text.now.us.now) (run_to l.self.new.now.text.now.us.now (l.k - 1));
}
