use Rattle.std.proofs.Common.{◌≡◌, ◌++◌, flat_map, take}
use Rattle.f77_subs.specs.MergedStorage.{stored}
use Rattle.f77_subs.proofs.merged_storage.put_unit_storage.Given as goal

abbrev pub invariant-loop-s : goal.invariant-loop-s
invariant-loop-s l = l.out.items ≡ l.initial.out.items ++ flat_map (stored l.kind l.new.text.now.us.now l.k) (take l.s-index l.unit)
