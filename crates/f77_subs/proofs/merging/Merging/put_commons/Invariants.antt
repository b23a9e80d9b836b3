use Rattle.std.proofs.Common.{◌≡◌, ◌++◌, filter, map, take}
use Rattle.program_units.specs.Expansion.{blocks, common_of}
use Rattle.program_units.specs.Merged.{is_merged}
use Rattle.f77_subs.proofs.merging.Merging.put_commons.Given as goal

abbrev pub invariant-loop-i : goal.invariant-loop-i
invariant-loop-i l = l.out.items ≡ l.initial.out.items ++ map (common_of l.self.new.now.text.now.us.now l.self.line) (filter (is_merged l.self.new.now.text.now.us.now) (take l.i (blocks l.self.new.now.text.now.us.now)))
