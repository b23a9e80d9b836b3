use Rattle.std.proofs.Common.{◌≡◌, map, take}
use Rattle.program_units.specs.Expansion.{members_for}
use Rattle.f77_subs.proofs.merged_storage.changed_groups.Given as goal

abbrev pub invariant-loop-group : goal.invariant-loop-group
invariant-loop-group l = l.made ≡ map (members_for l.new.text.now.us.now l.k) (take l.group-index l.group-items)
