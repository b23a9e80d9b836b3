use Rattle.std.proofs.Common.{◌≡◌, map, take}
use Rattle.program_units.specs.Expansion.{member_for}
use Rattle.f77_subs.proofs.merged_storage.changed_members.Given as goal

abbrev pub invariant-loop-member : goal.invariant-loop-member
invariant-loop-member l = l.made ≡ map (member_for l.new.text.now.us.now l.k) (take l.member-index l.member-items)
