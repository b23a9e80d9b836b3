use Rattle.std.proofs.Common.{◌≡◌, map, take}
use Rattle.program_units.specs.Expansion.{init_for}
use Rattle.f77_subs.proofs.merged_storage.changed_parts.Given as goal

abbrev pub invariant-loop-part : goal.invariant-loop-part
invariant-loop-part l = l.made ≡ map (init_for l.new.text.now.us.now l.k) (take l.part-index l.part-items)
