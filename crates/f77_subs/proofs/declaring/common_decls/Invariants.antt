use Rattle.std.proofs.Common.{◌≡◌, map}
use Rattle.std.specs.List.{range_with_len}
use Rattle.program_units.specs.Expansion.{common_decl}
use Rattle.f77_subs.proofs.declaring.common_decls.Given as goal

abbrev pub invariant-loop-i : goal.invariant-loop-i
invariant-loop-i l = l.decls ≡ map (common_decl l.put.new.now.text.now.us.now l.block) (range_with_len 0 l.i)
