use Rattle.std.proofs.Common.{◌≡◌, take}
use Rattle.program_units.specs.Expansion.{declared_first}
use Rattle.f77_subs.proofs.whole_list.declared_first.Given as goal

abbrev pub invariant-loop-i : goal.invariant-loop-i
invariant-loop-i l = declared_first (take l.i l.main) ≡ l.i
