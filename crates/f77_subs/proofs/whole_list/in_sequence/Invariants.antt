use Rattle.std.proofs.Common.{◌≡◌}
use Rattle.f77_subs.proofs.whole_list.in_sequence.Given as goal

abbrev pub invariant-loop-s : goal.invariant-loop-s
invariant-loop-s l = l.list ≡ l.yielded
