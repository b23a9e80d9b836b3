use Rattle.std.proofs.Common.{◌≡◌, take}
use Rattle.inlined_copies.specs.LabelCounts.{labels_of}
use Rattle.f77_subs.proofs.whole_list.labels_in_main.Given as goal

abbrev pub invariant-loop-s : goal.invariant-loop-s
invariant-loop-s l = l.total ≡ labels_of l.units.us.now l.units.counts.now 0 (take l.s-index l.stmts)
