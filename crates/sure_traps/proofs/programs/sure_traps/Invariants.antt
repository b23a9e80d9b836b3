use Rattle.std.proofs.Common.{◌≡◌, drop}
use Rattle.sure_traps.specs.SureTraps.{traps_among, traps_of}
use Rattle.sure_traps.proofs.programs.sure_traps.Given as goal

abbrev pub invariant-loop-exec : goal.invariant-loop-exec
invariant-loop-exec l = traps_of l.p ≡ traps_among l.p.names l.traps.items (drop l.exec-index l.exec-items)
