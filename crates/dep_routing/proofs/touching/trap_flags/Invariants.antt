use Rattle.dep_routing.proofs.Flags.{TellFlags}
use Rattle.dep_routing.proofs.touching.trap_flags.Given as goal

abbrev pub invariant-loop-exec : goal.invariant-loop-exec
invariant-loop-exec l = TellFlags l.p l.exec-index l.flags.items
