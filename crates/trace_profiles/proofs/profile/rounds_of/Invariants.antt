use Rattle.trace_profiles.proofs.Gathered.{Gathers}
use Rattle.trace_profiles.proofs.profile.rounds_of.Given as goal

abbrev pub invariant-loop-firing : goal.invariant-loop-firing
invariant-loop-firing l = Gathers l.graph l.fn.loads l.firings l.rounds l.all.items l.firing-index l.before l.line
