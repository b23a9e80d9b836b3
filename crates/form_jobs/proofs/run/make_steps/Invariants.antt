use Rattle.std.specs.Prelude.{◌-◌}
use Rattle.form_jobs.proofs.RunsMade.{IsGoing}
use Rattle.f77_meaning.specs.Stepper.{input_of, program_of}
use Rattle.form_jobs.proofs.run.make_steps.Given as goal

abbrev pub invariant-loop-made : goal.invariant-loop-made
invariant-loop-made g l = IsGoing (program_of l.initial.run) (input_of l.initial.run) l.limit l.made l.run (g.K.Sink.got l.initial.sink) (g.K.Sink.got l.sink) (g.K.Sink.faults l.initial.sink) (g.K.Sink.faults l.sink)

abbrev pub decreases-loop-made : goal.decreases-loop-made
decreases-loop-made g l = l.limit - l.made
