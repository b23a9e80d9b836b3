use Rattle.std.proofs.Common.{flat_map, take}
use Rattle.view_jobs.specs.Lowered.{short_name_text}
use Rattle.view_output.specs.Told.{Adds, told}
use Rattle.view_jobs.proofs.lowered.write_short_names.Given as goal

abbrev pub invariant-loop-long : goal.invariant-loop-long
invariant-loop-long g l = Adds (told g.K.Sink.got l.initial.output) (told g.K.Sink.got l.output) (flat_map (short_name_text) (take l.long-index l.names))
