use Rattle.std.proofs.Common.{take}
use Rattle.view_jobs.specs.Lowered.{lines_text}
use Rattle.view_output.specs.Told.{Adds, told}
use Rattle.view_jobs.proofs.lowered.write_lines.Given as goal

abbrev pub invariant-loop-k : goal.invariant-loop-k
invariant-loop-k g l = Adds (told g.K.Sink.got l.initial.output) (told g.K.Sink.got l.output) (lines_text 1 (take l.k l.lines))
