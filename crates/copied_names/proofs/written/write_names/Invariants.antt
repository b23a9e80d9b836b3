use Rattle.std.proofs.Common.{take}
use Rattle.view_output.specs.Told.{Adds, told}
use Rattle.copied_names.specs.WrittenNames.{names_text}
use Rattle.copied_names.proofs.written.write_names.Given as goal

abbrev pub invariant-loop-name : goal.invariant-loop-name
invariant-loop-name g l = Adds (told g.K.Sink.got l.initial.output) (told g.K.Sink.got l.output) (names_text (take l.name-index l.names))
