use Rattle.std.proofs.Common.{map, take}
use Rattle.std.specs.Prelude.{string_bytes}
use Rattle.view_jobs.specs.Refused.{ReportsFiles}
use Rattle.view_output.specs.Told.{told}
use Rattle.view_jobs.proofs.refusals.report_files.Given as goal

abbrev pub invariant-loop-name : goal.invariant-loop-name
invariant-loop-name g l = ReportsFiles l.is_wide (g.F.Files.known l.files) (map string_bytes (take l.name-index l.names)) (told g.K.Sink.got l.initial.output) (told g.K.Sink.got l.output) l.found
