use Rattle.std.proofs.Common.{flat_map, take}
use Rattle.source_maps.specs.Places.{map_of}
use Rattle.view_jobs.specs.Names.{name_text}
use Rattle.view_output.specs.Told.{Adds, told}
use Rattle.view_jobs.proofs.names.write_names.Given as goal

abbrev pub invariant-loop-name : goal.invariant-loop-name
invariant-loop-name g l = Adds (told g.K.Sink.got l.initial.output) (told g.K.Sink.got l.output) (flat_map (name_text (map_of l.source)) (take l.name-index l.names))
