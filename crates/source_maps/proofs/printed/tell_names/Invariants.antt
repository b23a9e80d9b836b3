use Rattle.std.proofs.Common.{◌≡◌, map, take}
use Rattle.source_maps.specs.Places.{map_of}
use Rattle.source_maps.specs.Told.{bytes_of, name_told}
use Rattle.source_maps.proofs.printed.tell_names.Given as goal

abbrev pub invariant-loop-name : goal.invariant-loop-name
invariant-loop-name l = map bytes_of l.told.items ≡ map (name_told (map_of l.source)) (take l.name-index l.fn.names.items)
