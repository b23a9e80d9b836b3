use Rattle.std.proofs.Common.{◌≡◌, drop}
use Rattle.source_maps.specs.Places.{long_in}
use Rattle.source_maps.proofs.map.SourceMap.long_name.Given as goal

abbrev pub invariant-loop-long : goal.invariant-loop-long
invariant-loop-long l = long_in (drop l.long-index l.fn.self.names.now) l.name ≡ long_in l.fn.self.names.now l.name
