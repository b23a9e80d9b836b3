use Rattle.std.proofs.Common.{take}
use Rattle.std.specs.Prelude.{flat_map}
use Rattle.layout_rules.specs.Storage.{standings_of}
use Rattle.storage_association.specs.CommonStorages.{AreSomeCommons, Extends}
use Rattle.storage_association.proofs.equations.Commons.stand_in_parts.Given as goal

abbrev pub invariant-loop-part : goal.invariant-loop-part
invariant-loop-part l = record {
  some : AreSomeCommons l.names l.self;
  came : Extends l.names l.fn.self l.self (flat_map (standings_of l.names) (take l.part-index l.parts));
}
