use Rattle.std.proofs.Common.{map, take}
use Rattle.layout_rules.specs.Standings.{standing_of}
use Rattle.storage_association.specs.CommonStorages.{AreSomeCommons, Extends}
use Rattle.storage_association.proofs.equations.Commons.stand_in_part.Given as goal

abbrev pub invariant-loop-decl : goal.invariant-loop-decl
invariant-loop-decl l = record {
  some : AreSomeCommons l.names l.self;
  came : Extends l.names l.fn.self l.self (map (standing_of l.names l.part.block) (take l.decl-index l.decls));
}
