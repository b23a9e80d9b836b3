use Rattle.std.proofs.Common.{length}
use Rattle.layout_rules.specs.Declarations.{all_commons}
use Rattle.layout_rules.specs.Storage.{standings}
use Rattle.storage_association.specs.Storages.{AreStorages}
use Rattle.layout_rules.specs.Standings.{firsts_of}
use Rattle.storage_association.specs.CommonStorages.{StayRight, equations_to}
use Rattle.storage_association.proofs.equations.place_names.Given as goal

abbrev pub invariant-loop-s : goal.invariant-loop-s
invariant-loop-s l = record {
  held : AreStorages (length l.names) (firsts_of (standings l.names (all_commons l.stmts))) (equations_to l.names l.stmts l.s-index) l.storages;
  right : StayRight l.names l.stmts l.s-index;
}
