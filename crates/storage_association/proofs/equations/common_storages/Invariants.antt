use Rattle.std.proofs.Common.{take}
use Rattle.layout_rules.specs.Declarations.{all_commons}
use Rattle.layout_rules.specs.Storage.{standings}
use Rattle.storage_association.specs.CommonStorages.{AreCommons}
use Rattle.storage_association.proofs.equations.common_storages.Given as goal

abbrev pub invariant-loop-s : goal.invariant-loop-s
invariant-loop-s l = AreCommons l.names (standings l.names (all_commons (take l.s-index l.stmts))) l.commons
