use Rattle.std.proofs.Common.{◌≡◌, fold, take}
use Rattle.program_units.specs.Names.{with_entity}
use Rattle.entity_names.specs.UnitEntities.{own_by}
use Rattle.entity_names.proofs.text_names.add_own.Given as goal

abbrev pub invariant-loop-i : goal.invariant-loop-i
invariant-loop-i l = l.own ≡ fold with_entity l.initial.own (own_by l.main l.kept l.k (take l.i l.kept.names))
