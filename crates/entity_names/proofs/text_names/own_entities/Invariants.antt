use Rattle.std.proofs.Common.{◌≡◌, ◌-◌, ◌≤◌, ◌⊎◌, [], fold, length}
use Rattle.program_units.specs.Names.{with_entity}
use Rattle.entity_names.proofs.OwnEntities.{noted_to}
use Rattle.entity_names.proofs.text_names.own_entities.Given as goal

abbrev pub invariant-loop-k : goal.invariant-loop-k
invariant-loop-k l = record {
  some : 1 ≤ l.k;
  most : (l.k ≤ length l.us) ⊎ (l.k ≡ 1);
  own : l.own ≡ fold with_entity [] (noted_to l.us (l.k - 1));
}
