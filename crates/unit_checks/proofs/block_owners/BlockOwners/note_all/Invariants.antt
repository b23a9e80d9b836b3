use Rattle.std.proofs.Common.{◌≡◌, ℕ, List, Option, take}
use Rattle.std.specs.List.{list_any}
use Rattle.f77_tree.specs.Places.{same_block}
use Rattle.layout_rules.specs.Faults.{answer_or}
use Rattle.program_units.specs.CallTable.{unit_if}
use Rattle.unit_checks.specs.BlockTables.{owner_in}
use Rattle.unit_checks.proofs.block_owners.BlockOwners.note_all.Given as goal

abbrev pub invariant-loop-block : goal.invariant-loop-block
invariant-loop-block l = (other : Option (List ℕ)) → owner_in l.self other ≡ answer_or (owner_in l.initial.self other) (unit_if (list_any (λ (b : Option (List ℕ)). same_block b other) (take l.block-index l.blocks)) l.k)
