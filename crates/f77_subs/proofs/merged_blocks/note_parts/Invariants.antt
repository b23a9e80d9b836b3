use Rattle.std.proofs.Common.{◌≡◌, ℕ, List, Option, take}
use Rattle.std.specs.List.{list_any}
use Rattle.indexmap.specs.IndexMap.{get}
use Rattle.f77_tree.specs.Places.{same_block}
use Rattle.layout_rules.specs.Faults.{answer_or}
use Rattle.program_units.specs.CallTable.{unit_if}
use Rattle.f77_subs.proofs.merged_blocks.note_parts.Given as goal

abbrev pub invariant-loop-part : goal.invariant-loop-part
invariant-loop-part l = (block : Option (List ℕ)) → get same_block l.firsts block ≡ answer_or (get same_block l.initial.firsts block) (unit_if (list_any (λ p. same_block p.block block) (take l.part-index l.parts)) l.k)
