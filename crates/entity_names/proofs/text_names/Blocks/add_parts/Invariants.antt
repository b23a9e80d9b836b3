use Rattle.std.proofs.Common.{◌≡◌, fold, map, take}
use Rattle.program_units.specs.Expansion.{with_block}
use Rattle.entity_names.proofs.text_names.Blocks.add_parts.Given as goal

abbrev pub invariant-loop-part : goal.invariant-loop-part
invariant-loop-part l = l.self ≡ fold with_block l.initial.self (map (λ part. part.block) (take l.part-index l.parts))
