use Rattle.std.proofs.Common.{◌≡◌, ℕ, List, Option, take}
use Rattle.indexmap.specs.IndexMap.{get}
use Rattle.f77_tree.specs.Places.{same_block}
use Rattle.program_units.specs.Merged.{first_with_block}
use Rattle.f77_subs.proofs.merged_blocks.first_units.Given as goal

abbrev pub invariant-loop-k : goal.invariant-loop-k
invariant-loop-k l = (block : Option (List ℕ)) → get same_block l.firsts block ≡ first_with_block (take l.k l.us) block
