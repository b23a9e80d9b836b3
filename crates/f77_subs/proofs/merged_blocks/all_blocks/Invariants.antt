use Rattle.std.proofs.Common.{◌≡◌, take}
use Rattle.program_units.specs.Expansion.{blocks}
use Rattle.f77_subs.proofs.merged_blocks.all_blocks.Given as goal

abbrev pub invariant-loop-k : goal.invariant-loop-k
invariant-loop-k l = l.blocks ≡ blocks (take l.k l.us)
