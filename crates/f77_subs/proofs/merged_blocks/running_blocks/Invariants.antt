use Rattle.std.proofs.Common.{◌≡◌, ◌-◌, ◌≤◌, ◌⊎◌, length, ℕ, List, Option}
use Rattle.std.specs.List.{list_any}
use Rattle.f77_tree.specs.Places.{same_block}
use Rattle.program_units.specs.Names.{has_block}
use Rattle.program_units.specs.Units.{unit_at}
use Rattle.unit_laws.proofs.ManyBlocks.{run_to}
use Rattle.f77_subs.proofs.merged_blocks.running_blocks.Given as goal

abbrev pub invariant-loop-k : goal.invariant-loop-k
invariant-loop-k l = record {
  some : 1 ≤ l.k;
  most : (l.k ≤ length l.us) ⊎ (l.k ≡ 1);
  told : (x : Option (List ℕ)) → list_any (same_block x) l.blocks ≡ list_any (λ j. has_block (unit_at l.us j) x) (run_to l.us (l.k - 1));
}
