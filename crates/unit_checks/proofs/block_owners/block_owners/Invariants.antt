use Rattle.std.proofs.Common.{◌≡◌, ℕ, List, Option, take}
use Rattle.unit_checks.specs.BlockTables.{block_owner, owner_in}
use Rattle.unit_checks.proofs.block_owners.block_owners.Given as goal

abbrev pub invariant-loop-k : goal.invariant-loop-k
invariant-loop-k l = (block : Option (List ℕ)) → owner_in l.owners block ≡ block_owner (take l.k l.us) block
