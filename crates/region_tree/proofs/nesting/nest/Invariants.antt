use Rattle.std.proofs.Common.{take}
use Rattle.region_tree.specs.Nesting.{IsNested, table}
use Rattle.region_tree.proofs.nesting.nest.Given as goal

abbrev pub invariant-loop-e : goal.invariant-loop-e
invariant-loop-e l = IsNested l.g (table l.listing.entries.items l.listing.exits.items) (take l.e-index l.edges) l.parents.items l.innermost.items
