use Rattle.region_tree.specs.Listing.{IsListing}
use Rattle.region_tree.proofs.listing.list.Given as goal

abbrev pub invariant-loop-e : goal.invariant-loop-e
invariant-loop-e l = IsListing l.next l.e l.numbers.items l.entries.items l.exits.items
