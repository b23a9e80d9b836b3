use Rattle.std.proofs.Common.{◌-◌}
use Rattle.dep_routing.specs.Touch.{touches_in}
use Rattle.dep_routing.proofs.Listing.{IsListing}
use Rattle.dep_routing.proofs.touched.touched_lines.Given as goal

abbrev pub invariant-loop-line : goal.invariant-loop-line
invariant-loop-line g l = IsListing (touches_in l.touch l.node) l.lines l.line l.list

abbrev pub decreases-loop-line : goal.decreases-loop-line
decreases-loop-line g l = l.lines - l.line
