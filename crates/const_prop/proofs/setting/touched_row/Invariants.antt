use Rattle.std.proofs.Common.{◌-◌}
use Rattle.dep_routing.specs.Touch.{touches_in}
use Rattle.dep_routing.proofs.Listing.{IsListing}
use Rattle.const_prop.proofs.setting.touched_row.Given as goal

abbrev pub invariant-loop-line : goal.invariant-loop-line
invariant-loop-line g l = IsListing (touches_in l.touch l.node) l.lines l.line l.row

abbrev pub decreases-loop-line : goal.decreases-loop-line
decreases-loop-line g l = l.lines - l.line
