use Rattle.std.proofs.Common.{◌+◌, ◌-◌, length}
use Rattle.region_tree.specs.Scan.{unseen}
use Rattle.region_tree.proofs.Scanning.{IsScanning}
use Rattle.region_tree.proofs.scan.scan.Given as goal

abbrev pub invariant-loop-done : goal.invariant-loop-done
invariant-loop-done l = IsScanning l.g l.done l.edges.items l.seen.items l.order.items

abbrev pub decreases-loop-done : goal.decreases-loop-done
decreases-loop-done l = unseen l.seen.items + (length l.order.items - l.done)
