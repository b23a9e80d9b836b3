use Rattle.std.proofs.Common.{◌≡◌, length, arith}
use Rattle.region_tree.proofs.Listings.{IsListing-skip, IsListing-take}
use Rattle.region_tree.proofs.listing.list.Goals as goal
use Rattle.region_tree.proofs.listing.list.Goals.{in-Some+in_ok-push+in_ok-push-2+in_ok-push-3, in_default+in_ok-push-4}

pub loop-e-preserved : goal.loop-e-preserved
loop-e-preserved c =
    elim c.match-next-e.branch [
      | in-Some+in_ok-push+in_ok-push-2+in_ok-push-3 w ↦
          let same : w.len.result ≡ length c.loop-e.entries.items = omega (arith, w.len.ensures, c.loop-e.entries.ok.0) in
          rw (w.numbers-is, w.entries-is, w.exits-is, w.in_ok-push.ensures.items, w.in_ok-push-2.ensures.items, w.in_ok-push-3.ensures.items, same)
          (IsListing-take c.args.next.now c.loop-e.e c.loop-e.numbers.items c.loop-e.entries.items c.loop-e.exits.items c.loop-e.invariant w.in-Some.exit
          w.in-Some.is)
      | in_default+in_ok-push-4 w ↦
          rw (w.numbers-is, w.entries-is, w.exits-is, w.in_ok-push-4.ensures.items)
          (IsListing-skip c.args.next.now c.loop-e.e c.loop-e.numbers.items c.loop-e.entries.items c.loop-e.exits.items c.loop-e.invariant
          w.in_default.is)
    ]
