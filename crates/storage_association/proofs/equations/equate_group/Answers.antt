use Rattle.layout_rules.specs.Storage.{equated}
use Rattle.storage_association.proofs.Coming.{links-next, some-next}
use Rattle.storage_association.proofs.equations.equate_group.Goals as goal
use Rattle.std.proofs.Common.{length}

pub loop-other-preserved : goal.loop-other-preserved
loop-other-preserved c =
    let names = c.args.names.now in
    let inv = c.loop-other.invariant in
    let next = some-next (length names) c.loop-other.storages c.equate.new.storages _ inv.some inv.same c.equate.ensures.links in
    record {
      some = next.0;
      same = next.1;
      came = links-next (equated names c.first-item.result) (length names) c.args.storages.now c.loop-other.storages c.equate.new.storages _ c.loop-other.other-index _ _ c.loop-other-test.true c.other-item.is inv.came c.equate.ensures.links;
    }
