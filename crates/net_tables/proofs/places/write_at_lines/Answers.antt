use Rattle.std.proofs.Common.{get_or}
use Rattle.class_set.specs.ClassSet.{holds}
use Rattle.dep_routing.proofs.Filling.{IsFilling-more}
use Rattle.shared_rows.specs.Table.{row_at}
use Rattle.net_tables.proofs.PlaceRows.{is_next, row_next}
use Rattle.net_tables.proofs.places.write_at_lines.Goals as goal

pub loop-line-preserved : goal.loop-line-preserved
loop-line-preserved g c =
    let t = c.args.table.now in
    let k = c.args.row in
    let now = c.loop-line.table in
    let line = c.loop-line.line in
    let i = c.loop-line.invariant in
    let next = c.least_above-line-in-loop-line.result in
    let e = c.least_above-line-in-loop-line.ensures in
    record {
      is = is_next t k c.requires.row now c.set.new.self line c.args.number i.is c.in_ok-set.ensures.ok;
      filling = rw (row_next t k c.requires.row now c.set.new.self line c.args.number i.is c.in_ok-set.ensures.ok)
          (IsFilling-more (holds c.args.set.now) (λ _. c.args.number) (λ j. get_or (row_at t k) j 0) c.width-lines.result line (row_at now k) c.loop-line-test.true i.filling next e.within e.member e.none);
    }
