use Rattle.std.proofs.Common.{◌≡◌, ◌∙◌, length, arith}
use Rattle.std.proofs.lemmas.Option.{slice_get_within}
use Rattle.operation_tables.proofs.NodeRecords.{next_records, no_records}
use Rattle.operation_tables.proofs.tables.records_of.Goals as goal

pub loop-k-init : goal.loop-k-init
loop-k-init c = no_records c.args.names.now c.args.starts.now.items c.in_ok-records.records.items c.in_ok-records.ensures.items

pub loop-k-preserved : goal.loop-k-preserved
loop-k-preserved c = next_records c.args.names.now c.args.starts.now.items c.loop-k.k c.loop-k.records.items c.push.new.self.items c.at.result c.record_of.result c.loop-k.invariant c.at.ensures c.record_of.ensures c.in_ok-push.ensures.items

pub returns-clause-count : goal.returns-clause-count
returns-clause-count c =
    let past = c.loop-k-test.false in
    let low = c.loop-k.auto.k-end in
    let end : c.loop-k.k ≡ length c.args.names.now = omega (arith, past, low, c.len-k-end.ensures) in
    c.loop-k.invariant.count ∙ end

pub returns-clause-records : goal.returns-clause-records
returns-clause-records c = λ k name at.
    let past = c.loop-k-test.false in
    let within = slice_get_within c.args.names.now k name at in
    c.loop-k.invariant.each k name (omega (arith, past, within, c.len-k-end.ensures)) at
