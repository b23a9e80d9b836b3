use Rattle.std.proofs.Common.{◌∙◌, List, length, slice_get, ap, sym}
use Rattle.firing.specs.declared.system.NodeName.{NodeName}
use Rattle.op_board.specs.OperationNets.{all_operation_nodes}
use Rattle.operation_tables.specs.PlanView.{operations_in}
use Rattle.operation_tables.proofs.NodeRecords.{AreRecords, all_counted, operation_recorded, other_recorded}
use Rattle.operation_tables.proofs.tables.make_tables.Goals as goal

pub records_of-requires : goal.records_of-requires
records_of-requires g c = λ k name at.
    let made = c.in_ok-rows.field-0 in
    all_counted (operations_in c.args.plan.now) made.rows.items made.starts.items made.entries.items c.in_ok-rows.ensures k name (ap (λ (names : List NodeName). slice_get names k) (sym c.requires.names) ∙ at)

pub returns : goal.returns
returns g c =
    let x = operations_in c.args.plan.now in
    let nodes = c.requires in
    let made = c.in_ok-rows.field-0 in
    let count = c.in_ok-records.ensures.count ∙ ap length nodes.names in
    let each : AreRecords (all_operation_nodes x) made.starts.items (length (all_operation_nodes x)) c.in_ok-records.records.items = record {
      count = count;
      each = λ k name below at. c.in_ok-records.ensures.records k name (ap (λ (names : List NodeName). slice_get names k) nodes.names ∙ at);
    } in
    record {
      names = nodes.names;
      few = nodes.few;
      firsts = nodes.firsts;
      rows = c.in_ok-rows.ensures;
      records = count;
      operations = operation_recorded x made.rows.items made.starts.items made.entries.items c.in_ok-rows.ensures c.in_ok-records.records.items each;
      others = other_recorded x made.rows.items made.starts.items made.entries.items c.in_ok-rows.ensures c.in_ok-records.records.items each;
      most = nodes.most;
      fits = nodes.fits;
    }
