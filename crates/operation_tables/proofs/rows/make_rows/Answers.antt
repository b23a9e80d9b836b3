use mathlib.Core.Logic.{∥∥₁_map}
use Rattle.operation_tables.specs.OperationRows.{HasRows, IsHop}
use Rattle.operation_tables.specs.PlanView.{operations_in}
use Rattle.operation_tables.proofs.RowEntries.{clean_after, entries_are}
use Rattle.operation_tables.proofs.rows.make_rows.Goals as goal

pub returns-clause-rows : goal.returns-clause-rows
returns-clause-rows g c =
    let plan = c.args.plan.now in
    let x = operations_in plan in
    let piece = c.args.piece in
    ∥∥₁_map c.in_ok-rows.ensures.rows (λ (has : HasRows (IsHop x piece) x piece c.in_ok-rows.rows.items). record {
      count = has.count;
      rows = has.rows;
      entries = entries_are x plan.facts piece c.requires.piece c.linked_rows.new.scratch c.in_ok-rows.ensures.linked c.touched-touched.result.now c.in_ok-entries.entries.items c.touched-touched.ensures.lines c.in_ok-entries.ensures;
    })

pub returns-clause-clean : goal.returns-clause-clean
returns-clause-clean g c =
    let plan = c.args.plan.now in
    let x = operations_in plan in
    clean_after x plan.facts c.args.piece c.requires.piece c.linked_rows.new.scratch c.in_ok-rows.ensures.linked c.in_ok-rows.ensures.counted c.touched-touched.result.now c.touched-touched.ensures.lines c.clear_lines.new.scratch
    c.clear_lines.ensures.counts c.clear_lines.ensures.firsts c.clear_lines.ensures.before c.clear_lines.ensures.first
