use Rattle.std.proofs.Common.{length, sym, ap, ◌∙◌, subst}
use Rattle.shared_rows.specs.Blocks.{row}
use Rattle.shared_rows.specs.Table.{Table, IsFull}
use Rattle.shared_rows.proofs.Cells.{listed_length, rows_full}
use Rattle.shared_rows.proofs.rows.SharedRows.len.Goals as goal

pub returns-clause-count : goal.returns-clause-count
returns-clause-count c =
    let d = c.self.inside in
    sym (listed_length (row d.pool.items d.numbers.items d.blocks d.width) d.count) ∙ ap (λ (t : Table). length t.rows) c.self.view_is

pub returns-clause-full : goal.returns-clause-full
returns-clause-full c =
    let d = c.self.inside in
    subst (λ (t : Table). IsFull t) c.self.view_is (rows_full d.pool.items d.numbers.items d.blocks d.width d.count)
