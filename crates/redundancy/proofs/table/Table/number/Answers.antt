use Rattle.std.proofs.Common.{◌≡◌, ◌∷◌, ◌++◌, [], length, ap, ◌∙◌, rules}
use Rattle.redundancy.proofs.Tables.{table_pushed, numbered-new}
use Rattle.redundancy.proofs.table.Table.number.Goals as goal

pub returns-clause-table : goal.returns-clause-table
returns-clause-table c =
    let exprs = c.args.self.now.exprs.items in
    let counted : c.len-k.result ≡ length exprs = search rules in
    table_pushed exprs c.push-2.new.self.items c.args.self.now.buckets.items c.args.e.now c.bucket-at.result c.len-k.result c.index_mut.result.now c.push.new.self c.requires c.bucket-at.ensures c.index_mut.ensures.value c.in_ok-push.ensures counted (c.in_ok-push-2.ensures.items ∙ ap (λ x. exprs ++ x ∷ []) c.in_ok-copy.ensures)

pub returns-clause-number : goal.returns-clause-number
returns-clause-number c =
    let exprs = c.args.self.now.exprs.items in
    let counted : c.len-k.result ≡ length exprs = search rules in
    rw (c.in_ok-push-2.ensures.items, c.in_ok-copy.ensures) (numbered-new exprs c.args.e.now c.len-k.result counted c.in_default.ensures)
