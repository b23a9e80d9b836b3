use Rattle.std.proofs.Common.{ℕ, ◌<◌, ◌%◌, List, All, length, sym, subst, ◌∙◌}
use Rattle.redundancy.specs.Digests.{digest}
use Rattle.redundancy.proofs.Tables.{found_in_table, bucket_read}
use Rattle.redundancy.proofs.table.Table.find.Goals as goal

pub find_among-requires : goal.find_among-requires
find_among-requires c =
    let exprs = c.args.self.now.exprs.items in
    let buckets = c.args.self.now.buckets.items in
    let bucket = bucket_read buckets c.bucket.result (digest c.args.e.now) c.index.result.now c.bucket.ensures c.requires.some c.index.ensures in
    subst (λ (z : List ℕ). All (λ k. k < length exprs) z) (sym (c.as_slice.ensures ∙ bucket)) (c.requires.inside (digest c.args.e.now % length buckets))

pub returns : goal.returns
returns c =
    let exprs = c.args.self.now.exprs.items in
    let buckets = c.args.self.now.buckets.items in
    let bucket = bucket_read buckets c.bucket.result (digest c.args.e.now) c.index.result.now c.bucket.ensures c.requires.some c.index.ensures in
    found_in_table exprs buckets c.args.e.now c.as_slice.result.now c.find_among.result c.requires (c.as_slice.ensures ∙ bucket) c.find_among.ensures
