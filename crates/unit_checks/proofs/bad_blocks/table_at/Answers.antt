use Rattle.std.proofs.Common.{length, refl, arith}
use Rattle.std.proofs.lemmas.Option.{slice_get_read}
use Rattle.unit_checks.proofs.bad_blocks.table_at.Goals as goal

pub returns : goal.returns
returns c =
    let tables = c.args.tables.now in
    let k = c.args.k in
    let table = c.index-tables-k.result in
    let count = c.requires.tables.count in
    let few = c.requires.unit in
    c.requires.tables.each k table (slice_get_read tables (length tables) k table refl (omega (arith, count, few)) c.index-tables-k.is)
