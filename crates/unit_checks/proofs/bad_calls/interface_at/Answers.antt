use Rattle.std.proofs.Common.{length, refl, arith}
use Rattle.std.proofs.lemmas.Option.{slice_get_read}
use Rattle.unit_checks.proofs.bad_calls.interface_at.Goals as goal

pub returns : goal.returns
returns c =
    let table = c.args.interfaces.now in
    let k = c.args.k in
    let unit = c.index-interfaces-k.result in
    let count = c.requires.interfaces.count in
    let few = c.requires.unit in
    c.requires.interfaces.each k unit (slice_get_read table (length table) k unit refl (omega (arith, count, few)) c.index-interfaces-k.is)
