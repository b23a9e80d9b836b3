use Rattle.std.proofs.Common.{sym, ◌∙◌}
use Rattle.sure_traps.proofs.Told.{told-sure, told_end}
use Rattle.sure_traps.proofs.programs.sure_traps.Goals as goal

pub returns-clause-sure : goal.returns-clause-sure
returns-clause-sure c =
    let p = c.args.p.now in
    let told = c.loop-exec.traps.items in
    told-sure p told (sym (c.loop-exec.invariant ∙ told_end p.names told c.as_slice-exec-items.result.now c.loop-exec.exec-index c.loop-exec-test.false))
