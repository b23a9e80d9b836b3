use Rattle.std.proofs.Common.{◌+◌, length, arith}
use Rattle.flat_programs.specs.Executables.{first_of}
use Rattle.flat_programs.proofs.FlowLemmas.{first_of-most, entry_read}
use Rattle.flat_programs.proofs.executables.first_kind.Goals as goal

pub overflow_add-result : goal.overflow_add-result
overflow_add-result c =
    let flat = c.args.flat.now in
    let at = entry_read flat (first_of flat) (length flat + 1) c.args.place c.index-index.result.now c.args.flow.now.first.items c.requires.flow.first (omega (arith, c.requires.place)) c.index-index.ensures in
    omega (arith, at, first_of-most flat c.args.place, c.requires.place, c.requires.flow.short)

pub overflow_add-result-in-LogicalIf : goal.overflow_add-result-in-LogicalIf
overflow_add-result-in-LogicalIf c =
    let flat = c.args.flat.now in
    let at = entry_read flat (first_of flat) (length flat + 1) c.args.place c.index-index.result.now c.args.flow.now.first.items c.requires.flow.first (omega (arith, c.requires.place)) c.index-index.ensures in
    omega (arith, at, first_of-most flat c.args.place, c.requires.place, c.requires.flow.short)
