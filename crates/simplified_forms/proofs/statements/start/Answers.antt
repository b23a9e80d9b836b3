use Rattle.std.proofs.Common.{◌<◌, subst, arith}
use Rattle.f77_tree.specs.declared.programs.ExecKind.{ExecKind}
use Rattle.f77_tree.specs.CanRun.{CanExecute}
use Rattle.f77_tree.specs.Loops.{do_next}
use Rattle.simplified_forms.proofs.LoopNumbers.{next_within}
use Rattle.simplified_forms.proofs.RangeCounts.{entry_read}
use Rattle.simplified_forms.proofs.statements.start.Goals as goal

pub mark-requires : goal.mark-requires
mark-requires g c =
    let p = c.args.s.now.p.now in
    let can = subst (λ (kind : ExecKind). CanExecute p kind) c.in-DoStart.is c.requires.executable in
    let below : c.in-DoStart.loop_no < p.loops = can.0.loop in
    let next = entry_read (do_next p.execs) p.loops c.in-DoStart.loop_no c.index.result.now c.args.s.now.plan.now.nexts.items c.requires.scene.planned.nexts below c.index.ensures in
    let within = next_within p.execs p.loops c.requires.scene.program.execs.loops_nest c.in-DoStart.loop_no below in
    (omega arith, (c.requires.scene, omega (arith, next, within)))
