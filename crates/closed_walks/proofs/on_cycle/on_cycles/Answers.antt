use Rattle.std.proofs.Common.{arith}
use Rattle.closed_walks.specs.Component.{marked}
use Rattle.closed_walks.proofs.Components.{found_done}
use Rattle.closed_walks.proofs.on_cycle.on_cycles.Goals as goal

pub loop-root-init : goal.loop-root-init
loop-root-init c = grind (arith, c.in_ok-walk.ensures.walk (marked c.args.avoided.now))

pub returns-clause-cycle : goal.returns-clause-cycle
returns-clause-cycle c =
    let w = c.loop-root.walk in
    let s = c.loop-root.invariant.walk in
    λ node exists.
    let end = c.loop-root-test.false in
    s.told node (found_done c.args.g.now (marked c.args.avoided.now) w.stages.items w.marks.items w.members.items w.bounds.items w.pending.items s c.loop-root.invariant.none node (c.loop-root.invariant.found node (omega (arith, exists, end, c.nodes-root-end.ensures.count))))
