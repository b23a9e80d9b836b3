use Rattle.std.proofs.Common.{◌<◌, arith}
use Rattle.cycle_equiv.specs.WalkState.{IsPaidWalk, progress}
use Rattle.cycle_equiv.proofs.WalkEnded.{progress_most}
use Rattle.cycle_equiv.proofs.walk.edge_names.Goals as goal

pub walk-smaller : goal.walk-smaller
walk-smaller g c =
    let goes = rw c.in-Some.is at c.in_ok-v.ensures.walk in
    let next : IsPaidWalk c.args.g.now c.advance.new.self c.in-Some.v c.args.steps.now c.advance.new.steps = goes c.args.steps.now c.walk.invariant in
    let further : progress c.walk.walk < progress c.advance.new.self = rw c.in-Some.is at c.in_ok-v.ensures.further in
    let most = progress_most c.args.g.now c.advance.new.self c.in-Some.v next.walk in
    omega (arith, most, further)

pub walk-preserved : goal.walk-preserved
walk-preserved g c =
    let goes = rw c.in-Some.is at c.in_ok-v.ensures.walk in
    goes c.args.steps.now c.walk.invariant

pub returns-clause-steps : goal.returns-clause-steps
returns-clause-steps g c =
    let few = rw c.in_default.is at c.in_ok-v.ensures.steps in
    few c.args.steps.now c.walk.invariant
