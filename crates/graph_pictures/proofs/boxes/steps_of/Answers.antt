use Rattle.std.proofs.Common.{arith, ◌<◌, ◌*◌, length}
use Rattle.std.proofs.lemmas.Grind.{common_steps}
use Rattle.graph_pictures.specs.FlowDot.{boxes_of}
use Rattle.graph_pictures.proofs.Steps.{no_step, one_step}
use Rattle.graph_pictures.proofs.boxes.steps_of.Goals as goal

pub returns-in-None : goal.returns-in-None
returns-in-None c =
    let flow = c.args.flow.now in
    no_step flow (length flow.regions.items * 2) c.loop.counter c.loop.steps.items c.loop.waiting.items (boxes_of flow) (grind (arith, common_steps, c.in-None.ensures.cases)) c.loop.invariant

pub loop-preserved : goal.loop-preserved
loop-preserved c =
    let flow = c.args.flow.now in
    let more : c.loop.counter < length flow.regions.items * 2 = omega (arith, c.len-end.ensures, c.loop-test.true) in
    rw c.in_ok-push.ensures.items
    (one_step flow (length flow.regions.items * 2) c.loop.counter c.loop.steps.items c.loop.waiting.items (boxes_of flow) c.pop.new.self.items c.go_into.new.waiting.items c.in-Some.step c.in_ok-inner.inner more c.in-Some.ensures.items c.in_ok-inner.ensures c.in_ok-go_into.ensures c.loop.invariant)
