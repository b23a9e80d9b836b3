use Rattle.std.proofs.Common.{◌+◌, ◌<◌, get_or, length, take, arith}
use Rattle.closed_walks.proofs.Touching.{Holds-at}
use Rattle.closed_walks.proofs.Stages.{AreDone-more, take_one_more, left_done}
use Rattle.closed_walks.proofs.component_walk.mark_done.Goals as goal

pub index_mut-requires : goal.index_mut-requires
index_mut-requires c =
    grind (arith, c.requires.stages (get_or c.args.nodes.now c.loop-node.node-index 0) (Holds-at c.args.nodes.now c.loop-node.node-index c.loop-node-test.true), Holds-at c.args.nodes.now c.loop-node.node-index c.loop-node-test.true)

pub index_mut-requires-in-loop-node : goal.index_mut-requires-in-loop-node
index_mut-requires-in-loop-node c =
    grind (arith, c.requires.marks (get_or c.args.nodes.now c.loop-node.node-index 0) (Holds-at c.args.nodes.now c.loop-node.node-index c.loop-node-test.true), Holds-at c.args.nodes.now c.loop-node.node-index c.loop-node-test.true)

pub loop-node-preserved : goal.loop-node-preserved
loop-node-preserved c =
    let nodes = c.args.nodes.now in
    let k = c.loop-node.node-index in
    let v = get_or nodes k 0 in
    let stages = c.loop-node.stages.items in
    let marks = c.loop-node.marks.items in
    let d = c.loop-node.invariant.done in
    let held = Holds-at nodes k c.loop-node-test.true in
    let in_stages : v < length stages = let h = c.requires.stages v held in omega (arith, h, d.stages_size) in
    let in_marks : v < length marks = let h = c.requires.marks v held in omega (arith, h, d.marks_size) in
    record {
      done = AreDone-more (take k nodes) (take (k + 1) nodes) c.args.on_cycle c.args.stages.now.items stages c.args.marks.now.items marks v (take_one_more nodes k c.loop-node-test.true) in_stages in_marks d;
      left = λ room. let one = left_done room stages v in let rest = c.loop-node.invariant.left room in omega (arith, one, rest);
    }
