use Rattle.std.proofs.Common.{◌<◌, ◌^◌, ◌+ℤ◌, length, rules, arith, w64, to_z}
use mir.Val.{SFits}
use Rattle.storage_association.proofs.Forests.{up, below-fits, sum-fits, sum-below, root-here, nearer, parent-known}
use Rattle.storage_association.proofs.forest.Forest.find.Goals as goal

pub returns-then-node-root : goal.returns-then-node-root
returns-then-node-root c = λ spots forest.
    record {
      known = c.loop-root.invariant.known;
      root = root-here c.args.self.now.nodes.items c.loop-root.root c.index-node.result.now c.loop-root.invariant.known c.index-node.ensures c.if-node-root.true;
      below = c.loop-root.invariant.walk spots forest;
    }

pub overflow_add-distance : goal.overflow_add-distance
overflow_add-distance c =
    let node = c.index-node.result.now in
    let d = to_z w64 c.loop-root.distance-bits in
    let nodes = c.args.self.now.nodes.items in
    let spots = c.requires.trees.spots in
    let forest = c.requires.trees.forest in
    let o : SFits w64 node.offset = search rules in
    let few : length spots < 2 ^ 32 = omega (arith, forest.all) in
    let lt = c.loop-root.invariant.known in
    let next = parent-known nodes spots c.loop-root.root node forest lt c.index-node.ensures in
    let below = up nodes spots c.args.name c.loop-root.root d node forest lt c.index-node.ensures (c.loop-root.invariant.walk spots forest) in
    sum-fits d node.offset o (below-fits spots c.args.name node.parent (d +ℤ node.offset) forest.near few (omega (arith, forest.all)) (omega (arith, forest.all, next)) below)

pub loop-root-preserved : goal.loop-root-preserved
loop-root-preserved c =
    let node = c.index-node.result.now in
    let d = to_z w64 c.loop-root.distance-bits in
    let nodes = c.args.self.now.nodes.items in
    let o : SFits w64 node.offset = search rules in
    let lt = c.loop-root.invariant.known in
    let next = parent-known nodes c.requires.trees.spots c.loop-root.root node c.requires.trees.forest lt c.index-node.ensures in
    record {
      known = next;
      walk = λ spots forest.
          let few : length spots < 2 ^ 32 = omega (arith, forest.all) in
          let below = up nodes spots c.args.name c.loop-root.root d node forest lt c.index-node.ensures (c.loop-root.invariant.walk spots forest) in
          let fits = below-fits spots c.args.name node.parent (d +ℤ node.offset) forest.near few (omega (arith, forest.all)) (omega (arith, forest.all, next)) below in
          sum-below spots c.args.name node.parent d node.offset o fits below;
    }

pub loop-root-smaller : goal.loop-root-smaller
loop-root-smaller c = nearer c.args.self.now.nodes.items c.requires.trees.spots c.loop-root.root c.index-node.result.now c.requires.trees.forest c.loop-root.invariant.known c.index-node.ensures c.if-node-root.false
