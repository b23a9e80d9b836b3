use Rattle.std.proofs.Common.{◌≡◌, ◌+◌, ◌<◌, ℕ, subst, arith}
use Rattle.dep_routing.specs.Facts.{TreeFacts}
use Rattle.dep_routing.specs.Noise.{IsMarkedFrom, marks_of}
use Rattle.dep_routing.specs.Touch.{touches_in}
use Rattle.dep_routing.proofs.Noises.{AreHeard, AreHeard-none, AreHeard-more, AreHeard-end, HaveParents-tree, innermost_within}
use Rattle.dep_routing.proofs.SetTables.{touches-at}
use Rattle.dep_routing.proofs.noise.noisy_regions.Goals as goal

pub loop-node-init : goal.loop-node-init
loop-node-init g c =
    let graph = c.args.g.now in
    let t = c.args.t.now in
    let f : TreeFacts graph t = c.tree_facts.ensures graph t c.requires.flow c.requires.tree in
    rw (c.in_ok-sets.ensures.items_if_clones_equal (λ y is. is))
    (AreHeard-none graph t f (touches_in c.args.touch.now) (c.count.result + 1) c.empty.result (omega (arith, c.count.ensures.count, f.tree.regions.some)) c.empty.ensures)

pub add_up-requires : goal.add_up-requires
add_up-requires g c =
    let graph = c.args.g.now in
    let t = c.args.t.now in
    let f : TreeFacts graph t = c.tree_facts.ensures graph t c.requires.flow c.requires.tree in
    let exists : c.loop-node.node < graph.nodes = omega (arith, c.loop-node-test.true, c.nodes-node-end.ensures.count) in
    (search, (c.requires.width, (HaveParents-tree graph t f, (c.loop-node.invariant.size, (rw c.innermost.ensures (innermost_within graph t f c.loop-node.node exists), λ line. (c.loop-node.invariant.each line).up)))))

pub loop-node-preserved : goal.loop-node-preserved
loop-node-preserved g c =
    let graph = c.args.g.now in
    let t = c.args.t.now in
    let f : TreeFacts graph t = c.tree_facts.ensures graph t c.requires.flow c.requires.tree in
    let node = c.loop-node.node in
    let exists : node < graph.nodes = omega (arith, c.loop-node-test.true, c.nodes-node-end.ensures.count) in
    AreHeard-more graph t f (touches_in c.args.touch.now) node c.loop-node.sets.items c.add_up.new.sets.items c.at.result.now c.loop-node.invariant exists
    (λ line. touches-at c.args.touch.now node line c.at.result.now c.at.ensures.item) c.add_up.ensures.size
    (λ line member. subst (λ (r : ℕ). IsMarkedFrom t r (marks_of c.loop-node.sets.items line) (marks_of c.add_up.new.sets.items line)) c.innermost.ensures (c.add_up.ensures.added line member))
    c.add_up.ensures.others

pub returns-clause-noisy : goal.returns-clause-noisy
returns-clause-noisy g c =
    let graph = c.args.g.now in
    let t = c.args.t.now in
    let f : TreeFacts graph t = c.tree_facts.ensures graph t c.requires.flow c.requires.tree in
    let touches = touches_in c.args.touch.now in
    let all : c.loop-node.node ≡ graph.nodes = omega (arith, c.loop-node-test.false, c.loop-node.auto.node-end, c.nodes-node-end.ensures.count) in
    AreHeard-end graph t f touches c.loop-node.sets.items (subst (λ (k : ℕ). AreHeard graph t touches k c.loop-node.sets.items) all c.loop-node.invariant)
