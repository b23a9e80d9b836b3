use Rattle.std.proofs.Common.{arith}
use Rattle.closed_walks.specs.Search.{Nothing}
use Rattle.closed_walks.proofs.Searches.{nothing-left, IsOpen-pop, popped_visited, visited_exists, visited-Reach, Reach-grown}
use Rattle.closed_walks.proofs.search.visited_from.Goals as goal

pub visit_next-requires-clause-here : goal.visit_next-requires-clause-here
visit_next-requires-clause-here c = popped_visited c.args.g.now c.args.without c.loop-node.visited.items c.loop-node.frontier.items c.pop.new.self.items c.in-Some.node c.in-Some.ensures.items c.loop-node.invariant.leaves

pub visit_next-requires-clause-node : goal.visit_next-requires-clause-node
visit_next-requires-clause-node c = visited_exists c.args.g.now c.args.without c.loop-node.visited.items Nothing c.loop-node.frontier.items c.in-Some.node c.loop-node.invariant.leaves (visit_next-requires-clause-here c)

pub visit_next-requires-clause-leaves : goal.visit_next-requires-clause-leaves
visit_next-requires-clause-leaves c = IsOpen-pop c.args.g.now c.args.without c.loop-node.visited.items c.loop-node.frontier.items c.pop.new.self.items c.in-Some.node c.in-Some.ensures.items c.loop-node.invariant.leaves

pub loop-node-preserved : goal.loop-node-preserved
loop-node-preserved c =
    grind (arith, popped_visited c.args.g.now c.args.without c.loop-node.visited.items c.loop-node.frontier.items c.pop.new.self.items c.in-Some.node c.in-Some.ensures.items c.loop-node.invariant.leaves, c.in_ok-visit_next.ensures.kept c.args.start c.loop-node.invariant.begun, Reach-grown c.args.g.now c.args.without c.args.start c.in-Some.node c.loop-node.visited.items c.visit_next.new.visited.items c.loop-node.invariant.reached)

pub returns-clause-reached : goal.returns-clause-reached
returns-clause-reached c =
    grind (arith, nothing-left c.loop-node.frontier.items, visited-Reach c.args.g.now c.args.without c.loop-node.visited.items c.args.start)
