use Rattle.std.proofs.Common.{◌<◌, arith}
use Rattle.closed_walks.specs.Graph.{edge_count}
use Rattle.closed_walks.specs.Search.{Nothing}
use Rattle.closed_walks.specs.Reversed.{turned}
use Rattle.closed_walks.proofs.Searches.{nothing-left, IsOpen-pop, popped_visited, visited_exists, is_visited-read}
use Rattle.closed_walks.proofs.Turning.{nodes-turned}
use Rattle.closed_walks.proofs.Backwards.{marked_already, IsMarking-begin, IsMarking-step, IsMarking-end, closed_again}
use Rattle.closed_walks.proofs.search_back.mark_back.Goals as goal

pub returns-then-index-clause-marked : goal.returns-then-index-clause-marked
returns-then-index-clause-marked c =
    grind (arith, marked_already c.args.g.now c.args.node c.args.marks.now.items c.requires.closed, is_visited-read c.args.marks.now.items c.args.node c.index.result.now)

pub loop-next-init : goal.loop-next-init
loop-next-init c = rw c.in_ok-frontier.ensures.items (IsMarking-begin c.args.g.now c.args.node c.args.marks.now.items c.requires.nodes c.requires.closed c.requires.node)

pub mark_before-requires-clause-here : goal.mark_before-requires-clause-here
mark_before-requires-clause-here c = popped_visited (turned c.args.g.now) (edge_count c.args.g.now) c.loop-next.marks.items c.loop-next.frontier.items c.pop.new.self.items c.in-Some.next c.in-Some.ensures.items c.loop-next.invariant.leaves

pub mark_before-requires-clause-node : goal.mark_before-requires-clause-node
mark_before-requires-clause-node c =
    let exists : c.in-Some.next < (turned c.args.g.now).nodes = visited_exists (turned c.args.g.now) (edge_count c.args.g.now) c.loop-next.marks.items Nothing c.loop-next.frontier.items c.in-Some.next c.loop-next.invariant.leaves (mark_before-requires-clause-here c) in
    omega (arith, exists, nodes-turned c.args.g.now)

pub mark_before-requires-clause-leaves : goal.mark_before-requires-clause-leaves
mark_before-requires-clause-leaves c = IsOpen-pop (turned c.args.g.now) (edge_count c.args.g.now) c.loop-next.marks.items c.loop-next.frontier.items c.pop.new.self.items c.in-Some.next c.in-Some.ensures.items c.loop-next.invariant.leaves

pub loop-next-preserved : goal.loop-next-preserved
loop-next-preserved c =
    let here = popped_visited (turned c.args.g.now) (edge_count c.args.g.now) c.loop-next.marks.items c.loop-next.frontier.items c.pop.new.self.items c.in-Some.next c.in-Some.ensures.items c.loop-next.invariant.leaves in
    IsMarking-step c.args.g.now c.args.node c.args.marks.now.items c.loop-next.marks.items c.mark_before.new.marks.items c.loop-next.frontier.items c.mark_before.new.frontier.items c.in-Some.next
    c.requires.closed c.loop-next.invariant here c.in_ok-mark_before.ensures.leaves c.in_ok-mark_before.ensures.grown c.in_ok-mark_before.ensures.kept c.in_ok-mark_before.ensures.nodes

pub returns-clause-marked : goal.returns-clause-marked
returns-clause-marked c =
    grind (arith, nothing-left c.loop-next.frontier.items, IsMarking-end c.args.g.now c.args.node c.args.marks.now.items c.loop-next.marks.items)

pub returns-clause-closed : goal.returns-clause-closed
returns-clause-closed c = closed_again c.args.g.now c.args.node c.args.marks.now.items c.loop-next.marks.items c.requires.closed (returns-clause-marked c)
