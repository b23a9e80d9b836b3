use Rattle.std.proofs.Common.{◌≡◌, arith, slice_get, None, sym, ◌∙◌, subst}
use Rattle.std.proofs.lemmas.List.{get_or_default}
use Rattle.closed_walks.specs.Graph.{edges_at}
use Rattle.cycle_equiv.proofs.EdgeAt.{answered_edge, answered_none, edge_at_some}
use Rattle.cycle_equiv.proofs.WalkEnded.{ended_names, steps_few}
use Rattle.cycle_equiv.proofs.WalkReads.{here_node, row}
use Rattle.cycle_equiv.proofs.walk.BracketWalk.advance.Goals as goal

pub take-requires-clause-next : goal.take-requires-clause-next
take-requires-clause-next g c =
    let inside = (row c.args.g.now c.args.self.now c.args.u c.requires.walk c.args.u (here_node c.args.g.now c.args.self.now c.args.u c.requires.walk)).taken in
    let taken = c.index.ensures ∙ get_or_default c.args.self.now.tree.taken.items c.args.u c.index.result.now 0 inside in
    let next = edge_at_some c.args.g.now c.args.u c.index.result.now c.in-Edge.e
    (answered_edge (slice_get (edges_at c.args.g.now c.args.u) c.index.result.now) c.in-Edge.e (sym c.in-Edge.is ∙ c.edge_at.ensures.edge)) in
    record { edge = next.edge; touched = next.touched; rank = next.rank ∙ taken }

pub returns-then-u-self-clause-end : goal.returns-then-u-self-clause-end
returns-then-u-self-clause-end g c =
    let inside = (row c.args.g.now c.args.self.now c.args.u c.requires.walk c.args.u (here_node c.args.g.now c.args.self.now c.args.u c.requires.walk)).taken in
    let taken = c.index.ensures ∙ get_or_default c.args.self.now.tree.taken.items c.args.u c.index.result.now 0 inside in
    ended_names c.args.g.now c.args.self.now c.args.u c.requires.walk c.if-u-self.true
    (subst (λ k. slice_get (edges_at c.args.g.now c.args.u) k ≡ None) taken
    (answered_none (slice_get (edges_at c.args.g.now c.args.u) c.index.result.now) (sym c.in-NoMore.is ∙ c.edge_at.ensures.edge)))
    c.requires.strong

pub returns-then-u-self-clause-steps : goal.returns-then-u-self-clause-steps
returns-then-u-self-clause-steps g c =
    let inside = (row c.args.g.now c.args.self.now c.args.u c.requires.walk c.args.u (here_node c.args.g.now c.args.self.now c.args.u c.requires.walk)).taken in
    let taken = c.index.ensures ∙ get_or_default c.args.self.now.tree.taken.items c.args.u c.index.result.now 0 inside in
    λ start p.
    let few = steps_few c.args.g.now c.args.self.now c.args.u p.walk c.if-u-self.true
    (subst (λ k. slice_get (edges_at c.args.g.now c.args.u) k ≡ None) taken
    (answered_none (slice_get (edges_at c.args.g.now c.args.u) c.index.result.now) (sym c.in-NoMore.is ∙ c.edge_at.ensures.edge)))
    c.requires.strong start c.args.steps.now p.paid in
    omega (arith, few, c.edge_at.ensures.step)

pub returns-in-Edge-clause-walk : goal.returns-in-Edge-clause-walk
returns-in-Edge-clause-walk g c = λ start p. c.take.ensures.walk start c.args.steps.now p c.edge_at.ensures.step

pub returns-in_ok-p-in-NoMore-clause-walk : goal.returns-in_ok-p-in-NoMore-clause-walk
returns-in_ok-p-in-NoMore-clause-walk g c = λ start p. c.in_ok-p-in-NoMore.ensures.walk start c.args.steps.now p c.edge_at.ensures.step
