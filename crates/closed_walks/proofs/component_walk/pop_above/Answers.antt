use Rattle.closed_walks.specs.Component.{IsLast}
use Rattle.closed_walks.proofs.Stages.{IsCut-more, IsCut-order, IsCut-end, last_low, last_read, popped}
use Rattle.closed_walks.proofs.component_walk.pop_above.Goals as goal

pub loop-bound-preserved : goal.loop-bound-preserved
loop-bound-preserved c =
    let bounds = c.loop-bound.bounds.items in
    let l : IsLast bounds c.in-Some.bound.now = last_read bounds c.deref.result.now c.in-Some.bound.now c.deref.ensures.value c.in-Some.ensures.value in
    rw (popped bounds c.pop.new.self.items c.in-Some.bound.now c.loop-bound.bounds.len l c.loop-bound.bounds.ok.0 c.pop.ensures.rest)
    (IsCut-more c.args.bounds.now.items c.args.place bounds l.prefix c.in-Some.bound.now l.parts c.if-place-bound.true c.loop-bound.invariant)

pub returns-else-place-bound-clause-order : goal.returns-else-place-bound-clause-order
returns-else-place-bound-clause-order c = IsCut-order c.args.bounds.now.items c.args.place c.loop-bound.bounds.items c.requires c.loop-bound.invariant

pub returns-else-place-bound-clause-kept : goal.returns-else-place-bound-clause-kept
returns-else-place-bound-clause-kept c =
    let bounds = c.loop-bound.bounds.items in
    let l : IsLast bounds c.in-Some.bound.now = last_read bounds c.deref.result.now c.in-Some.bound.now c.deref.ensures.value c.in-Some.ensures.value in
    IsCut-end c.args.bounds.now.items c.args.place bounds c.requires c.loop-bound.invariant
    (last_low c.args.bounds.now.items c.args.place bounds c.requires c.loop-bound.invariant c.in-Some.bound.now l c.if-place-bound.false)
