use Rattle.std.proofs.Common.{◌≡◌, ◌∙◌, arith}
use Rattle.closed_walks.specs.Component.{marked, stage_of}
use Rattle.closed_walks.specs.declared.component_walk.Stage.TheVariants.{Member, Done}
use Rattle.closed_walks.proofs.Stages.{popped, stage_read, Holds-of_last}
use Rattle.closed_walks.proofs.Components.{AreReaching-edge, IsState-pop, IsState-done, IsState-merge}
use Rattle.closed_walks.proofs.component_walk.ComponentWalk.follow.Goals as goal

pub to-to-requires : goal.to-to-requires
to-to-requires c = c.requires.walk.waiting.edges c.args.e (Holds-of_last c.args.self.now.pending.items c.args.e c.requires.pending)

pub find-requires-clause-walk : goal.find-requires-clause-walk
find-requires-clause-walk c =
    let w = c.args.self.now in
    rw (popped w.pending.items c.pop.new.self.items c.args.e w.pending.len c.requires.pending w.pending.ok.0 c.pop.ensures.rest, c.to-to.ensures.node)
    (IsState-pop c.args.g.now (marked c.args.avoided.now) w.stages.items w.marks.items w.members.items w.bounds.items w.pending.items c.requires.walk c.args.e c.requires.pending)

pub find-requires-clause-reaching : goal.find-requires-clause-reaching
find-requires-clause-reaching c =
    let w = c.args.self.now in
    rw c.to-to.ensures.node
    (AreReaching-edge c.args.g.now (marked c.args.avoided.now) w.stages.items w.marks.items w.members.items w.bounds.items w.pending.items c.requires.walk c.args.first c.args.e c.requires.last (Holds-of_last w.pending.items c.args.e c.requires.pending) c.requires.inside)

pub returns-in-Member-clause-walk : goal.returns-in-Member-clause-walk
returns-in-Member-clause-walk c =
    let w = c.args.self.now in
    let is : stage_of w.stages.items c.to-to.result ≡ Member c.in-Member.place = stage_read w.stages.items c.to-to.result c.index.result.now (omega (arith, c.to-to.ensures.exists, c.requires.walk.stages_size)) c.index.ensures ∙ c.in-Member.is in
    IsState-merge c.args.g.now (marked c.args.avoided.now) c.to-to.result w.stages.items w.marks.items w.members.items w.bounds.items c.pop.new.self.items
    (rw (popped w.pending.items c.pop.new.self.items c.args.e w.pending.len c.requires.pending w.pending.ok.0 c.pop.ensures.rest, c.to-to.ensures.node)
    (IsState-pop c.args.g.now (marked c.args.avoided.now) w.stages.items w.marks.items w.members.items w.bounds.items w.pending.items c.requires.walk c.args.e c.requires.pending))
    c.in-Member.place c.pop_above.new.bounds.items is
    (rw c.to-to.ensures.node
    (AreReaching-edge c.args.g.now (marked c.args.avoided.now) w.stages.items w.marks.items w.members.items w.bounds.items w.pending.items c.requires.walk c.args.first c.args.e c.requires.last (Holds-of_last w.pending.items c.args.e c.requires.pending) c.requires.inside))
    c.pop_above.ensures.order c.pop_above.ensures.kept

pub returns-in-Done-clause-walk : goal.returns-in-Done-clause-walk
returns-in-Done-clause-walk c =
    let w = c.args.self.now in
    let is : stage_of w.stages.items c.to-to.result ≡ Done = stage_read w.stages.items c.to-to.result c.index.result.now (omega (arith, c.to-to.ensures.exists, c.requires.walk.stages_size)) c.index.ensures ∙ c.in-Done.is in
    IsState-done c.args.g.now (marked c.args.avoided.now) c.to-to.result w.stages.items w.marks.items w.members.items w.bounds.items c.pop.new.self.items
    (rw (popped w.pending.items c.pop.new.self.items c.args.e w.pending.len c.requires.pending w.pending.ok.0 c.pop.ensures.rest, c.to-to.ensures.node)
    (IsState-pop c.args.g.now (marked c.args.avoided.now) w.stages.items w.marks.items w.members.items w.bounds.items w.pending.items c.requires.walk c.args.e c.requires.pending))
    is
