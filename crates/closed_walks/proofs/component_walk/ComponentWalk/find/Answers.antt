use Rattle.std.proofs.Common.{◌≡◌, ◌∙◌, length, arith}
use Rattle.closed_walks.specs.Component.{marked}
use Rattle.closed_walks.proofs.Components.{IsState-find, found_less, OnOk-along}
use Rattle.closed_walks.proofs.component_walk.ComponentWalk.find.Goals as goal

pub returns-clause-walk : goal.returns-clause-walk
returns-clause-walk c =
    let w = c.args.self.now in
    let at : c.len-place.result ≡ length w.members.items = c.len-place.ensures ∙ w.members.ok.0 in
    OnOk-along c.push_edges.result _ _
    (λ adds.
    rw (c.in_ok-push-2.ensures.items, c.in_ok-push.ensures.items, at)
    (IsState-find c.args.g.now (marked c.args.avoided.now) c.args.node w.stages.items w.marks.items w.members.items w.bounds.items w.pending.items c.requires.walk c.requires.fresh c.requires.node c.requires.reaching c.push_edges.new.pending.items adds))
    c.push_edges.ensures

pub returns-clause-less : goal.returns-clause-less
returns-clause-less c = grind (arith, OnOk-along c.push_edges.result, found_less c.args.g.now (marked c.args.avoided.now))
