use Rattle.std.proofs.Common.{◌≡◌, ◌∙◌, false, sym, ap, arith}
use Rattle.closed_walks.specs.Graph.{from}
use Rattle.closed_walks.specs.Component.{stage_of, stands_from}
use Rattle.closed_walks.proofs.Stages.{last_read, stage_read, Holds-of_last}
use Rattle.closed_walks.proofs.Components.{pending_below}
use Rattle.closed_walks.proofs.component_walk.ComponentWalk.next_edge.Goals as goal

pub from-requires : goal.from-requires
from-requires c =
    let pending = c.args.self.now.pending.items in
    let e = c.in_ok-e.field-0.now in
    c.requires.pending.edges e (Holds-of_last pending e (last_read pending c.deref.result.now e c.deref.ensures.value c.in_ok-e.ensures.value))

pub returns-else-stands_from-clause-none : goal.returns-else-stands_from-clause-none
returns-else-stands_from-clause-none c =
    let g = c.args.g.now in
    let stages = c.args.self.now.stages.items in
    let pending = c.args.self.now.pending.items in
    let e = c.in_ok-e.field-0.now in
    let read : stage_of stages c.from.result ≡ c.index.result.now = stage_read stages c.from.result c.index.result.now (omega (arith, c.from.ensures.exists, c.requires.nodes)) c.index.ensures in
    let none : stands_from (stage_of stages (from g e)) c.args.first ≡ false =
    ap (λ u. stands_from (stage_of stages u) c.args.first) (sym c.from.ensures.node) ∙ (ap (λ stage. stands_from stage c.args.first) read ∙ (sym c.stands_from.ensures ∙ c.if-stands_from.false))
    in
    pending_below g stages pending c.args.first e c.requires.pending (last_read pending c.deref.result.now e c.deref.ensures.value c.in_ok-e.ensures.value) none
