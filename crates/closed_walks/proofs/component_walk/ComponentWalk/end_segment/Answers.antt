use Rattle.std.proofs.Common.{◌≡◌, ◌↔◌, ◌+◌, ◌<◌, ◌∙◌, true, inl, inr, ⊎_elim, sym, subst, get_or, length, drop, arith}
use Rattle.std.proofs.lemmas.Bool.{lt-ltb}
use Rattle.std.proofs.lemmas.List.{get_or_default}
use Rattle.closed_walks.specs.Component.{marked, AreDone, HasEdge}
use Rattle.closed_walks.proofs.Stages.{popped, part_from, member_inside}
use Rattle.closed_walks.proofs.Components.{members_inside}
use Rattle.closed_walks.proofs.ComponentEnds.{Turns, IsState-end}
use Rattle.closed_walks.proofs.component_walk.ComponentWalk.end_segment.Goals as goal
use Rattle.closed_walks.proofs.component_walk.ComponentWalk.end_segment.Goals.{then-first-len, else-first-len}

pub has_loop-on_cycle-requires-clause-node : goal.has_loop-on_cycle-requires-clause-node
has_loop-on_cycle-requires-clause-node c = grind (arith, member_inside, c.requires.walk.stage_at c.args.first c.requires.some, get_or_default)

pub mark_done-requires-clause-stages : goal.mark_done-requires-clause-stages
mark_done-requires-clause-stages c = grind (arith, members_inside c.args.g.now (marked c.args.avoided.now), part_from)

pub mark_done-requires-clause-marks : goal.mark_done-requires-clause-marks
mark_done-requires-clause-marks c = grind (arith, members_inside c.args.g.now (marked c.args.avoided.now), part_from)

pub returns-clause-walk : goal.returns-clause-walk
returns-clause-walk c =
    let w = c.args.self.now in
    let g = c.args.g.now in
    let avoided = marked c.args.avoided.now in
    let on : (c.if-first-len.on_cycle ≡ true) ↔ Turns g avoided w.members.items c.args.first = elim c.if-first-len.branch [
      | then-first-len x ↦
          let many : c.args.first + 1 < length w.members.items = let more = x.if-first-len.true in omega (arith, more, c.len.ensures, w.members.ok.0) in
          (λ is. inl many, λ turns. x.on_cycle-is ∙ lt-ltb (c.args.first + 1) c.len.result x.if-first-len.true)
      | else-first-len x ↦
          let node : x.index.result.now ≡ get_or w.members.items c.args.first 0 = x.index.ensures ∙ sym (get_or_default w.members.items c.args.first 0 x.index.result.now c.requires.some) in (
            λ is. inr (subst (λ v. HasEdge g avoided v v) node (x.has_loop-on_cycle.ensures.0 (sym x.on_cycle-is ∙ is))),
            ⊎_elim
                (λ (many : c.args.first + 1 < length w.members.items). let few = x.if-first-len.false in absurd (omega (arith, many, few, c.len.ensures, w.members.ok.0)))
                (λ (turns : HasEdge g avoided (get_or w.members.items c.args.first 0) (get_or w.members.items c.args.first 0)).
                x.on_cycle-is ∙ x.has_loop-on_cycle.ensures.1 (subst (λ v. HasEdge g avoided v v) (sym node) turns)),
          )
    ] in
    let done : AreDone (drop c.args.first w.members.items) c.if-first-len.on_cycle w.stages.items w.marks.items c.mark_done.new.stages.items c.mark_done.new.marks.items =
    rw (part_from w.members.items c.deref.result.now c.args.first c.deref.ensures.value) at c.mark_done.ensures.done
    in
    rw (c.truncate.ensures.items, popped w.bounds.items c.pop.new.self.items c.args.first w.bounds.len c.requires.last w.bounds.ok.0 c.pop.ensures.rest)
    (IsState-end g avoided w.stages.items w.marks.items w.members.items w.bounds.items w.pending.items c.requires.walk c.args.first c.requires.last c.requires.scanned c.if-first-len.on_cycle on c.mark_done.new.stages.items c.mark_done.new.marks.items done)
