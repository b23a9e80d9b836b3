use Rattle.std.proofs.Common.{◌≡◌, true, sym, ◌∙◌}
use Rattle.dep_routing.proofs.PieceTouches.{quiet-branch, no-such, has-member}
use Rattle.dep_routing.proofs.touching.branch_lines.Goals as goal
use Rattle.dep_routing.proofs.touching.branch_lines.Goals.{then-round, else-round, then-branch_traps, else-branch_traps}

pub returns-else-is_none : goal.returns-else-is_none
returns-else-is_none g c =
    elim c.if-branch_traps.branch [
      | then-branch_traps w ↦ no-such c.if-round.value (w.if-branch_traps.true) (sym w.value-is ∙ c.if-is_none.false)
      | else-branch_traps w ↦ elim c.if-round.branch [
        | then-round v ↦ no-such c.args.round v.if-round.true (sym v.value-is ∙ w.if-branch_traps.false)
        | else-round v ↦
            quiet-branch c.args.c.now c.args.kind.now (c.args.may ≡ true) c.branch_need-classes.result c.args.round v.branch_traps.result
            (λ n. c.needs_are_numbered.ensures c.args.p.now c.args.c.now c.args.kind.now n c.requires.program c.requires.classes c.requires.executes)
            c.branch_need-classes.ensures v.if-round.false v.branch_traps.ensures (sym v.value-is ∙ w.if-branch_traps.false)
            (has-member w.next_after.result w.is_none.result w.next_after.ensures.next w.is_none.ensures (sym w.value-is ∙ c.if-is_none.false))
      ]
    ]
