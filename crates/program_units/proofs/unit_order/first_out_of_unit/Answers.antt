use Rattle.std.proofs.Common.{◌≡◌, ◌&&◌, Bool, true, false, not, ◌+◌, take, sym, subst, ◌∙◌}
use Rattle.layout_rules.proofs.FirstLine.{first_after-here}
use Rattle.program_units.specs.Refusals.{is_out_of_unit}
use Rattle.program_units.proofs.UnitWalk.{IsAbove, above-none, above-more, fault-is}
use Rattle.program_units.proofs.unit_order.first_out_of_unit.Goals as goal

pub loop-s-init : goal.loop-s-init
loop-s-init c = above-none c.args.stmts.now

pub returns-then-is_misplaced : goal.returns-then-is_misplaced
returns-then-is_misplaced c =
    let s = c.s-item.result in
    let i = c.loop-s.s-index in
    let fault : is_out_of_unit (take i c.args.stmts.now) s ≡ true = fault-is c.args.stmts.now i c.loop-s.follows_end c.loop-s.in_main c.loop-s.invariant s ∙ sym c.is_misplaced.ensures ∙ c.if-is_misplaced.true in
    sym (c.loop-s.invariant.first ∙ first_after-here is_out_of_unit c.args.stmts.now i s c.loop-s-test.true c.s-item.is fault)

pub loop-s-preserved : goal.loop-s-preserved
loop-s-preserved c =
    let s = c.s-item.result in
    let i = c.loop-s.s-index in
    let no_fault : is_out_of_unit (take i c.args.stmts.now) s ≡ false = fault-is c.args.stmts.now i c.loop-s.follows_end c.loop-s.in_main c.loop-s.invariant s ∙ sym c.is_misplaced.ensures ∙ c.if-is_misplaced.false in
    subst (λ (b : Bool). IsAbove c.args.stmts.now (i + 1) b (c.loop-s.in_main && not b)) (sym c.is_end-ends.ensures)
    (above-more c.args.stmts.now i c.loop-s.follows_end c.loop-s.in_main c.loop-s.invariant s c.loop-s-test.true c.s-item.is no_fault)
