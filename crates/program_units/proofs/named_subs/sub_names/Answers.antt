use Rattle.std.proofs.Common.{◌≡◌, ◌+◌, ℕ, List, true, false, take, length, sym, subst, ◌∙◌, arith}
use Rattle.layout_rules.proofs.FirstLine.{first_after-here}
use Rattle.program_units.specs.Refusals.{is_sub_again}
use Rattle.program_units.proofs.NamesAbove.{AreAbove, names-all, names-more, again-is}
use Rattle.program_units.proofs.named_subs.sub_names.Goals as goal

pub loop-s-preserved : goal.loop-s-preserved
loop-s-preserved c =
    let s = c.s-item.result in
    let i = c.loop-s.s-index in
    let no_fault : is_sub_again (take i c.args.stmts.now) s ≡ false = sym (again-is c.args.stmts.now i c.loop-s.names c.loop-s.invariant s) ∙ sym c.in_ok-again.ensures.told ∙ c.if-again.false in
    subst (λ (names : List (List ℕ)). AreAbove c.args.stmts.now (i + 1) names) (sym (c.in_ok-again.ensures.names c.if-again.false)) (names-more c.args.stmts.now i c.loop-s.names c.loop-s.invariant s c.loop-s-test.true c.s-item.is no_fault)

pub returns-then-again-clause-line : goal.returns-then-again-clause-line
returns-then-again-clause-line c =
    let s = c.s-item.result in
    let i = c.loop-s.s-index in
    let fault : is_sub_again (take i c.args.stmts.now) s ≡ true = sym (again-is c.args.stmts.now i c.loop-s.names c.loop-s.invariant s) ∙ sym c.in_ok-again.ensures.told ∙ c.if-again.true in
    sym (c.loop-s.invariant.first ∙ first_after-here is_sub_again c.args.stmts.now i s c.loop-s-test.true c.s-item.is fault)

pub returns-clause-line : goal.returns-clause-line
returns-clause-line c =
    let at_end : c.loop-s.s-index ≡ length c.args.stmts.now = omega arith in
    sym (names-all c.args.stmts.now c.loop-s.names (subst (λ (i : ℕ). AreAbove c.args.stmts.now i c.loop-s.names) at_end c.loop-s.invariant)).0

pub returns-clause-names : goal.returns-clause-names
returns-clause-names c =
    let at_end : c.loop-s.s-index ≡ length c.args.stmts.now = omega arith in
    (names-all c.args.stmts.now c.loop-s.names (subst (λ (i : ℕ). AreAbove c.args.stmts.now i c.loop-s.names) at_end c.loop-s.invariant)).1
