use Rattle.std.proofs.Common.{◌≡◌, Bool, true, false, ◌||◌, sym, ap, subst, ◌∙◌}
use Rattle.std.specs.Prelude.{IfOk}
use Rattle.f77_tree.specs.declared.statements.Stmt.{Stmt}
use Rattle.program_units.specs.Units.{call_by, call_in, sub_dummies, unit_at}
use Rattle.program_units.specs.Refusals.{calls_wrongly, has_wrong_dummy}
use Rattle.program_units.specs.Dummies.{are_wrong_dummies}
use Rattle.program_units.proofs.StoredNames.{wrong-is}
use Rattle.unit_checks.proofs.bad_calls.is_bad.Goals as goal

pub returns-then-wrong : goal.returns-then-wrong
returns-then-wrong c =
    let us = c.args.us.now in
    let k = c.args.k in
    let stmt = c.args.stmt.now in
    let wrong : calls_wrongly us k (call_in stmt) ≡ true = ap (λ (s : Stmt). calls_wrongly us k (call_by s)) (sym c.inner_of.ensures) ∙ sym c.is_wrong_call-wrong.ensures ∙ c.if-wrong.true in
    sym (ap (λ (b : Bool). b || has_wrong_dummy (unit_at us k) stmt) wrong)

pub returns : goal.returns
returns c =
    let us = c.args.us.now in
    let k = c.args.k in
    let stmt = c.args.stmt.now in
    let right : calls_wrongly us k (call_in stmt) ≡ false = ap (λ (s : Stmt). calls_wrongly us k (call_by s)) (sym c.inner_of.ensures) ∙ sym c.is_wrong_call-wrong.ensures ∙ c.if-wrong.false in
    let same : are_wrong_dummies c.interface_at.result.now.storage (sub_dummies stmt) ≡ (calls_wrongly us k (call_in stmt) || has_wrong_dummy (unit_at us k) stmt) =
    wrong-is (unit_at us k) c.interface_at.result.now.storage stmt c.interface_at.ensures.storage
    ∙ sym (ap (λ (b : Bool). b || has_wrong_dummy (unit_at us k) stmt) right)
    in
    subst (λ (b : Bool). IfOk c.has_wrong_dummy.result (λ wrong. wrong ≡ b)) same c.has_wrong_dummy.ensures
