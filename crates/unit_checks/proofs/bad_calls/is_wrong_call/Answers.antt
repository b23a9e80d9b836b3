use Rattle.std.proofs.Common.{◌≤◌, ℕ, List, length, not, sym, ap, subst, ◌∙◌}
use Rattle.f77_tree.specs.declared.statements.Stmt.{Stmt}
use Rattle.f77_tree.specs.declared.statements.Stmt.TheVariants.{CallTo}
use Rattle.program_units.specs.Units.{call_by, dummies_of, unit_at}
use Rattle.program_units.specs.Refusals.{are_alike, calls_wrongly}
use Rattle.unit_checks.proofs.GrowingGraph.{unit_of_few}
use Rattle.unit_checks.proofs.BadCalls.{wrong-by}
use Rattle.unit_checks.proofs.bad_calls.is_wrong_call.Goals as goal

pub interface_at-callee-requires-clause-unit : goal.interface_at-callee-requires-clause-unit
interface_at-callee-requires-clause-unit c =
    subst (λ (n : ℕ). n ≤ length c.args.us.now) (sym c.unit_of.ensures) (unit_of_few c.args.us.now c.in-CallTo.name)

pub returns-in-CallTo : goal.returns-in-CallTo
returns-in-CallTo c =
    let us = c.args.us.now in
    let k = c.args.k in
    let u = unit_at us k in
    c.calls_wrongly.ensures
    ∙ wrong-by u (unit_at us c.unit_of.result) c.interface_at.result.now c.interface_at-callee.result.now c.as_slice.result.now c.interface_at.ensures c.interface_at-callee.ensures
    ∙ ap (λ (g : ℕ). not (are_alike u (unit_at us g) c.as_slice.result.now (dummies_of (unit_at us g)))) c.unit_of.ensures
    ∙ ap (λ (xs : List (List ℕ)). calls_wrongly us k (call_by (CallTo c.in-CallTo.name xs))) c.as_slice.ensures.items
    ∙ ap (λ (s : Stmt). calls_wrongly us k (call_by s)) (sym c.in-CallTo.is)
