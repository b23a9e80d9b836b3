use Rattle.std.proofs.Common.{inl, inr, refl, ◌≡◌}
use Rattle.called_runs.proofs.AcceptedGrounds.{copied, grounds}
use Rattle.called_runs.proofs.StandingCalls.{enters}
use Rattle.called_runs.proofs.StandingIncrements.{increments-alike}
use Rattle.called_runs.proofs.StandingOwn.{own-alike}
use Rattle.called_runs.proofs.StandingReturns.{back-leads, has-label}
use Rattle.program_units.specs.Contexts.{called}
use Rattle.program_units.specs.Expansion.{whole_list}
use Rattle.program_units.specs.ListedCopies.{called_context, copied_place, lines_before}
use Rattle.program_units.specs.Units.{guard_of, unit_at, units}
use Rattle.std.specs.Prelude.{◌+◌, Some}
use Rattle.f77_tree.specs.declared.statements.RawExpr.{RawExpr}
use Rattle.called_runs.specs.CopiedKinds.{condition_of}
use Rattle.called_runs.specs.CopiedPositions.{IsDoOf, IsPartOf}
use Rattle.called_runs.proofs.control.copies_keep_control.Goals as goal

pub returns-clause-own : goal.returns-clause-own
returns-clause-own g stmts checked p is names others c at place s in_it kept none stays =
    own-alike (IsPartOf s.stmt) (λ (e : RawExpr). condition_of s.stmt ≡ Some e) names others checked (units stmts) (whole_list (units stmts)) (grounds stmts checked is.text is.accepted p is.source is.laid) c at (copied stmts checked is.text is.accepted c at in_it.reached)
    place s in_it.stands (record { kept = kept; none = none }) stays (inl refl) (inr refl) (λ e tests. tests)

pub returns-clause-increments : goal.returns-clause-increments
returns-clause-increments g stmts checked p is names others c at place s in_it kept no_end =
    increments-alike (IsDoOf (unit_at (units stmts) c.unit) s.label) (λ (e : RawExpr). ⊥) names others checked (units stmts) (whole_list (units stmts)) (grounds stmts checked is.text is.accepted p is.source is.laid) c at (copied stmts checked is.text is.accepted c at in_it.reached)
    place s in_it.stands kept no_end (λ d t there does. record { place = d; s = t; is = there; ends = does; same = refl })

pub returns-clause-called : goal.returns-clause-called
returns-clause-called g stmts checked p is c at place s call in_it calls none =
    enters (units stmts) (whole_list (units stmts)) (grounds stmts checked is.text is.accepted p is.source is.laid) c at (copied stmts checked is.text is.accepted c at in_it.reached) place s call in_it.stands calls
    (copied stmts checked is.text is.accepted (called_context (units stmts) c place call) (copied_place (units stmts) (called_context (units stmts) c place call) (at place + lines_before (guard_of s.stmt))) (called place s call in_it.reached in_it.stands calls)) none

pub returns-clause-behind : goal.returns-clause-behind
returns-clause-behind g stmts checked p is c at place s call in_it calls =
    (has-label (units stmts) (whole_list (units stmts)) (grounds stmts checked is.text is.accepted p is.source is.laid) c at (copied stmts checked is.text is.accepted c at in_it.reached) place s call in_it.stands calls).goes

pub returns-clause-back : goal.returns-clause-back
returns-clause-back g stmts checked p is c at place s call in_it calls =
    back-leads (units stmts) (whole_list (units stmts)) (grounds stmts checked is.text is.accepted p is.source is.laid) c at (copied stmts checked is.text is.accepted c at in_it.reached) place s call in_it.stands calls
