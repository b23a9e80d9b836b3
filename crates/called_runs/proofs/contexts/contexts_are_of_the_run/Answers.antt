use Rattle.std.proofs.Common.{◌≡◌, Bool, List, [], None, refl}
use Rattle.f77_tree.specs.declared.statements.Labelled.{Labelled}
use Rattle.layout_rules.specs.Faults.{first_line}
use Rattle.program_units.specs.declared.sub_end.SubEnd.TheVariants.{UnitOrder}
use Rattle.unit_laws.proofs.AcceptedTables.{main-dummies}
use Rattle.unit_laws.proofs.NoAnswer.{no-end, none-at}
use Rattle.unit_laws.proofs.ReachedUnits.{callee-inside, some-unit}
use Rattle.program_units.specs.Refusals.{end_at, is_out_of_unit, unit_refusal, unit_refusals}
use Rattle.program_units.specs.Units.{dummies_of, unit_at, units}
use Rattle.called_runs.proofs.ContextEntities.{context-entities, context-runs}
use Rattle.called_runs.proofs.DeclaredAlike.{calls-right}
use Rattle.called_runs.proofs.contexts.contexts_are_of_the_run.Goals as goal

main-none : (stmts : List Labelled) (checked : Bool) → unit_refusal stmts checked ≡ None → dummies_of (unit_at (units stmts) 0) ≡ []
main-none stmts checked accepted = main-dummies stmts (no-end UnitOrder (first_line is_out_of_unit stmts) (none-at (unit_refusals stmts (units stmts) checked) 0 (end_at UnitOrder (first_line is_out_of_unit stmts)) accepted refl))

pub returns-clause-units : goal.returns-clause-units
returns-clause-units c = λ stmts checked text accepted context at reached. context-runs (units stmts) (some-unit stmts checked text accepted) (callee-inside stmts checked text accepted) context at reached

pub returns-clause-entities : goal.returns-clause-entities
returns-clause-entities c = λ stmts checked text accepted context at reached.
    context-entities (units stmts) (some-unit stmts checked text accepted) (callee-inside stmts checked text accepted) (main-none stmts checked accepted) (calls-right stmts checked accepted) context at reached
