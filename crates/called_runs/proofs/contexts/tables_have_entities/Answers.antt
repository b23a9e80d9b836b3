use Rattle.std.proofs.Common.{◌≡◌, ℕ, Bool, List, Option, Some, None, All, refl}
use Rattle.std.specs.List.{slice_get}
use Rattle.std.proofs.lemmas.List.Elements.{All-nil}
use Rattle.f77_tree.specs.declared.programs.Program.{Program}
use Rattle.f77_tree.specs.declared.statements.Labelled.{Labelled}
use Rattle.f77_tree.specs.Declarations.{IsNameInfo}
use Rattle.f77_tree.specs.WellFormed.{IsWellFormed}
use Rattle.layout_rules.specs.Layout.{layout}
use Rattle.layout_rules.specs.Source.{IsSource}
use Rattle.program_units.specs.Layouts.{own_program}
use Rattle.program_units.specs.Refusals.{unit_refusal}
use Rattle.program_units.specs.Texts.{IsText}
use Rattle.program_units.specs.Units.{standing_in, unit_at, unit_or_none, units}
use Rattle.std.specs.Prelude.{Ok}
use Rattle.called_runs.proofs.BlocksOfTexts.{unit-laid}
use Rattle.called_runs.proofs.StandingNames.{entries}
use Rattle.called_runs.proofs.contexts.tables_have_entities.Goals as goal

unit-infos : (stmts : List Labelled) (checked : Bool) → IsText stmts → unit_refusal stmts checked ≡ None → ((ss : List Labelled) (ch : Bool) (p : Program) → IsSource ss → layout ss ch ≡ Ok p → IsWellFormed p) → ((ts : List Labelled) → IsText ts → (k : ℕ) (u : List Labelled) → slice_get (units ts) k ≡ Some u → IsSource (standing_in u)) → (k : ℕ) → All IsNameInfo (own_program (unit_at (units stmts) k) checked).names
unit-infos stmts checked text accepted well_formed sources k = by (slice_get (units stmts) k) refl
  where
    by : (o : Option (List Labelled)) → slice_get (units stmts) k ≡ o → All IsNameInfo (own_program (unit_or_none o) checked).names
    by None is = All-nil IsNameInfo
    by (Some u) is = (well_formed (standing_in u) checked (own_program u checked) (sources stmts text k u is) (unit-laid stmts checked accepted k u is)).declarations.table

pub returns : goal.returns
returns c = λ stmts checked text accepted context at reached.
    let us = units stmts in
    let k = context.unit in
    entries us k context.arguments checked (λ x. (c.stand_ins_are_declared_alike.ensures (unit_at us k) x).dims) (c.contexts_are_of_the_run.ensures.entities stmts checked text accepted context at reached) (c.copied_names_are_declared_alike.ensures stmts checked accepted context at reached)
    (unit-infos stmts checked text accepted c.programs_are_well_formed.ensures.well_formed c.units_are_sources.ensures k)
