-- A text whose expansion is laid out.
use Rattle.std.proofs.Common.{◌≡◌, Bool, List, Option, Some, None, Ok, Err, refl, sym, ap, subst, ◌∙◌}
use Rattle.f77_tree.specs.declared.programs.Program.{Program}
use Rattle.f77_tree.specs.declared.statements.Labelled.{Labelled}
use Rattle.layout_rules.specs.Layout.{layout}
use Rattle.layout_rules.specs.Source.{IsSource}
use Rattle.program_units.specs.declared.sub_end.SubEnd.{SubEnd}
use Rattle.program_units.specs.Expansion.{whole_list}
use Rattle.program_units.specs.Refusals.{expansion, list_unless, unit_refusal}
use Rattle.program_units.specs.Texts.{IsText}
use Rattle.program_units.specs.Units.{units}
use Rattle.called_runs.specs.Expanded.{IsExpanded}

none-refused : (o : Option SubEnd) (made list : List Labelled) → list_unless o made ≡ Ok list → (o ≡ None) × (made ≡ list)
none-refused None made list is = let e : Ok made ≡ Ok list = is in (refl, cc)
none-refused (Some end) made list is = let e : Err end ≡ Ok list = is in absurd cc

pub expanded : (stmts list : List Labelled) (checked : Bool) (p : Program) → IsText stmts → expansion stmts checked ≡ Ok list → IsSource list → layout list checked ≡ Ok p → IsExpanded stmts checked p
expanded stmts list checked p text is source laid =
    let both = none-refused (unit_refusal stmts checked) (whole_list (units stmts)) list is in
    record {
      text = text;
      accepted = both.0;
      source = subst IsSource (sym both.1) source;
      laid = ap (λ (xs : List Labelled). layout xs checked) both.1 ∙ laid;
    }
