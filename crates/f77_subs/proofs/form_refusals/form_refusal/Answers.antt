use Rattle.std.proofs.Common.{List, sym, ap, ◌∙◌}
use Rattle.std.specs.Prelude.{slice_get}
use Rattle.f77_tree.specs.declared.statements.Labelled.{Labelled}
use Rattle.unit_laws.proofs.UnitSources.{unit-source}
use Rattle.f77_subs.proofs.form_refusals.form_refusal.Goals as goal

pub first_refused-requires : goal.first_refused-requires
first_refused-requires c = λ k u there. unit-source c.args.stmts.now c.requires.text k u (ap (λ (us : List (List Labelled)). slice_get us k) (sym c.requires.units) ∙ there)
