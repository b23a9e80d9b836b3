use Rattle.std.proofs.Common.{◌∷◌, [], List, length, sym, ap, subst, ◌∙◌, arith, length-append}
use Rattle.std.specs.Prelude.{slice_get}
use Rattle.f77_tree.specs.declared.statements.Labelled.{Labelled}
use Rattle.entity_names.specs.declared.unit_entities.UnitNames.{UnitNames}
use Rattle.entity_names.specs.UnitEntities.{AreNamesOf}
use Rattle.program_units.proofs.UnitsMet.{table-push}
use Rattle.entity_names.proofs.unit_entities.names_of_all.Goals as goal

pub loop-k-preserved : goal.loop-k-preserved
loop-k-preserved c =
    let us = c.args.us.now in
    let old = c.loop-k.kept.items in
    let x = c.in_ok-of.field-0 in
    let items = c.in_ok-push.ensures.items in
    let long = ap length items in
    let sum = length-append old (x ∷ []) in
    let before = c.loop-k.invariant.count in
    record {
      count = omega (arith, long, sum, before);
      each = λ j y is. table-push AreNamesOf us old x c.loop-k.k before c.loop-k.invariant.each (subst (λ (u : List Labelled). AreNamesOf u x) c.at.ensures.statements c.in_ok-of.ensures) j y (ap (λ (t : List UnitNames). slice_get t j) (sym items) ∙ is);
    }
