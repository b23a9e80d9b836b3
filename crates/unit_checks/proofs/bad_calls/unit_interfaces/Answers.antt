use Rattle.std.proofs.Common.{◌≡◌, ◌∷◌, [], List, length, sym, ap, subst, ◌∙◌, arith, length-append}
use Rattle.std.specs.Prelude.{slice_get}
use Rattle.f77_tree.specs.declared.statements.Labelled.{Labelled}
use Rattle.unit_checks.specs.declared.unit_interface.UnitInterface.{UnitInterface}
use Rattle.unit_checks.specs.Interfaces.{IsInterfaceOf}
use Rattle.program_units.proofs.UnitsMet.{none-behind, table-push}
use Rattle.unit_checks.proofs.bad_calls.unit_interfaces.Goals as goal

pub loop-k-preserved : goal.loop-k-preserved
loop-k-preserved c =
    let us = c.args.us.now in
    let old = c.loop-k.interfaces.items in
    let x = c.in_ok-of.field-0 in
    let items = c.in_ok-push.ensures.items in
    let long = ap length items in
    let sum = length-append old (x ∷ []) in
    let before = c.loop-k.invariant.count in
    record {
      count = omega (arith, long, sum, before);
      each = λ j y is. table-push IsInterfaceOf us old x c.loop-k.k before c.loop-k.invariant.each (subst (λ (u : List Labelled). IsInterfaceOf u x) c.at.ensures.statements c.in_ok-of.ensures) j y (ap (λ (t : List UnitInterface). slice_get t j) (sym items) ∙ is);
    }

pub returns : goal.returns
returns c =
    let us = c.args.us.now in
    let old = c.loop-k.interfaces.items in
    let x = c.in_ok-of-2.field-0 in
    let items = c.in_ok-push-2.ensures.items in
    let long = ap length items in
    let sum = length-append old (x ∷ []) in
    let before : length old ≡ length us = let a = c.loop-k.invariant.count in omega (arith, a) in
    record {
      count = omega (arith, long, sum, before);
      each = λ j y is. table-push IsInterfaceOf us old x (length us) before c.loop-k.invariant.each (subst (λ (u : List Labelled). IsInterfaceOf u x) (sym (none-behind us)) c.in_ok-of-2.ensures) j y (ap (λ (t : List UnitInterface). slice_get t j) (sym items) ∙ is);
    }
