use Rattle.std.proofs.Common.{◌≡◌, ◌<◌, List, Option, length, Some, None, sym, ap, ◌∙◌, arith}
use Rattle.f77_tree.specs.declared.statements.Labelled.{Labelled}
use Rattle.program_units.specs.declared.sub_end.SubEnd.{SubEnd}
use Rattle.program_units.specs.declared.sub_end.SubEnd.TheVariants.{Layout}
use Rattle.program_units.specs.Units.{unit_at}
use Rattle.program_units.specs.Refusals.{layout_end, layout_end_of}
use Rattle.unit_checks.proofs.RefusedUnits.{none-of}
use Rattle.program_units.proofs.UnitsMet.{answer-here, answer-next}
use Rattle.unit_checks.proofs.refused_units.first_refused.Goals as goal

pub returns-in-Some : goal.returns-in-Some
returns-in-Some c =
    let us = c.args.us.now in
    let k = c.loop-k.k in
    let inside : k < length us = omega arith in
    let f : List Labelled → Option SubEnd = λ u. layout_end u c.args.checked in
    let is : f (unit_at us k) ≡ Some (Layout c.in-Some.end) = ap f (sym c.at.ensures.statements) ∙ ap layout_end_of (sym c.in_ok-end.ensures ∙ c.in-Some.is) in
    sym (c.loop-k.invariant ∙ answer-here f us k (Layout c.in-Some.end) inside is)

pub loop-k-preserved : goal.loop-k-preserved
loop-k-preserved c =
    let us = c.args.us.now in
    let k = c.loop-k.k in
    let inside : k < length us = omega arith in
    let f : List Labelled → Option SubEnd = λ u. layout_end u c.args.checked in
    let none : c.in_ok-end.field-0 ≡ None = none-of c.in_ok-end.field-0 (λ end is. c.in_default.not-Some end is) in
    let is : f (unit_at us k) ≡ None = ap f (sym c.at.ensures.statements) ∙ ap layout_end_of (sym c.in_ok-end.ensures ∙ none) in
    c.loop-k.invariant ∙ answer-next f us k inside is
