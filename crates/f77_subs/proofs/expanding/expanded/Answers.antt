use Rattle.std.proofs.Common.{◌≡◌, ◌^◌, List, None, Option, sym, subst, ap, ◌∙◌, arith}
use Rattle.f77_tree.specs.declared.statements.Labelled.{Labelled}
use Rattle.layout_rules.specs.Faults.{first_answer}
use Rattle.program_units.specs.declared.sub_end.SubEnd.{SubEnd}
use Rattle.program_units.specs.Expansion.{whole_list}
use Rattle.program_units.specs.Heights.{NoneCallsItself}
use Rattle.program_units.specs.NamedEntities.{AreAllNamed}
use Rattle.program_units.specs.Units.{AreFit}
use Rattle.program_units.specs.Refusals.{form_refusals, list_unless, size_refusals}
use Rattle.unit_laws.proofs.AcceptedTexts.{are-fit, formed, none-recurs, sized}
use Rattle.entity_names.proofs.NamedEntities.{all-named}
use Rattle.unit_checks.proofs.FewCalls.{few-edges, few-units}
use Rattle.f77_subs.proofs.expanding.expanded.Goals as goal

pub returns-in-Some : goal.returns-in-Some
returns-in-Some c = formed c.args.stmts.now c.in_ok-us.us c.args.checked c.in-Some.end c.in_ok-us.ensures (sym c.in_ok-form.ensures ∙ c.in-Some.is)

pub of_units-requires-clause-units : goal.of_units-requires-clause-units
of_units-requires-clause-units c = few-units c.args.stmts.now c.in_ok-text-in-None.text.us.now 4000 (2 ^ 31) (c.in_ok-text-in-None.ensures ∙ c.in_ok-us.ensures) c.requires.few (omega arith)

pub of_units-requires-clause-room : goal.of_units-requires-clause-room
of_units-requires-clause-room c = few-edges c.args.stmts.now c.in_ok-text-in-None.text.us.now 4000 (2 ^ 31) (c.in_ok-text-in-None.ensures ∙ c.in_ok-us.ensures) c.requires.few (omega arith)

pub of_units-requires-clause-none : goal.of_units-requires-clause-none
of_units-requires-clause-none c = subst NoneCallsItself (sym c.in_ok-text-in-None.ensures) (none-recurs c.args.stmts.now c.args.checked c.requires.ended c.in_ok-us.us c.in_ok-us.ensures (sym c.in_ok-form.ensures ∙ c.in-None.is))

pub of_units-requires-clause-fit : goal.of_units-requires-clause-fit
of_units-requires-clause-fit c = subst AreFit (sym c.in_ok-text-in-None.ensures) (are-fit c.args.stmts.now c.args.checked c.requires.ended c.in_ok-us.us c.in_ok-us.ensures (sym c.in_ok-form.ensures ∙ c.in-None.is))

pub of_units-requires-clause-named : goal.of_units-requires-clause-named
of_units-requires-clause-named c =
    subst AreAllNamed (sym (c.in_ok-text-in-None.ensures ∙ c.in_ok-us.ensures))
    (all-named c.args.stmts.now c.args.checked c.requires (subst (λ (us : List (List Labelled)). first_answer (λ r. r) (form_refusals c.args.stmts.now us c.args.checked) ≡ None) c.in_ok-us.ensures (sym c.in_ok-form.ensures ∙ c.in-None.is)))

pub returns : goal.returns
returns c =
    c.in_ok-found-in-None.ensures
    ∙ ap (λ (us : List (List Labelled)). list_unless (first_answer (λ (r : Option SubEnd). r) (size_refusals us)) (whole_list us)) c.in_ok-text-in-None.ensures
    ∙ sized c.args.stmts.now c.in_ok-us.us c.args.checked c.in_ok-us.ensures (sym c.in_ok-form.ensures ∙ c.in-None.is)
