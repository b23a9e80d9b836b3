use Rattle.std.proofs.Common.{sym, ◌∙◌}
use Rattle.layout_rules.specs.Faults.{first_answer}
use Rattle.program_units.specs.Expansion.{whole_list}
use Rattle.program_units.specs.Refusals.{size_refusals}
use Rattle.unit_laws.proofs.AcceptedTexts.{few-numbers, few-statements, listed, refused}
use Rattle.f77_subs.proofs.expanding.of_units.Goals as goal

pub returns-in-Some : goal.returns-in-Some
returns-in-Some c =
    let us = c.args.text.now.us.now in
    refused (first_answer (λ r. r) (size_refusals us)) c.in-Some.end (whole_list us) (sym c.in-Some.is ∙ c.in_ok-size.ensures)

pub list_of-requires-clause-few : goal.list_of-requires-clause-few
list_of-requires-clause-few c = few-statements c.args.text.now.us.now (sym c.in_ok-size.ensures ∙ c.in-None.is)

pub list_of-requires-clause-small : goal.list_of-requires-clause-small
list_of-requires-clause-small c = few-numbers c.args.text.now.us.now (sym c.in_ok-size.ensures ∙ c.in-None.is)

pub returns : goal.returns
returns c =
    let us = c.args.text.now.us.now in
    listed (first_answer (λ r. r) (size_refusals us)) (whole_list us) c.in_ok-list-in-None.list (sym c.in_ok-size.ensures ∙ c.in-None.is) c.in_ok-list-in-None.ensures
