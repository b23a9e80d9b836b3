use Rattle.std.proofs.Common.{List, ap, ◌∙◌}
use Rattle.f77_tree.specs.declared.statements.Labelled.{Labelled}
use Rattle.program_units.specs.Refusals.{expansion}
use Rattle.unit_laws.proofs.AcceptedTexts.{accepted-of, refused-of}
use Rattle.f77_subs.proofs.expanding.expand.Goals as goal

pub returns-clause-accepted : goal.returns-clause-accepted
returns-clause-accepted c =
    accepted-of c.in_ok-found.found (expansion c.args.stmts.now c.args.checked)
    (c.in_ok-found.ensures ∙ ap (λ (stmts : List Labelled). expansion stmts c.args.checked) c.as_slice.ensures.items)

pub returns-clause-refused : goal.returns-clause-refused
returns-clause-refused c =
    refused-of c.in_ok-found.found (expansion c.args.stmts.now c.args.checked)
    (c.in_ok-found.ensures ∙ ap (λ (stmts : List Labelled). expansion stmts c.args.checked) c.as_slice.ensures.items)
