use Rattle.std.proofs.Common.{◌≡◌, ◌++◌, ℕ, List, None, Option, ◌<◌, ◌^◌, length, append-nil, sym, ap, subst, ◌∙◌}
use Rattle.std.specs.Prelude.{option_copied}
use Rattle.program_units.specs.Units.{unit_at}
use Rattle.copied_names.specs.CopiedNames.{first_dummies, names_by, subroutine}
use Rattle.copied_names.proofs.copied.add_unit.Goals as goal

pub add_names_of-requires-clause-few : goal.add_names_of-requires-clause-few
add_names_of-requires-clause-few c = subst (λ n. n < 2 ^ 32) (ap length (ap first_dummies c.at-unit.ensures.statements ∙ sym (c.requires.first c.args.k c.requires.sub c.requires.unit))) c.few_dummies.ensures

pub returns-in-None : goal.returns-in-None
returns-in-None c =
    let us = c.args.new.now.text.now.us.now in
    let none : subroutine (unit_at us c.args.k) ≡ None = ap subroutine (sym c.at-unit.ensures.statements) ∙ sym c.subroutine.ensures ∙ ap option_copied c.in-None.is in
    sym (ap (λ (name : Option (List ℕ)). c.args.names.now.items ++ names_by us c.args.k name) none ∙ append-nil c.args.names.now.items)
