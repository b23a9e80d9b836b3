use Rattle.std.proofs.Common.{sym, ap, ◌∙◌}
use Rattle.program_units.specs.Units.{inner, is_return}
use Rattle.program_units.proofs.StandingIn.{inner-ThenIf}
use Rattle.program_units.proofs.unit_order.returns.Goals as goal

pub returns-in-ThenIf : goal.returns-in-ThenIf
returns-in-ThenIf c = c.is_back.ensures ∙ ap is_return (c.get.ensures ∙ sym (inner-ThenIf c.in-ThenIf.field-0 c.in-ThenIf.inner) ∙ ap inner (sym c.in-ThenIf.is))
