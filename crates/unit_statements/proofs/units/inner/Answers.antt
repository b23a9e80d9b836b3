use Rattle.std.proofs.Common.{sym, ap, ◌∙◌}
use Rattle.unit_statements.specs.Units.{inner}
use Rattle.unit_statements.proofs.UnitParts.{inner-ThenIf}
use Rattle.unit_statements.proofs.units.inner.Goals as goal

pub returns-in-ThenIf : goal.returns-in-ThenIf
returns-in-ThenIf c = c.get.ensures ∙ sym (inner-ThenIf c.in-ThenIf.field-0 c.in-ThenIf.inner) ∙ ap inner (sym c.in-ThenIf.is)
