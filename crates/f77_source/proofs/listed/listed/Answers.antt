use Rattle.std.proofs.Common.{sym, ap, ◌∙◌}
use Rattle.f77_source.specs.Listed.{is_one_unit}
use Rattle.f77_source.proofs.OneUnit.{one-unit-source}
use Rattle.f77_source.proofs.listed.listed.Goals as goal

-- src/listed.rt:19:1
pub returns-then-is_one_unit-clause-source : goal.returns-then-is_one_unit-clause-source
returns-then-is_one_unit-clause-source c =
    one-unit-source c.args.stmts c.requires (ap is_one_unit (sym c.as_slice.ensures.items) ∙ sym c.is_one_unit.ensures ∙ c.if-is_one_unit.true)
