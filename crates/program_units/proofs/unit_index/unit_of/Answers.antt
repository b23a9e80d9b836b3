use Rattle.std.proofs.Common.{sym, ◌∙◌}
use Rattle.program_units.proofs.NamedUnits.{named-none}
use Rattle.program_units.proofs.unit_index.unit_of.Goals as goal

pub returns-in-None : goal.returns-in-None
returns-in-None c = c.len.ensures ∙ named-none c.args.us.now c.args.name.now (sym (c.requires c.args.name.now) ∙ sym c.found.ensures ∙ c.in-None.is)
