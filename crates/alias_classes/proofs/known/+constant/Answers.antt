use Rattle.std.proofs.Common.{sym, ap, ◌∙◌}
use Rattle.alias_classes.specs.Constant.{is_constant}
use Rattle.alias_classes.proofs.Rows.{is_constant-Apply}
use Rattle.alias_classes.proofs.known.+constant.Goals as goal

pub is_constant-returns-in-Apply : goal.is_constant-returns-in-Apply
is_constant-returns-in-Apply t c =
    c.are_constant.ensures ∙ sym (is_constant-Apply c.in-Apply.field-0 c.in-Apply.args) ∙ ap is_constant (sym c.in-Apply.is)
