use Rattle.std.proofs.Common.{◌∙◌, ap}
use Rattle.form_advice.specs.Forms.{advice_on_plain}
use Rattle.form_advice.proofs.forms.advice_on_form.Goals as goal

pub returns : goal.returns
returns c = c.advice_on_plain.ensures ∙ ap (advice_on_plain c.args.tables.now c.args.text.now) (c.as_slice.ensures.value ∙ c.in_ok-plain.ensures)
