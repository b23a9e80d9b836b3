use Rattle.std.proofs.Common.{not, sym, ap, ◌∙◌, refl}
use Rattle.fixed_form.specs.Columns.{is_character}
use Rattle.fixed_form.proofs.Cards.{list_all-card}
use Rattle.fixed_form.proofs.line.has_bad_byte.Goals as goal

pub returns : goal.returns
returns c =
    ap not (c.are_characters.ensures ∙ sym (list_all-card is_character refl c.args.columns.now c.requires))
