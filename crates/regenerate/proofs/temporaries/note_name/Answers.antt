use Rattle.std.proofs.Common.{sym, ◌∙◌, arith}
use Rattle.shared_forms.proofs.TemporaryLemmas.{noted-name, noted-other, noted-past, number_told}
use Rattle.regenerate.proofs.temporaries.note_name.Goals as goal

pub returns-then-len-n-clause-noted : goal.returns-then-len-n-clause-noted
returns-then-len-n-clause-noted c = λ m less.
    let name = c.args.name.now in
    noted-past name c.digits-n.result m c.args.used.now.items (omega arith) less (number_told name c.digits-n.result m c.digits-n.ensures (omega (arith, less, c.requires)))

pub returns-then-is_name_of-clause-noted : goal.returns-then-is_name_of-clause-noted
returns-then-is_name_of-clause-noted c = λ m less.
    let name = c.args.name.now in
    noted-name name c.digits-n.result m c.args.used.now.items (omega arith) (sym c.is_name_of.ensures ∙ c.if-is_name_of.true) (number_told name c.digits-n.result m c.digits-n.ensures (omega (arith, less, c.requires)))

pub returns-else-is_name_of-clause-noted : goal.returns-else-is_name_of-clause-noted
returns-else-is_name_of-clause-noted c = λ m less.
    let name = c.args.name.now in
    noted-other name c.digits-n.result m c.args.used.now.items (sym c.is_name_of.ensures ∙ c.if-is_name_of.false) (number_told name c.digits-n.result m c.digits-n.ensures (omega (arith, less, c.requires)))
