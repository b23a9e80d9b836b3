use Rattle.shared_forms.proofs.NumberLemmas.{number-told}
use Rattle.regenerate.proofs.sharing.number.Goals as goal

pub returns : goal.returns
returns c = number-told c.args.a.now.candidates c.args.e.now c.number.result c.number.ensures
