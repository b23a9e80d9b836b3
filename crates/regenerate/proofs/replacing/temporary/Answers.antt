use Rattle.std.proofs.Common.{sym, ◌∙◌}
use Rattle.shared_forms.proofs.NumberLemmas.{number_in-within}
use Rattle.regenerate.proofs.replacing.temporary.Goals as goal

pub name_of-requires-clause-n : goal.name_of-requires-clause-n
name_of-requires-clause-n c = number_in-within c.args.t.now.a.now.candidates c.args.e.now c.in-Some.n (sym c.number.ensures ∙ c.in-Some.is)
