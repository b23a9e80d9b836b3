use Rattle.std.proofs.Common.{length, sym, ◌∙◌}
use Rattle.simplified_forms.proofs.JumpLemmas.{some-rest-below}
use Rattle.simplified_forms.proofs.ways.Ways.last_jump.Goals as goal

pub returns-clause-exists : goal.returns-clause-exists
returns-clause-exists c = some-rest-below (length c.args.self.now.items.items) c.args.k c.in-Some.s c.args.kind.now c.index.result.now c.requires.k c.requires.successors (sym c.rest.ensures ∙ c.in-Some.is)
