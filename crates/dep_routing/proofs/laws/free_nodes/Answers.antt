use Rattle.std.proofs.Common.{sym, ◌∙◌}
use Rattle.std.proofs.lemmas.Bool.{false≢true}
use Rattle.dep_routing.specs.Quiet.{IsInQuiet}
use Rattle.dep_routing.proofs.laws.free_nodes.Goals as goal

pub returns-clause-touching : goal.returns-clause-touching
returns-clause-touching c = λ g t touches line node touched (i : IsInQuiet g t touches line node). false≢true (sym (i.quiet.untouched node i.holds) ∙ touched)

pub returns-clause-start : goal.returns-clause-start
returns-clause-start c = λ g t touches line flow s (i : IsInQuiet g t touches line 0). (c.tree_facts.ensures g t flow s).start i.region i.quiet.number i.holds
