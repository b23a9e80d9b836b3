use Rattle.simplified_forms.specs.Items.{own_edge}
use Rattle.simplified_forms.specs.Tables.{IsTable}
use Rattle.simplified_forms.proofs.plan.own_edges.Given as goal

abbrev pub invariant-loop-k : goal.invariant-loop-k
invariant-loop-k l = IsTable (own_edge l.p) l.k l.found.items
