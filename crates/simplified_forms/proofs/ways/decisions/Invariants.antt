use Rattle.const_prop.specs.Table.{knowns_of}
use Rattle.simplified_forms.specs.Plans.{AreTold}
use Rattle.simplified_forms.specs.Simplified.{decided}
use Rattle.simplified_forms.proofs.ways.decisions.Given as goal

abbrev pub invariant-loop-k : goal.invariant-loop-k
invariant-loop-k g l = AreTold (decided l.p (knowns_of l.t)) l.k l.decided.items
