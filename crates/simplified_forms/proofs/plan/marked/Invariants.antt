use Rattle.std.proofs.Common.{◌≡◌, length}
use Rattle.const_prop.specs.Table.{Knowns}
use Rattle.simplified_forms.specs.Plans.{answer, AreTold}
use Rattle.simplified_forms.specs.Simplified.{decided, has_mark}
use Rattle.simplified_forms.specs.Tables.{AreAnswers}
use Rattle.simplified_forms.proofs.plan.marked.Given as goal

abbrev pub invariant-loop-k : goal.invariant-loop-k
invariant-loop-k l = record {
  size : length l.marked.items ≡ l.k;
  marked : (t : Knowns) → AreTold (decided l.p t) (length l.p.execs) l.ways.decided.items → AreAnswers (has_mark l.p t (answer l.ways.items.items)) l.k l.marked.items;
}
