use Rattle.std.proofs.Common.{◌≡◌, ◌<◌, ◌==◌, ◌&&◌, ℕ, length}
use Rattle.std.specs.List.{list_any, range_with_len}
use Rattle.const_prop.specs.Table.{Knowns}
use Rattle.simplified_forms.specs.Plans.{answer, AreTold}
use Rattle.simplified_forms.specs.Simplified.{decided, jumps}
use Rattle.simplified_forms.proofs.plan.jumped_to.Given as goal

abbrev pub invariant-loop-k : goal.invariant-loop-k
invariant-loop-k l = record {
  size : length l.jumped.items ≡ length l.p.execs;
  jumped : (t : Knowns) → AreTold (decided l.p t) (length l.p.execs) l.ways.decided.items → (s : ℕ) → s < length l.p.execs → answer l.jumped.items s ≡ list_any (λ j. answer l.ways.items.items j && list_any (λ x. x == s) (jumps l.p t (answer l.ways.items.items) j)) (range_with_len 0 l.k);
}
