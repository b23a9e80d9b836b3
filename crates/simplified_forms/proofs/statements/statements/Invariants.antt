use Rattle.std.proofs.Common.{◌≡◌, ◌≤◌, ◌*◌, length, flat_map}
use Rattle.std.specs.List.{range_with_len}
use Rattle.const_prop.specs.Table.{knowns_of}
use Rattle.simplified_forms.specs.Plans.{answer}
use Rattle.simplified_forms.specs.Simplified.{lines}
use Rattle.simplified_forms.proofs.statements.statements.Given as goal

abbrev pub invariant-loop-k : goal.invariant-loop-k
invariant-loop-k g l = record {
  flat : l.flat ≡ flat_map (lines l.p l.c (knowns_of l.t) l.checked (answer l.plan.ways.items.items)) (range_with_len 0 l.k);
  few : length l.flat ≤ 3 * l.k;
}
