use Rattle.std.proofs.Common.{◌≡◌, ◌≤◌, ◌++◌, length, map, take}
use Rattle.std.specs.Prelude.{decimal}
use Rattle.f77_tree.specs.StatementGrammar.{with_commas}
use Rattle.flat_programs.proofs.shown.append_labels.Given as goal

abbrev pub invariant-loop-k : goal.invariant-loop-k
invariant-loop-k l = record {
  within : l.k ≤ length l.labels;
  text : l.out.items ≡ l.fn.out.items ++ with_commas (map decimal (take l.k l.labels));
}
