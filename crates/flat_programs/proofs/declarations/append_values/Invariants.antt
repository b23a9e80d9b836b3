use Rattle.std.proofs.Common.{◌≡◌, ◌≤◌, ◌++◌, length, map, take}
use Rattle.f77_tree.specs.StatementGrammar.{with_commas, value_text}
use Rattle.flat_programs.specs.Declarations.{written_value}
use Rattle.flat_programs.proofs.declarations.append_values.Given as goal

abbrev pub invariant-loop-k : goal.invariant-loop-k
invariant-loop-k l = record {
  within : l.k ≤ length l.values;
  text : l.out.items ≡ l.fn.out.items ++ with_commas (map value_text (map written_value (take l.k l.values)));
}
