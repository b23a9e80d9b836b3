use Rattle.std.proofs.Common.{◌≡◌, ◌≤◌, ◌++◌, length, map, take}
use Rattle.f77_tree.specs.StatementGrammar.{with_commas, signed_text}
use Rattle.flat_programs.specs.Declarations.{signed}
use Rattle.flat_programs.proofs.declarations.append_numbers.Given as goal

abbrev pub invariant-loop-k : goal.invariant-loop-k
invariant-loop-k l = record {
  within : l.k ≤ length l.numbers;
  text : l.out.items ≡ l.fn.out.items ++ with_commas (map signed_text (map signed (take l.k l.numbers)));
}
