use Rattle.std.proofs.Common.{◌≡◌, ◌≤◌, ◌++◌, length, map, take}
use Rattle.f77_tree.specs.StatementGrammar.{with_commas, dim_text}
use Rattle.flat_programs.specs.Declarations.{written_dim}
use Rattle.flat_programs.proofs.declarations.append_dim_list.Given as goal

abbrev pub invariant-loop-k : goal.invariant-loop-k
invariant-loop-k l = record {
  within : l.k ≤ length l.dims;
  text : l.out.items ≡ l.fn.out.items ++ with_commas (map dim_text (map written_dim (take l.k l.dims)));
}
