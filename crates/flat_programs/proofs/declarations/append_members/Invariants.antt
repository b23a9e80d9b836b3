use Rattle.std.proofs.Common.{◌≡◌, ◌≤◌, ◌++◌, length, map, take}
use Rattle.f77_tree.specs.StatementGrammar.{with_commas, member_text}
use Rattle.flat_programs.specs.Declarations.{written_member}
use Rattle.flat_programs.proofs.declarations.append_members.Given as goal

abbrev pub invariant-loop-k : goal.invariant-loop-k
invariant-loop-k l = record {
  within : l.k ≤ length l.members;
  text : l.out.items ≡ l.fn.out.items ++ with_commas (map member_text (map written_member (take l.k l.members)));
}
