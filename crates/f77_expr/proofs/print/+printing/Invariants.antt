use Rattle.std.proofs.Common.{◌≡◌, ◌+◌, ◌*◌, ◌≤◌, ◌++◌, length, map, take, All}
use Rattle.f77_tree.proofs.ExpressionLemmas.{weight, weights}
use Rattle.f77_expr.specs.Appending.{arguments_text}
use Rattle.f77_expr.specs.Constants.{HasConstants}
use Rattle.f77_expr.specs.Printing.{printed}
use Rattle.f77_expr.proofs.print.+printing.Given as goal

abbrev pub decreases-print_at : goal.decreases-print_at
decreases-print_at l = 8 * weight l.e.now + 3

abbrev pub decreases-print_open : goal.decreases-print_open
decreases-print_open l = 8 * weight l.e.now + 2

abbrev pub decreases-print_element : goal.decreases-print_element
decreases-print_element l = 8 * weights l.access.now.subs + 7

abbrev pub decreases-print_operator : goal.decreases-print_operator
decreases-print_operator l = 8 * weights l.args.now + 7

abbrev pub decreases-print_prefixed : goal.decreases-print_prefixed
decreases-print_prefixed l = 8 * weight l.e.now + 4

abbrev pub decreases-print_between : goal.decreases-print_between
decreases-print_between l = 8 * (weight l.a.now + weight l.b.now) + 4

abbrev pub decreases-print_call : goal.decreases-print_call
decreases-print_call l = 8 * weights l.args.now + 6

abbrev pub decreases-print_arguments : goal.decreases-print_arguments
decreases-print_arguments l = 8 * weights l.args.now + 5

abbrev pub decreases-print_extreme : goal.decreases-print_extreme
decreases-print_extreme l = 8 * weights l.args.now + 6

abbrev pub decreases-print_listed : goal.decreases-print_listed
decreases-print_listed l = 8 * weights l.args.now + 5

abbrev pub decreases-print_first : goal.decreases-print_first
decreases-print_first l = 8 * weight l.e.now + 4

abbrev pub invariant-print_arguments-loop-k : goal.invariant-print_arguments-loop-k
invariant-print_arguments-loop-k l = record {
  some : 1 ≤ l.k;
  within : l.k ≤ length l.args;
  text : l.out.items ≡ l.fn.out.items ++ arguments_text (map (printed l.names) (take l.k l.args));
  constants : All HasConstants (take l.k l.args);
}
