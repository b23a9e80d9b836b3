use Rattle.std.proofs.Common.{rules, ◌≡◌, false}
use Rattle.std.specs.Prelude.{◌==◌}
use Rattle.f77_tree.specs.Execution.{words_taken}
use Rattle.flat_programs.proofs.ShownLemmas.{value_proper}
use Rattle.flat_programs.proofs.shown.append_assignment.Goals as goal

pub print_expr-requires : goal.print_expr-requires
print_expr-requires c =
    let none : (words_taken c.args.value.now == 1) ≡ false = search rules in
    value_proper c.args.p.now.names c.args.target.now c.args.value.now c.requires none
