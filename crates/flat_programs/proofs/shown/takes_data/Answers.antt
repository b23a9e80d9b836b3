use Rattle.std.proofs.Common.{ℕ, List, map, sym, ap, ◌∙◌}
use Rattle.std.specs.Prelude.{◌==◌}
use Rattle.f77_tree.specs.declared.expressions.Expr.{Expr}
use Rattle.f77_tree.specs.Execution.{is_input, is_truth, count_if, words_taken}
use Rattle.f77_tree.proofs.Taking.{words_taken_apply}
use Rattle.flat_programs.proofs.shown.takes_data.Goals as goal

pub returns-in-Apply : goal.returns-in-Apply
returns-in-Apply c =
    c.is_truth_of_input.ensures
    ∙ ap (λ (es : List Expr). count_if (is_truth c.in-Apply.op) (map is_input es) == 1) c.as_slice.ensures.items
    ∙ ap (λ (n : ℕ). n == 1) (sym (words_taken_apply c.in-Apply.op c.in-Apply.args) ∙ sym (ap words_taken c.in-Apply.is))
