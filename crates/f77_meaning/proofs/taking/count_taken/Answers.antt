use Rattle.std.proofs.Common.{List, map, sym, ap, ◌∙◌}
use Rattle.f77_tree.specs.declared.expressions.Expr.{Expr}
use Rattle.f77_tree.specs.Execution.{is_input, is_truth, count_if, words_taken}
use Rattle.f77_tree.proofs.Taking.{words_taken_apply}
use Rattle.f77_meaning.proofs.taking.count_taken.Goals as goal

pub returns-in-Apply : goal.returns-in-Apply
returns-in-Apply c =
    c.count_taken_by.ensures
    ∙ ap (λ (es : List Expr). count_if (is_truth c.in-Apply.op) (map is_input es)) c.as_slice.ensures.items
    ∙ sym (words_taken_apply c.in-Apply.op c.in-Apply.args)
    ∙ sym (ap words_taken c.in-Apply.is)
