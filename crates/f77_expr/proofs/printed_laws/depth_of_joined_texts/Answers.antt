use Rattle.std.proofs.Common.{max, ap, ◌∙◌}
use Rattle.f77_expr.specs.Piece.{bracket_depth, deepest_from, nothing_open}
use Rattle.f77_expr.proofs.Pieces.{deepest_both}
use Rattle.f77_expr.proofs.printed_laws.depth_of_joined_texts.Goals as goal

pub returns-clause-from : goal.returns-clause-from
returns-clause-from c = deepest_both

pub returns-clause-closed : goal.returns-clause-closed
returns-clause-closed c = λ a b closed. deepest_both nothing_open a b ∙ ap (λ open_now. max (bracket_depth a) (deepest_from open_now b)) closed
