use Rattle.std.proofs.Common.{◌+◌, ℕ, length, min, sum_by, ap, ◌∙◌}
use Rattle.std.specs.Prelude.{nat_lt}
use Rattle.program_units.specs.Units.{unit_at}
use Rattle.program_units.specs.Widths.{body_width, width}
use Rattle.program_units.specs.Expansion.{merged}
use Rattle.unit_laws.proofs.GreatNumbers.{both-capped}
use Rattle.inlined_copies.proofs.total_widths.has_more_than.Goals as goal

pub returns : goal.returns
returns c =
    let us = c.args.us.now in
    let most = c.args.most in
    let own : ℕ = sum_by (width (body_width us (length us)) us 0) (unit_at us 0) in
    c.is_more.ensures
    ∙ ap (λ (n : ℕ). nat_lt most (n + c.args.merged)) c.in_ok-width.ensures
    ∙ ap (λ (n : ℕ). nat_lt most (min own (most + 1) + n)) c.requires.merged
    ∙ both-capped own (length (merged us)) most
