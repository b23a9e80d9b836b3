use Rattle.std.proofs.Common.{sym, ◌∙◌}
use Rattle.std.specs.Prelude.{nat_lt}
use Rattle.program_units.specs.Expansion.{total_width}
use Rattle.program_units.specs.Refusals.{has_great_name}
use Rattle.unit_laws.proofs.SizesMet.{great-told, none-told, wide-told}
use Rattle.f77_subs.proofs.size_refusals.size_refusal.Goals as goal

pub returns-then-wide : goal.returns-then-wide
returns-then-wide c =
    let us = c.args.text.now.us.now in
    wide-told us (nat_lt 4000 (total_width us)) (has_great_name us) c.line_of_end.result (sym c.in_ok-wide.ensures ∙ c.if-wide.true) c.line_of_end.ensures

pub returns-then-great : goal.returns-then-great
returns-then-great c =
    let us = c.args.text.now.us.now in
    great-told us (nat_lt 4000 (total_width us)) (has_great_name us) c.line_of_end-then-great.result (sym c.in_ok-wide.ensures ∙ c.if-wide.false) (sym c.in_ok-great.ensures ∙ c.if-great.true) c.line_of_end-then-great.ensures

pub returns : goal.returns
returns c =
    let us = c.args.text.now.us.now in
    none-told us (nat_lt 4000 (total_width us)) (has_great_name us) (sym c.in_ok-wide.ensures ∙ c.if-wide.false) (sym c.in_ok-great.ensures ∙ c.if-great.false)
