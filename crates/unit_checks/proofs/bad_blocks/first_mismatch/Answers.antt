use Rattle.std.proofs.Common.{◌≡◌, ◌<◌, Bool, List, length, Some, None, sym, ap, ◌∙◌, arith}
use Rattle.std.specs.Prelude.{slice_get}
use Rattle.f77_tree.specs.declared.statements.Labelled.{Labelled}
use Rattle.layout_rules.specs.Layout.{line_or_none}
use Rattle.program_units.specs.Units.{unit_at}
use Rattle.program_units.specs.Refusals.{bad_block, first_line_if}
use Rattle.program_units.proofs.UnitsMet.{answer-end, answer-here, answer-next}
use Rattle.unit_checks.proofs.bad_blocks.first_mismatch.Goals as goal

pub returns-then-has_mismatch : goal.returns-then-has_mismatch
returns-then-has_mismatch c =
    let us = c.args.us.now in
    let k = c.loop-k.k in
    let inside : k < length us = omega arith in
    let is : bad_block us (unit_at us k) ≡ Some c.line_of_first.result =
    ap (λ (b : Bool). first_line_if b (unit_at us k)) (sym c.has_mismatch.ensures ∙ c.if-has_mismatch.true)
    ∙ ap (λ (u : List Labelled). Some (line_or_none (slice_get u 0))) (sym c.at.ensures.statements)
    ∙ ap (λ n. Some n) (sym c.line_of_first.ensures)
    in
    sym (c.loop-k.invariant ∙ answer-here (bad_block us) us k c.line_of_first.result inside is)

pub loop-k-preserved : goal.loop-k-preserved
loop-k-preserved c =
    let us = c.args.us.now in
    let k = c.loop-k.k in
    let inside : k < length us = omega arith in
    let is : bad_block us (unit_at us k) ≡ None = ap (λ (b : Bool). first_line_if b (unit_at us k)) (sym c.has_mismatch.ensures ∙ c.if-has_mismatch.false) in
    c.loop-k.invariant ∙ answer-next (bad_block us) us k inside is

pub returns : goal.returns
returns c = sym (c.loop-k.invariant ∙ answer-end (bad_block c.args.us.now) c.args.us.now c.loop-k.k (omega arith))
