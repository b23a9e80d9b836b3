use Rattle.std.proofs.Common.{◌≡◌, ◌<◌, ◌≤◌, Bool, true, List, length, Some, sym, ap, ◌∙◌, arith}
use Rattle.std.specs.Prelude.{slice_get, slice_index_or, false}
use Rattle.f77_tree.specs.declared.statements.Labelled.{Labelled}
use Rattle.layout_rules.specs.Layout.{line_or_none}
use Rattle.program_units.specs.Units.{reaches, unit_at}
use Rattle.program_units.specs.Refusals.{recursion, first_line_if}
use Rattle.unit_checks.proofs.GrowingGraph.{first-at, none-at}
use Rattle.unit_checks.proofs.recursion.first_marked.Goals as goal

pub returns-then-marks-k : goal.returns-then-marks-k
returns-then-marks-k c =
    let us = c.args.us.now in
    let k = c.loop-k.k in
    let inside : k < length us = omega arith in
    let told : slice_index_or c.args.marks.now k false ≡ reaches us (length us) k k = c.requires.told k inside in
    let marked : slice_index_or c.args.marks.now k false ≡ true = c.if-marks-k.true in
    let is : recursion us k ≡ Some c.line_of_first.result =
    ap (λ (b : Bool). first_line_if b (unit_at us k)) (sym told ∙ marked)
    ∙ ap (λ (u : List Labelled). Some (line_or_none (slice_get u 0))) (sym c.at.ensures.statements)
    ∙ ap (λ n. Some n) (sym c.line_of_first.ensures)
    in
    sym (first-at (recursion us) (length us) k c.line_of_first.result inside c.loop-k.invariant is)

pub returns : goal.returns
returns c =
    let us = c.args.us.now in
    let at_end : length us ≤ c.loop-k.k = omega arith in
    sym (none-at (recursion us) (length us) (λ j below. c.loop-k.invariant j (omega (arith, at_end, below))))
