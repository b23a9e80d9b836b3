use Rattle.std.proofs.Common.{◌+◌, ℕ, ℤ, List, drop, ap, sym, ◌∙◌}
use Rattle.std.specs.Prelude.{zip}
use Rattle.std.specs.List.{flat_map}
use Rattle.f77_tree.specs.declared.declarations.Lit.{Lit}
use Rattle.storage_checks.specs.Runs.{span_words}
use Rattle.storage_checks.specs.Writing.{written}
use Rattle.layout_rules.proofs.FlatParts.{flat_map_left}
use Rattle.f77_tree.proofs.NameWords.{length-from}
use Rattle.storage_checks.proofs.WrittenWords.{written-part}
use Rattle.storage_checks.proofs.initial.write_spans.Goals as goal

pub loop-span-preserved : goal.loop-span-preserved
loop-span-preserved c =
    let spans = c.args.spans.now in
    let i = c.loop-span.span-index in
    let span = c.span-item.result in
    let others = flat_map span_words (drop (i + 1) spans) in
    let cells = c.loop-span.cells in
    let constants = c.loop-span.constants in
    ap (λ (words : List ℤ). written words (zip others c.write_span.new.constants)) c.write_span.ensures.cells
    ∙ ap (λ (left : List Lit). written (written cells (zip (span_words span) constants)) (zip others left)) c.write_span.ensures.constants
    ∙ ap (λ (n : ℕ). written (written cells (zip (span_words span) constants)) (zip others (drop n constants))) (sym (length-from span.first span.len))
    ∙ written-part cells (span_words span) others constants
    ∙ ap (λ (words : List ℕ). written cells (zip words constants)) (sym (flat_map_left span_words spans i span c.loop-span-test.true c.span-item.is))
    ∙ c.loop-span.invariant
