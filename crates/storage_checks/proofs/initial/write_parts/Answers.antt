use Rattle.std.proofs.Common.{◌≡◌, ℕ, ℤ, List, take, sym, ap, ◌∙◌}
use Rattle.std.specs.Prelude.{zip}
use Rattle.std.specs.List.{flat_map}
use Rattle.f77_tree.specs.declared.declarations.InitValue.{InitValue}
use Rattle.f77_tree.specs.declared.declarations.Member.{Member}
use Rattle.f77_tree.specs.InitialWords.{item_words}
use Rattle.layout_rules.specs.PlacedNames.{with_places}
use Rattle.storage_checks.specs.Runs.{span_words, all_constants}
use Rattle.storage_checks.specs.declared.data_spans.Span.{Span}
use Rattle.storage_checks.specs.Writing.{written, part_pairs}
use Rattle.layout_rules.proofs.FlatParts.{flat_map_taken}
use Rattle.storage_checks.proofs.WrittenWords.{written-append}
use Rattle.storage_checks.proofs.initial.write_parts.Goals as goal

pub loop-part-preserved : goal.loop-part-preserved
loop-part-preserved c =
    let placed = with_places c.args.names.now c.args.places.now in
    let inits = c.args.inits.now in
    let i = c.loop-part.part-index in
    let part = c.part-item.result in
    let cells = c.loop-part.cells in
    let before = flat_map (part_pairs placed) (take i inits) in
    let words : flat_map span_words c.deref.result.now ≡ flat_map (item_words placed) part.items = ap (λ (spans : List Span). flat_map span_words spans) c.deref.ensures.value ∙ c.in_ok-spans.ensures.words ∙ ap (λ (items : List Member). flat_map (item_words placed) items) c.as_slice.ensures.items in
    c.write_spans.ensures
    ∙ ap (λ (ws : List ℕ). written cells (zip ws (all_constants c.as_slice-in-loop-part.result.now))) words
    ∙ ap (λ (values : List InitValue). written cells (zip (flat_map (item_words placed) part.items) (all_constants values))) c.as_slice-in-loop-part.ensures.items
    ∙ ap (λ (ws : List ℤ). written ws (part_pairs placed part)) c.loop-part.invariant
    ∙ sym (written-append c.args.cells.now before (part_pairs placed part))
    ∙ ap (written c.args.cells.now) (sym (flat_map_taken (part_pairs placed) inits i part c.loop-part-test.true c.part-item.is))
