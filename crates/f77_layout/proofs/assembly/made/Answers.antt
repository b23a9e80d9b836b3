use Rattle.std.proofs.Common.{map, length, sym, ap, ◌∙◌}
use Rattle.std.specs.List.{range_with_len}
use Rattle.f77_tree.specs.InitialWords.{initial_word}
use Rattle.layout_rules.specs.Declarations.{all_inits}
use Rattle.layout_rules.specs.Executables.{executables}
use Rattle.layout_rules.specs.Layout.{names_of, placed_names}
use Rattle.layout_rules.specs.PlacedNames.{with_places}
use Rattle.storage_checks.proofs.FaultLines.{no-storage-fault, none-too-great}
use Rattle.f77_layout.proofs.MadePrograms.{as-many, small-places, placed-is, are-places, items-right, data-right, program-is}
use Rattle.f77_layout.proofs.assembly.made.Goals as goal

pub placed_names-requires-clause-as_many : goal.placed_names-requires-clause-as_many
placed_names-requires-clause-as_many c =
    let words = c.requires.blocks.labelled.words in
    ap length c.deref.ensures.value ∙ as-many c.args.stmts.now c.args.numbers.now words.numbered ∙ sym (ap length words.named.table)

pub placed_names-requires-clause-few : goal.placed_names-requires-clause-few
placed_names-requires-clause-few c =
    let words = c.requires.blocks.labelled.words in
    rw c.deref.ensures.value (small-places c.args.stmts.now c.args.numbers.now words.numbered c.requires.few)

pub initial_words-requires-clause-members : goal.initial_words-requires-clause-members
initial_words-requires-clause-members c =
    let words = c.requires.blocks.labelled.words in
    rw words.named.table (rw c.as_slice.ensures (rw c.in_ok-inits.ensures (items-right c.args.stmts.now c.args.numbers.now words.numbered (no-storage-fault (names_of c.args.stmts.now) (placed_names c.args.stmts.now) c.args.stmts.now words.stored))))

pub initial_words-requires-clause-places : goal.initial_words-requires-clause-places
initial_words-requires-clause-places c =
    let words = c.requires.blocks.labelled.words in
    rw words.named.table (rw c.deref-2.ensures.value (are-places c.args.stmts.now c.args.numbers.now words.numbered (no-storage-fault (names_of c.args.stmts.now) (placed_names c.args.stmts.now) c.args.stmts.now words.stored)))

pub initial_words-requires-clause-data : goal.initial_words-requires-clause-data
initial_words-requires-clause-data c =
    let words = c.requires.blocks.labelled.words in
    rw words.named.table (rw c.deref-2.ensures.value (rw c.as_slice.ensures (rw c.in_ok-inits.ensures (data-right c.args.stmts.now c.args.numbers.now words.numbered (no-storage-fault (names_of c.args.stmts.now) (placed_names c.args.stmts.now) c.args.stmts.now words.stored)))))

pub executables_of-requires-clause-modest : goal.executables_of-requires-clause-modest
executables_of-requires-clause-modest c = rw c.requires.blocks.labelled.words.named.table (none-too-great (names_of c.args.stmts.now) c.args.checked c.args.stmts.now c.requires.modest)

pub returns : goal.returns
returns c =
    let stmts = c.args.stmts.now in
    let words = c.requires.blocks.labelled.words in
    let inits_are = c.inits.view_is ∙ c.in_ok-inits.ensures in
    let placed_are =
    ap (λ places. with_places c.args.names.now places) c.deref.ensures.value
    ∙ ap (λ names. with_places names c.args.numbers.now.places.items) words.named.table
    ∙ placed-is stmts c.args.numbers.now words.numbered in
    let words_are = words.numbered.numbered.words_are in
    let initial_are =
    c.in_ok-initial_words.ensures
    ∙ ap (λ places. map (initial_word (with_places c.args.names.now places) c.as_slice.result.now) (range_with_len 0 c.args.numbers.now.words)) c.deref-2.ensures.value
    ∙ ap (λ names. map (initial_word (with_places names c.args.numbers.now.places.items) c.as_slice.result.now) (range_with_len 0 c.args.numbers.now.words)) words.named.table
    ∙ ap (λ placed. map (initial_word placed c.as_slice.result.now) (range_with_len 0 c.args.numbers.now.words)) (placed-is stmts c.args.numbers.now words.numbered)
    ∙ ap (λ inits. map (initial_word (placed_names stmts) inits) (range_with_len 0 c.args.numbers.now.words)) (c.as_slice.ensures ∙ c.in_ok-inits.ensures)
    ∙ ap (λ n. map (initial_word (placed_names stmts) (all_inits stmts)) (range_with_len 0 n)) words_are in
    program-is _ _ _ _ _ _ _ _ _ _ _ _ _ _ _ _
    (c.in_ok-placed_names.ensures ∙ placed_are) words_are
    initial_are c.in_ok-commons_of.ensures c.in_ok-groups_of.ensures inits_are (c.in_ok-executables_of.ensures ∙ ap (λ names. executables names c.args.checked stmts) words.named.table) c.count_loops.ensures
