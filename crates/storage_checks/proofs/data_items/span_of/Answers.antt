use Rattle.std.proofs.Common.{ℕ, ◌+◌, pos, get_or, ap, sym, ◌∙◌, arith}
use Rattle.std.proofs.lemmas.Bool.{true≢false}
use Rattle.f77_tree.specs.Value.{dims_of, kind_of}
use Rattle.f77_tree.specs.Declarations.{index_of, offset_of}
use Rattle.layout_rules.specs.Storage.{elements}
use Rattle.layout_rules.proofs.ElementCounts.{right-count, right-size}
use Rattle.storage_checks.proofs.PlacedNameLemmas.{words-alone, words-element, kinds-item}
use Rattle.layout_rules.proofs.RightDims.{right_dims}
use Rattle.storage_checks.proofs.data_items.span_of.Goals as goal

pub returns-then-is_empty-clause-words : goal.returns-then-is_empty-clause-words
returns-then-is_empty-clause-words c =
    let names = c.args.names.now in
    let places = c.args.places.now in
    let k = index_of names c.args.item.now.name in
    let dims = c.dims-dims.ensures ∙ ap (dims_of names) c.index-k.ensures in
    let size = right-size (dims_of names k) (right_dims names k c.requires.places.sizes) in
    let count = ap (λ n. pos n) (sym (c.size-len.ensures.elements ∙ ap elements dims)) in
    let first = c.place_at-first.ensures.place ∙ ap (λ (j : ℕ). get_or places j 0) c.index-k.ensures in
    words-alone names places c.requires.places.as_many c.args.item.now c.place_at-first.result c.size-len.result (c.is_empty.ensures.0 c.if-is_empty.true) first (size ∙ count)

pub returns-then-is_empty-clause-kinds : goal.returns-then-is_empty-clause-kinds
returns-then-is_empty-clause-kinds c =
    let names = c.args.names.now in
    let kind = c.kind-kind.ensures ∙ ap (kind_of names) c.index-k.ensures in
    kinds-item names c.args.places.now c.requires.places.as_many c.args.item.now c.place_at-first.result c.size-len.result c.kind-kind.result kind (returns-then-is_empty-clause-words c)

pub offset-requires-clause-few : goal.offset-requires-clause-few
offset-requires-clause-few c =
    let names = c.args.names.now in
    let k = index_of names c.args.item.now.name in
    let dims = ap elements (c.dims-dims.ensures ∙ ap (dims_of names) c.index-k.ensures) in
    let count = right-count (dims_of names k) (right_dims names k c.requires.places.sizes) in
    omega (arith, dims, count.1)

pub returns-clause-words : goal.returns-clause-words
returns-clause-words c =
    let names = c.args.names.now in
    let places = c.args.places.now in
    let dims = c.dims-dims.ensures ∙ ap (dims_of names) c.index-k.ensures in
    let far = c.offset.ensures.offset ∙ ap (offset_of c.dims-dims.result.now) c.as_slice.ensures.items ∙ ap (λ ds. offset_of ds c.args.item.now.subs) dims in
    let first = c.place_at-first.ensures.place ∙ ap (λ (j : ℕ). get_or places j 0) c.index-k.ensures in
    words-element names places c.requires.places.as_many c.args.item.now c.place_at-first.result c.offset.result (λ none. true≢false (sym (c.is_empty.ensures.1 none) ∙ c.if-is_empty.false)) first far

pub returns-clause-kinds : goal.returns-clause-kinds
returns-clause-kinds c =
    let names = c.args.names.now in
    let kind = c.kind-kind.ensures ∙ ap (kind_of names) c.index-k.ensures in
    kinds-item names c.args.places.now c.requires.places.as_many c.args.item.now (c.place_at-first.result + c.offset.result) 1 c.kind-kind.result kind (returns-clause-words c)
