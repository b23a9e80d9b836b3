use Rattle.std.proofs.Common.{◌≡◌, ◌<◌, ◌≤ℤ◌, pos, List, length, ap, sym, subst, ◌∙◌, arith}
use Rattle.std.specs.Prelude.{slice_get, Some}
use Rattle.std.proofs.lemmas.Int.{ints}
use Rattle.std.proofs.lemmas.Option.{slice_get-get_or}
use Rattle.f77_tree.specs.declared.programs.NameInfo.{NameInfo}
use Rattle.f77_tree.specs.Places.{end_of}
use Rattle.alias_classes.proofs.SpanLemmas.{span-end, spans-push}
use Rattle.alias_classes.proofs.spans.name_spans.Goals as goal

pub overflow_add-info : goal.overflow_add-info
overflow_add-info c =
    let names = c.args.names.now in
    let info = c.info-item.result in
    let k = c.loop-info.info-index in
    let at : slice_get names k ≡ Some info = subst (λ (xs : List NameInfo). slice_get xs k ≡ Some info) c.as_slice-info-items.ensures.items (slice_get-get_or c.as_slice-info-items.result.now k info c.loop-info-test.true ∙ ap Some (sym c.info-item.is)) in
    let end = span-end names k info c.size.result at c.size.ensures in
    let known : k < length names = subst (λ (xs : List NameInfo). k < length xs) c.as_slice-info-items.ensures.items c.loop-info-test.true in
    let most : end_of names k ≤ℤ pos 262144 = c.requires.inside k known in
    omega (arith, ints, end, most)

pub loop-info-preserved : goal.loop-info-preserved
loop-info-preserved c =
    let names = c.args.names.now in
    let info = c.info-item.result in
    let k = c.loop-info.info-index in
    let at : slice_get names k ≡ Some info = subst (λ (xs : List NameInfo). slice_get xs k ≡ Some info) c.as_slice-info-items.ensures.items (slice_get-get_or c.as_slice-info-items.result.now k info c.loop-info-test.true ∙ ap Some (sym c.info-item.is)) in
    rw (c.in_ok-push.ensures.items, c.in_ok-push-2.ensures.items) (spans-push names k c.loop-info.begins.items c.loop-info.ends.items info c.size.result c.loop-info.invariant at c.size.ensures)
