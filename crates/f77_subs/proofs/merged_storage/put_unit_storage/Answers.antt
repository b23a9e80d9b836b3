use Rattle.std.proofs.Common.{◌≡◌, List, Some, length, refl, sym, ap, ◌∙◌}
use Rattle.std.specs.Prelude.{slice_get}
use Rattle.std.proofs.lemmas.Option.{slice_get_read}
use Rattle.f77_tree.specs.declared.statements.Labelled.{Labelled}
use Rattle.f77_subs.specs.MergedStorage.{stored}
use Rattle.entity_names.proofs.PutLists.{flat-more}
use Rattle.f77_subs.proofs.merged_storage.put_unit_storage.Goals as goal

pub put_stored-requires-clause-named : goal.put_stored-requires-clause-named
put_stored-requires-clause-named c =
    let unit = c.at-unit.result.now in
    let at : slice_get unit c.loop-s.s-index ≡ Some c.s-item.result = slice_get_read unit (length unit) c.loop-s.s-index c.s-item.result refl c.loop-s-test.true c.s-item.is in
    c.args.new.now.named.stored c.args.k c.loop-s.s-index c.s-item.result c.requires.sub c.requires.unit (ap (λ (u : List Labelled). slice_get u c.loop-s.s-index) (sym c.at-unit.ensures.statements) ∙ at)

pub loop-s-preserved : goal.loop-s-preserved
loop-s-preserved c =
    flat-more (stored c.args.kind c.args.new.now.text.now.us.now c.args.k) c.at-unit.result.now c.loop-s.s-index c.s-item.result c.args.out.now.items c.loop-s.out.items c.put_stored.new.out.items c.loop-s-test.true c.s-item.is c.loop-s.invariant c.in_ok-put_stored.ensures
