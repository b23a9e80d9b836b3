use Rattle.std.proofs.Common.{◌<◌, List, length, refl, sym, subst, arith}
use Rattle.std.proofs.lemmas.Option.{get_or_from_slice_get, slice_get_read}
use Rattle.f77_tree.specs.declared.statements.Labelled.{Labelled}
use Rattle.entity_names.specs.UnitEntities.{AreNamesOf}
use Rattle.entity_names.proofs.PutLists.{used-more}
use Rattle.entity_names.proofs.used_names.used_names.Goals as goal

pub loop-k-preserved : goal.loop-k-preserved
loop-k-preserved c =
    let us = c.args.us.now in
    let k = c.loop-k.k in
    let table = c.args.kept.now in
    let kept = c.index-kept-k.result in
    let u = c.at.result.now in
    let count = c.requires.count in
    let inside : k < length us = omega arith in
    let there = slice_get_read table (length table) k kept refl (omega (arith, count, inside)) c.index-kept-k.is in
    let are = subst (λ (v : List Labelled). AreNamesOf v kept) (sym c.at.ensures.statements) (c.requires.each k kept there) in
    used-more us k u kept c.loop-k.used c.note_used.new.used inside (sym (get_or_from_slice_get us k u u c.at.ensures.unit)) are c.loop-k.invariant c.in_ok-note_used.ensures
