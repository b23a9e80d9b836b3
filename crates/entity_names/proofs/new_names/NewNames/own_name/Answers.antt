use Rattle.std.proofs.Common.{◌≡◌, ◌<◌, List, Some, length, refl, sym, ap, ◌∙◌, arith}
use Rattle.std.specs.Prelude.{slice_get}
use Rattle.std.specs.List.{list_any}
use Rattle.std.proofs.lemmas.Option.{slice_get_read}
use Rattle.program_units.specs.declared.entity.Entity.{Entity}
use Rattle.program_units.specs.Names.{same_entity, y_name}
use Rattle.entity_names.proofs.KeptNames.{own-found}
use Rattle.entity_names.proofs.Results.{if-ok}
use Rattle.entity_names.proofs.new_names.NewNames.own_name.Goals as goal

pub place-i-requires : goal.place-i-requires
place-i-requires c = ap (λ (own : List Entity). list_any (same_entity c.args.entity.now) own) c.args.self.now.text.now.all_own ∙ c.requires

pub index-requires : goal.index-requires
index-requires c =
    let new = c.args.self.now in
    let inside = c.place-i.ensures.inside in
    let many = new.as_many in
    let same = ap length new.text.now.all_own in
    omega (arith, inside, many, same, new.names.ok.0)

pub returns : goal.returns
returns c =
    let new = c.args.self.now in
    let us = new.text.now.us.now in
    let e = c.args.entity.now in
    let i = c.place-i.result in
    let here = c.index.result.now in
    let inside = c.place-i.ensures.inside in
    let many = new.as_many in
    let same = ap length new.text.now.all_own in
    let below : i < length new.names.items = omega (arith, inside, many, same) in
    let there : slice_get new.names.items i ≡ Some here = slice_get_read new.names.items (length new.names.items) i here refl below c.index.ensures in
    if-ok (λ name. name ≡ here) (λ name. name ≡ y_name us e) c.copy.result
    (λ name is. own-found us e new.names.items new.text.now.own i name new.all_named new.text.now.all_own c.place-i.ensures.is (there ∙ ap Some (sym is)))
    c.copy.ensures
