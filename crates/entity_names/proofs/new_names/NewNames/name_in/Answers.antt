use Rattle.std.proofs.Common.{◌≡◌, ap, ◌∙◌}
use Rattle.program_units.specs.Entities.{entity_of}
use Rattle.program_units.specs.NamedEntities.{has_name}
use Rattle.program_units.specs.Names.{name_for}
use Rattle.entity_names.proofs.KeptNames.{entity-is, kept-at}
use Rattle.entity_names.proofs.Results.{if-ok}
use Rattle.entity_names.proofs.new_names.NewNames.name_in.Goals as goal

pub name_for-requires : goal.name_for-requires
name_for-requires c =
    let text = c.args.self.now.text.now in
    let us = text.us.now in
    let kept = c.index.result.now in
    let are = kept-at us text.kept.items c.args.k kept text.all_kept c.requires.unit c.index.ensures in
    ap (has_name us) (c.in_ok-entity.ensures ∙ entity-is us c.args.k kept c.args.name.now are) ∙ c.requires.named

pub returns : goal.returns
returns c =
    let text = c.args.self.now.text.now in
    let us = text.us.now in
    let k = c.args.k in
    let x = c.args.name.now in
    let kept = c.index.result.now in
    let are = kept-at us text.kept.items k kept text.all_kept c.requires.unit c.index.ensures in
    if-ok (λ name. name ≡ name_for us c.in_ok-entity.entity) (λ name. name ≡ name_for us (entity_of us k x)) c.name_for.result
    (λ name is. is ∙ ap (name_for us) (c.in_ok-entity.ensures ∙ entity-is us k kept x are))
    c.name_for.ensures
