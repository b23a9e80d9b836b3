use Rattle.std.proofs.Common.{◌≡◌, Some, ap, ◌∙◌, arith}
use Rattle.std.specs.Prelude.{option_copied}
use Rattle.std.specs.Option.{is_some}
use Rattle.program_units.specs.Names.{main_name}
use Rattle.entity_names.proofs.KeptNames.{kept-at, main-found, main-some, main-there}
use Rattle.entity_names.proofs.Results.{if-ok}
use Rattle.entity_names.proofs.new_names.NewNames.main_name.Goals as goal

pub index-requires : goal.index-requires
index-requires c =
    let text = c.args.self.now.text.now in
    let some = main-some text.us.now c.args.entity.now c.in-InBlock.field-0 c.in-InBlock.field-1 c.in-InBlock.is c.requires in
    let count = text.all_kept.count in
    omega (arith, some, count, text.kept.ok.0)

pub copy_found-requires : goal.copy_found-requires
copy_found-requires c =
    let text = c.args.self.now.text.now in
    let us = text.us.now in
    let kept = c.index.result.now in
    let some = main-some us c.args.entity.now c.in-InBlock.field-0 c.in-InBlock.field-1 c.in-InBlock.is c.requires in
    let are = kept-at us text.kept.items 0 kept text.all_kept some c.index.ensures in
    ap is_some c.name_at.ensures ∙ main-there us kept c.args.entity.now c.in-InBlock.field-0 c.in-InBlock.field-1 are c.in-InBlock.is c.requires

pub returns-in-InBlock : goal.returns-in-InBlock
returns-in-InBlock c =
    let text = c.args.self.now.text.now in
    let us = text.us.now in
    let kept = c.index.result.now in
    let some = main-some us c.args.entity.now c.in-InBlock.field-0 c.in-InBlock.field-1 c.in-InBlock.is c.requires in
    let are = kept-at us text.kept.items 0 kept text.all_kept some c.index.ensures in
    if-ok (λ name. option_copied c.name_at.result ≡ Some name) (λ name. name ≡ main_name us c.args.entity.now) c.copy_found.result
    (λ name found. main-found us kept c.args.entity.now c.in-InBlock.field-0 c.in-InBlock.field-1 (option_copied c.name_at.result) name are c.in-InBlock.is c.name_at.ensures found)
    c.copy_found.ensures
