use Rattle.std.proofs.Common.{◌≡◌, Some, sym, ap, ◌∙◌, arith}
use Rattle.std.specs.Option.{is_some}
use Rattle.indexmap.specs.IndexMap.{get}
use Rattle.program_units.specs.declared.entity.Entity.{Entity}
use Rattle.program_units.specs.declared.entity.Entity.TheVariants.{InBlock}
use Rattle.program_units.specs.Expansion.{declared_in}
use Rattle.program_units.specs.NamedEntities.{is_declared}
use Rattle.program_units.specs.Names.{same_entity}
use Rattle.program_units.specs.Merged.{first_with_block}
use Rattle.entity_names.proofs.FirstBlocks.{first-inside, name-kept, name-there, none-inside, table-inside}
use Rattle.entity_names.proofs.NamedEntities.{local-inside}
use Rattle.f77_subs.proofs.declaring.declared_in.Goals as goal

pub index-requires : goal.index-requires
index-requires c =
    let put = c.args.put.now in
    let us = put.new.now.text.now.us.now in
    let block = c.in-InBlock.block in
    let k = c.in-Some.k.now in
    let first : first_with_block us block ≡ Some k = sym (put.first_units block) ∙ sym c.in-Some.ensures.value in
    let kept = put.new.now.text.now.kept in
    let inside = table-inside us kept.items put.new.now.text.now.all_kept block k first in
    omega (arith, inside, kept.ok.0)

pub copy_found-requires : goal.copy_found-requires
copy_found-requires c =
    let put = c.args.put.now in
    let us = put.new.now.text.now.us.now in
    let block = c.in-InBlock.block in
    let k = c.in-Some.k.now in
    let first : first_with_block us block ≡ Some k = sym (put.first_units block) ∙ sym c.in-Some.ensures.value in
    ap is_some (c.name_at.ensures ∙ ap (λ (e : Entity). get same_entity c.index.result.now.blocks.names e) c.in-InBlock.is)
    ∙ name-there us put.new.now.text.now.kept.items put.new.now.text.now.all_kept block c.in-InBlock.field-1 k c.index.result.now first c.index.ensures (sym (ap (is_declared us) c.in-InBlock.is) ∙ c.requires)

pub unreachable-requires : goal.unreachable-requires
unreachable-requires c =
    let put = c.args.put.now in
    let us = put.new.now.text.now.us.now in
    let block = c.in-InBlock.block in
    none-inside us block c.in-InBlock.field-1 (sym (ap (is_declared us) c.in-InBlock.is) ∙ c.requires) (sym (put.first_units block) ∙ sym c.in-None.ensures.value)

pub returns-in_ok-copy-in-Local-clause-inside : goal.returns-in_ok-copy-in-Local-clause-inside
returns-in_ok-copy-in-Local-clause-inside c = local-inside c.args.put.now.new.now.text.now.us.now c.args.entity.now c.requires c.in-Local.k c.in-Local.name c.in-Local.is

pub returns-in_ok-name-in-Some-clause-inside : goal.returns-in_ok-name-in-Some-clause-inside
returns-in_ok-name-in-Some-clause-inside c =
    let put = c.args.put.now in
    let us = put.new.now.text.now.us.now in
    let block = c.in-InBlock.block in
    let k = c.in-Some.k.now in
    let first : first_with_block us block ≡ Some k = sym (put.first_units block) ∙ sym c.in-Some.ensures.value in
    first-inside us block k first

pub returns-in_ok-name-in-Some-clause-same : goal.returns-in_ok-name-in-Some-clause-same
returns-in_ok-name-in-Some-clause-same c =
    let put = c.args.put.now in
    let us = put.new.now.text.now.us.now in
    let block = c.in-InBlock.block in
    let place = c.in-InBlock.field-1 in
    let k = c.in-Some.k.now in
    let kept = c.index.result.now in
    let name = c.in_ok-name-in-Some.name in
    let first : first_with_block us block ≡ Some k = sym (put.first_units block) ∙ sym c.in-Some.ensures.value in
    let found : get same_entity kept.blocks.names (InBlock block place) ≡ Some name = ap (λ (e : Entity). get same_entity kept.blocks.names e) (sym c.in-InBlock.is) ∙ sym c.name_at.ensures ∙ c.in_ok-name-in-Some.ensures in
    name-kept us put.new.now.text.now.kept.items put.new.now.text.now.all_kept block place k kept name first c.index.ensures found ∙ ap (declared_in us) (sym c.in-InBlock.is)
