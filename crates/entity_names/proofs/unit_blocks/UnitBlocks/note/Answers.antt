use Rattle.std.proofs.Common.{◌+◌, ◌^◌, ◌<◌, ℕ, List, Option, Some, if◌then◌else◌, subst, ap, ◌∙◌, arith}
use Rattle.indexmap.specs.IndexMap.{get}
use Rattle.f77_tree.specs.Places.{same_block}
use Rattle.program_units.specs.declared.entity.Entity.TheVariants.{InBlock}
use Rattle.program_units.specs.Names.{same_entity}
use Rattle.entity_names.proofs.CommonPlaces.{kept-more, none-there, place-small}
use Rattle.entity_names.proofs.unit_blocks.UnitBlocks.note.Goals as goal

pub overflow_add-place : goal.overflow_add-place
overflow_add-place c = let small = place-small c.args.self.now c.args.block.now c.requires (subst (λ n. n < 2 ^ 63) c.len-kept.ensures.len c.len-kept.ensures.small) in let place = c.size-place.ensures in omega (arith, small, place)

pub returns : goal.returns
returns c = λ common are.
    let old = c.args.self.now in
    let n = c.size-place.result in
    let name = c.args.name.now in
    let block = c.args.block.now in
    kept-more common old _ (record { block = block; name = name }) n are c.size-place.ensures
    (c.in_ok-note_name.ensures.more (ap (λ (key : Option (List ℕ)). get same_entity old.names (InBlock key n)) c.in_ok-copy_of_block-2.ensures ∙ none-there common old block n are c.size-place.ensures))
    (λ b. c.in_ok-note_number.ensures b ∙ ap (λ (key : Option (List ℕ)). if same_block key b then Some (n + 1) else get same_block old.sizes b) c.in_ok-copy_of_block.ensures)
    (λ e.
    c.in_ok-note_name.ensures.sets e
    ∙ ap (λ (key : Option (List ℕ)). if same_entity (InBlock key n) e then Some c.in_ok-copy.field-0 else get same_entity old.names e) c.in_ok-copy_of_block-2.ensures
    ∙ ap (λ (x : List ℕ). if same_entity (InBlock block n) e then Some x else get same_entity old.names e) c.in_ok-copy.ensures)
    c.in_ok-note_entity.ensures
