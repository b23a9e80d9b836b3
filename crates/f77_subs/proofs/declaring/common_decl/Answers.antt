use Rattle.std.proofs.Common.{ap, ◌∙◌}
use Rattle.program_units.specs.declared.entity.Entity.TheVariants.{InBlock}
use Rattle.program_units.specs.NamedEntities.{has_name}
use Rattle.f77_subs.proofs.declaring.common_decl.Goals as goal

pub name_for-requires : goal.name_for-requires
name_for-requires c =
    let new = c.args.put.now.new.now in
    ap (λ block. has_name new.text.now.us.now (InBlock block c.args.place)) c.in_ok-copy_of_block.ensures ∙ new.named.places c.args.block.now c.args.place c.requires.put c.requires.inside
