use Rattle.std.proofs.Common.{◌≡◌, List, take, subst, arith}
use Rattle.std.proofs.lemmas.List.{take_all}
use Rattle.f77_tree.specs.declared.declarations.CommonPart.{CommonPart}
use Rattle.unit_checks.specs.BlockTables.{AreNoted}
use Rattle.unit_checks.proofs.KeptBlocks.{kept-more, kept-none}
use Rattle.unit_checks.proofs.block_names.note_parts.Goals as goal

pub loop-part-init : goal.loop-part-init
loop-part-init c = kept-none c.args.parts.now c.args.names.now c.args.blocks.now.items c.requires.names c.requires.blocks

pub loop-part-preserved : goal.loop-part-preserved
loop-part-preserved c =
    kept-more c.args.parts.now c.loop-part.part-index c.part-item.result c.loop-part-test.true c.part-item.is c.loop-part.names c.note_part.new.names c.loop-part.blocks.items c.note_part.new.blocks.items
    c.loop-part.invariant c.in_ok-note_part.ensures.names c.in_ok-note_part.ensures.blocks

pub returns : goal.returns
returns c =
    let parts = c.args.parts.now in
    let whole : take c.loop-part.part-index parts ≡ parts = take_all c.loop-part.part-index parts (omega arith) in
    subst (λ (ps : List CommonPart). AreNoted ps c.loop-part.names c.loop-part.blocks.items) whole c.loop-part.invariant
