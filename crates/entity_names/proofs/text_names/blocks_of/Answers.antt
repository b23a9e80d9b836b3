use Rattle.std.proofs.Common.{ℕ, List, Option, fold, ap, ◌∙◌}
use Rattle.program_units.specs.Expansion.{with_block, blocks_in}
use Rattle.unit_laws.proofs.ManyBlocks.{blocks-told}
use Rattle.entity_names.proofs.text_names.blocks_of.Goals as goal

pub returns : goal.returns
returns c = λ block.
    let unit = c.args.unit.now in
    blocks-told block unit c.add_all.new.self (c.in_ok-add_all.ensures ∙ ap (λ (seen : List (Option (List ℕ))). fold with_block seen (blocks_in unit)) c.new-blocks.ensures)
