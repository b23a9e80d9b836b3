use Rattle.std.proofs.Common.{ℕ, List, Option, Some, if◌then◌else◌, sym, ap, ◌∙◌}
use Rattle.indexmap.specs.IndexMap.{get}
use Rattle.f77_tree.specs.Places.{same_block}
use Rattle.unit_laws.proofs.ManyBlocks.{keep-first, note-first}
use Rattle.f77_subs.proofs.merged_blocks.note_block.Goals as goal

pub returns-then-has_block_in : goal.returns-then-has_block_in
returns-then-has_block_in c = λ other.
    keep-first c.args.block.now other c.args.k (get same_block c.args.firsts.now) (sym c.has_block_in.ensures ∙ c.if-has_block_in.true)

pub returns : goal.returns
returns c = λ other.
    let old = c.args.firsts.now in
    note-first c.args.block.now other c.args.k (get same_block old) (get same_block c.note_number.new.numbers) (sym c.has_block_in.ensures ∙ c.if-has_block_in.false)
    (c.in_ok-note_number.ensures other ∙ ap (λ (key : Option (List ℕ)). if same_block key other then Some c.args.k else get same_block old other) c.in_ok-copy_of_block.ensures)
