use Rattle.f77_tree.specs.Places.{same_block}
use Rattle.std.proofs.Common.{ℕ, List, Option}
use Rattle.unit_checks.specs.BlockTables.{owner_in}
use Rattle.program_units.proofs.NamedUnits.{note-more}
use Rattle.unit_checks.proofs.block_owners.BlockOwners.note_all.Goals as goal

pub loop-block-preserved : goal.loop-block-preserved
loop-block-preserved c = λ other.
    note-more (λ (b : Option (List ℕ)). same_block b other) c.args.blocks.now c.loop-block.block-index c.args.k c.block-item.result (owner_in c.args.self.now other) (owner_in c.loop-block.self other) (owner_in c.note.new.self other)
    c.loop-block-test.true c.block-item.is (c.loop-block.invariant other) (c.in_ok-note.ensures other)
