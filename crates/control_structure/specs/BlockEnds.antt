-- Where arms and blocks end, from the last statement to the first.
use Rattle.std.specs.Prelude.{◌≡◌, ℕ, ◌+◌, ◌-◌, ◌<◌, Bool, true, false, ◌&&◌, ◌||◌, if◌then◌else◌, ◌==◌, List, length, drop, slice_index_or}
use Rattle.f77_tree.specs.declared.statements.Labelled.{Labelled}
use Rattle.control_structure.specs.declared.blocks.Blocks.{Blocks}
use Rattle.layout_rules.specs.declared.nesting.Role.{Role}
use Rattle.layout_rules.specs.Jumps.{end_after}
use Rattle.layout_rules.specs.Roles.{begins_block, ends_block, turns_arm}

-- What ends under `inner` blocks at this place or after it: where the block ends, or where `arms` is told the arm. It depends on
-- the statement's role and on what ends from the next place on.
abbrev pub end_by : (arms : Bool) → Role → (place : ℕ) → (next : ℕ → ℕ) → (inner : ℕ) → ℕ
end_by arms role place next inner =
    if begins_block role then next (inner + 1)
    else if (inner == 0) && (ends_block role || (arms && turns_arm role)) then place
    else if ends_block role then next (inner - 1)
    else next inner

-- for each place the end after it
pub record AreEnds (arms : Bool) (stmts : List Labelled) (ends : List ℕ) : Type 0 where
  pub as_many : length ends ≡ length stmts
  pub told : (place : ℕ) → place < length stmts → slice_index_or ends place 0 ≡ end_after arms 0 (drop (place + 1) stmts) (place + 1)

-- the ends of the arm and of the block whose IF, ELSE IF or ELSE stands at each place
pub record AreBlocksOf (stmts : List Labelled) (blocks : Blocks) : Type 0 where
  pub arm_ends : AreEnds true stmts blocks.arm_ends.items
  pub block_ends : AreEnds false stmts blocks.block_ends.items
