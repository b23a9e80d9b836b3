-- Where the statements of items stand in the simplified form.
use Rattle.std.specs.Prelude.{◌≡◌, ◌+◌, ◌<◌, ℕ, Bool, true, length, flat_map, slice_get}
use Rattle.std.specs.List.{range_with_len}
use Rattle.f77_tree.specs.declared.programs.Program.{Program}
use Rattle.alias_classes.specs.Classes.{ClassTable}
use Rattle.const_prop.specs.Table.{Knowns}
use Rattle.flat_programs.specs.Marks.{place_of}
use Rattle.simplified_forms.specs.Simplified.{flat, has_mark, lines, mark_of}

-- the place of the first statement of an item; of another executable, the place at which the statements of the next item begin
abbrev pub begins_at : Program → ClassTable → Knowns → (checked : Bool) → (is_item : ℕ → Bool) → (k : ℕ) → ℕ
begins_at p c t checked is_item k = length (flat_map (lines p c t checked is_item) (range_with_len 0 k))

-- The mark of an item is its first statement.
abbrev pub MarksStandAtItems : Type 0
MarksStandAtItems = (p : Program) (c : ClassTable) (t : Knowns) (checked : Bool) (is_item : ℕ → Bool) (k : ℕ)
    → k < length p.execs → has_mark p t is_item k ≡ true → place_of (flat p c t checked is_item) (mark_of p t is_item k) ≡ begins_at p c t checked is_item k

-- The statements of an item follow one another, and those of the next executable follow them.
pub record StandInOrder (p : Program) (c : ClassTable) (t : Knowns) (checked : Bool) (is_item : ℕ → Bool) (k : ℕ) : Type 0 where
  pub each : (i : ℕ) → i < length (lines p c t checked is_item k) → slice_get (flat p c t checked is_item) (begins_at p c t checked is_item k + i) ≡ slice_get (lines p c t checked is_item k) i
  pub next : begins_at p c t checked is_item (k + 1) ≡ begins_at p c t checked is_item k + length (lines p c t checked is_item k)

abbrev pub StatementsStandInOrder : Type 0
StatementsStandInOrder = (p : Program) (c : ClassTable) (t : Knowns) (checked : Bool) (is_item : ℕ → Bool) (k : ℕ) → k < length p.execs → StandInOrder p c t checked is_item k
