-- The labels of a unit in its copies, told by a table.
use Rattle.std.specs.Prelude.{◌≡◌, ℕ, ◌+◌, ◌^◌, min, nat_eq, List, length, take, slice_get}
use Rattle.indexmap.specs.IndexMap.{IndexMap, get}
use Rattle.f77_tree.specs.declared.statements.Labelled.{Labelled}
use Rattle.layout_rules.specs.Labels.{statement_of}
use Rattle.inlined_copies.specs.declared.counted_units.LabelCounts.{LabelCounts}
use Rattle.inlined_copies.specs.declared.unit_table.NewLabel.{NewLabel}
use Rattle.program_units.specs.Copies.{call_at}
use Rattle.inlined_copies.specs.Changes.{first_or, last_or}
use Rattle.inlined_copies.specs.LabelCounts.{labels_of}
use Rattle.inlined_copies.specs.UnitTables.{labels_behind}

-- the number of the first label of a statement, of which so many labels of the copy stand before it
abbrev pub number_in : List (List Labelled) → (limit : ℕ) → (counts : List ℕ) → (k : ℕ) → List Labelled → (place : ℕ) → ℕ
number_in us limit counts k stmts place = min (labels_of us counts k (take place stmts)) limit + 1

-- for each label, what stands for the first statement that has it, or else the label behind the copy
pub record AreLabelsOf {S : Type 0} (c : LabelCounts) (k : ℕ) (stmts : List Labelled) (labels : IndexMap ℕ NewLabel S) (behind : ℕ) : Type 0 where
  pub firsts : (l : ℕ) → first_or behind (get nat_eq labels l) ≡ number_in c.us.now (2 ^ 20) c.counts.now k stmts (statement_of stmts l)
  pub lasts : (l : ℕ) → last_or behind (get nat_eq labels l) ≡ number_in c.us.now (2 ^ 20) c.counts.now k stmts (statement_of stmts l) + labels_behind c.us.now c.counts.now (call_at (slice_get stmts (statement_of stmts l)))
  pub is_behind : behind ≡ number_in c.us.now (2 ^ 20) c.counts.now k stmts (length stmts)
