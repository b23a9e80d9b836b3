-- When the tables of a unit are right.
use Rattle.std.specs.Prelude.{◌≡◌, ℕ, suc, ◌+◌, ◌<◌, ◌==◌, true, not, nat_eq, List, flat_map, take, length, min, Contains, Option, Some, None, bytes_eq, slice_get}
use Rattle.std.specs.List.{list_all}
use Rattle.indexmap.specs.IndexMap.{get}
use Rattle.f77_tree.specs.declared.statements.Labelled.{Labelled}
use Rattle.layout_rules.specs.Declarations.{is_array}
use Rattle.declared_names.specs.Described.{is_array_told}
use Rattle.declared_names.specs.KeptDeclarations.{said_by}
use Rattle.layout_rules.specs.Labels.{statement_of}
use Rattle.inlined_copies.specs.declared.unit_table.UnitTable.{UnitTable}
use Rattle.program_units.specs.Units.{Call, call_in, unit_at, unit_of, passes}
use Rattle.program_units.specs.Names.{appearing_here}
use Rattle.program_units.specs.Widths.{body_labels}
use Rattle.program_units.specs.Copies.{call_at}
use Rattle.inlined_copies.specs.Changes.{first_or, last_or}
use Rattle.inlined_copies.specs.LabelCounts.{AreCounted, count_at, labels_of}
use Rattle.program_units.specs.NewNames.{new_name}

-- the names in statements, from left to right
abbrev pub appearing_in : List Labelled → List Labelled → List (List ℕ)
appearing_in u stmts = flat_map (λ s. appearing_here (is_array u) s.stmt) stmts

-- how many labels more stand at the end of a copy, if the statement is a CALL
abbrev pub labels_behind : List (List Labelled) → (counts : List ℕ) → Option Call → ℕ
labels_behind us counts None = 0
labels_behind us counts (Some call) = count_at counts (unit_of us call.name) + 1

-- the tables of the unit k
pub record IsTableOf (us : List (List Labelled)) (limit : ℕ) (counts : List ℕ) (k : ℕ) (table : UnitTable) : Type 0 where
  pub copied : table.copied ≡ not (k == 0)
  pub arrays : (x : List ℕ) → is_array_told (said_by table.declared) x ≡ is_array (unit_at us k) x
  pub main : k ≡ 0 → (x : List ℕ) → get bytes_eq table.names x ≡ None
  pub names : 0 < k → (x : List ℕ) → Contains (appearing_in (unit_at us k) (unit_at us k)) x → get bytes_eq table.names x ≡ Some (new_name us k x)
  pub firsts : (l : ℕ) → first_or table.behind (get nat_eq table.labels l) ≡ min (labels_of us counts k (take (statement_of (unit_at us k) l) (unit_at us k))) limit + 1
  pub lasts : (l : ℕ) → last_or table.behind (get nat_eq table.labels l) ≡ min (labels_of us counts k (take (statement_of (unit_at us k) l) (unit_at us k))) limit + 1 + labels_behind us counts (call_at (slice_get (unit_at us k) (statement_of (unit_at us k) l)))
  pub behind : table.behind ≡ min (labels_of us counts k (unit_at us k)) limit + 1

-- tables of all units by which copies can be put, where no label is above the limit
pub record MakeCopies (us : List (List Labelled)) (limit : ℕ) (counts : List ℕ) (tables : List UnitTable) : Type 0 where
  pub as_many : length tables ≡ length us
  pub right : (k : ℕ) (table : UnitTable) → slice_get tables k ≡ Some table → IsTableOf us limit counts k table
  pub counted : AreCounted us limit counts
  pub exact : (k : ℕ) → count_at counts k ≡ min (body_labels us (suc (length us)) k) limit
  -- the main program is no subroutine
  pub subs : (name : List ℕ) → 0 < unit_of us name
  pub fit : (k : ℕ) → list_all (λ s. passes us (call_in s.stmt)) (unit_at us k) ≡ true
