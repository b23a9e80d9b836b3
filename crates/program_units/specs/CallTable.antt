-- A unit by what its copy has: so many statements of its own, and the copies of the units that it calls.
use Rattle.std.specs.Prelude.{◌≡◌, ℕ, zero, suc, ◌+◌, min, Bool, if◌then◌else◌, nat_lt, List, [], ◌∷◌, map, flat_map, length, sum_by, get_or, Option, Some, None}
use Rattle.std.specs.List.{range_with_len}
use Rattle.f77_tree.specs.declared.statements.Labelled.{Labelled}
use Rattle.f77_tree.specs.declared.statements.RawExpr.{RawExpr}
use Rattle.f77_tree.specs.declared.statements.Stmt.{Stmt}
use Rattle.program_units.specs.Units.{Call, call_in, guard_of, unit_at, unit_of}
use Rattle.program_units.specs.Widths.{is_kept, lines_around}

-- ---- units by the names of their subroutines

abbrev pub if_below : ℕ → ℕ → Option ℕ
if_below k n = if nat_lt k n then Some k else None

abbrev pub unit_named : List (List Labelled) → List ℕ → Option ℕ
unit_named us name = if_below (unit_of us name) (length us)

abbrev pub unit_if : Bool → ℕ → Option ℕ
unit_if here k = if here then Some k else None

-- ---- the table

pub record CallRow : Type 0 where
  -- statements that stand in the copy, without those of other copies, or the limit where they are more
  pub own : ℕ
  -- the units that it calls, once for each CALL
  pub callees : List ℕ

abbrev pub own_by : Option RawExpr → Option Call → ℕ
own_by guard None = 1
own_by guard (Some call) = lines_around guard

abbrev pub own_lines : (guarded called : Bool) → ℕ
own_lines guarded called = if called then (if guarded then 4 else 2) else 1

abbrev pub own_width : (k : ℕ) → Stmt → ℕ
own_width k s = if is_kept k s then own_by (guard_of s) (call_in s) else 0

abbrev pub callee_of : List (List Labelled) → Option Call → List ℕ
callee_of us None = []
callee_of us (Some call) = unit_of us call.name ∷ []

abbrev pub callees : List (List Labelled) → List Labelled → List ℕ
callees us stmts = flat_map (λ s. callee_of us (call_in s.stmt)) stmts

abbrev pub call_row : (limit : ℕ) → List (List Labelled) → (k : ℕ) → CallRow
call_row limit us k = record { own = min (sum_by (λ s. own_width k s.stmt) (unit_at us k)) limit; callees = callees us (unit_at us k) }

abbrev pub call_rows : (limit : ℕ) → List (List Labelled) → List CallRow
call_rows limit us = map (call_row limit us) (range_with_len 0 (length us))

-- ---- widths, round by round, each at most the limit

abbrev pub row_width : (limit : ℕ) → (widths : List ℕ) → CallRow → ℕ
row_width limit widths row = min (row.own + sum_by (λ g. get_or widths g 0) row.callees) limit

-- after so many rounds, from these
abbrev pub widths_from : (limit : ℕ) → List CallRow → (start : List ℕ) → (rounds : ℕ) → List ℕ
widths_from limit rows start zero = start
widths_from limit rows start (suc rounds) = map (row_width limit (widths_from limit rows start rounds)) rows

-- widths after so many rounds, whatever they were before
pub record AreAfter (limit : ℕ) (rows : List CallRow) (rounds : ℕ) (widths : List ℕ) : Type 0 where
  pub start : List ℕ
  pub is : widths ≡ widths_from limit rows start rounds

-- after one round more than there are rows
abbrev pub AreSettled : (limit : ℕ) → List CallRow → (widths : List ℕ) → Type 0
AreSettled limit rows widths = AreAfter limit rows (suc (length rows)) widths
