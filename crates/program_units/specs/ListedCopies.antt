-- Where copies stand in a list of statements.
use Rattle.std.specs.Prelude.{◌≡◌, ℕ, ◌+◌, ◌-◌, Bool, true, false, not, nat_lt, if◌then◌else◌, List, [], ◌∷◌, ◌++◌, map, length, take, drop, sum_by, Option, Some, None, slice_get}
use Rattle.std.specs.List.{list_all}
use Rattle.f77_tree.specs.declared.statements.Labelled.{Labelled}
use Rattle.f77_tree.specs.declared.statements.RawExpr.{RawExpr}
use Rattle.f77_tree.specs.declared.statements.Stmt.TheVariants.{Continue, EndIf, End}
use Rattle.layout_rules.specs.Labels.{is_executable}
use Rattle.program_units.specs.Units.{Call, unit_at, unit_of}
use Rattle.program_units.specs.Entities.{stands_for}
use Rattle.program_units.specs.Widths.{is_kept, width, body_width}
use Rattle.program_units.specs.Copies.{Context, bare, number_at, piece, copy}
use Rattle.program_units.specs.Expansion.{declared_first, merged}

-- the list has these items from this place on
pub record HasAt {A : Type 0} (items : List A) (place : ℕ) (part : List A) : Type 0 where
  pub is : drop place items ≡ part ++ drop (place + length part) items

-- the statements from one place up to another, all declarations
pub record AreDeclared (list : List Labelled) (from to : ℕ) : Type 0 where
  pub between : List Labelled
  pub stand : HasAt list from between
  pub behind : to ≡ from + length between
  pub declared : list_all (λ s. not (is_executable s.stmt)) between ≡ true

-- ---- contexts

-- what stands for a statement of the context's unit
abbrev pub piece_at : List (List Labelled) → Context → (place : ℕ) → Labelled → List Labelled
piece_at us c place s = piece (copy us c.depth) us c (number_at us c.depth c.unit c.base place) s

-- how many statements stand for those before a place of the unit
abbrev pub width_before : List (List Labelled) → (depth k place : ℕ) → ℕ
width_before us depth k place = sum_by (width (body_width us depth) us k) (take place (unit_at us k))

-- the context of what the CALL at this place calls
abbrev pub called_context : List (List Labelled) → Context → (place : ℕ) → Call → Context
called_context us c place call = record { depth = c.depth - 1; unit = unit_of us call.name; arguments = map (stands_for us c.unit c.arguments) call.arguments; base = number_at us c.depth c.unit c.base place }

-- what stands before the copy, of what stands for a CALL
abbrev pub lines_before : Option RawExpr → ℕ
lines_before None = 1
lines_before (Some condition) = 2

-- what stands behind the copy, up to its second label
abbrev pub closing : (guarded : Bool) → (b line : ℕ) → List Labelled
closing guarded b line = if guarded then bare 0 line EndIf ∷ bare b line Continue ∷ [] else bare b line Continue ∷ []

pub record IsClosedAt (list : List Labelled) (place b : ℕ) : Type 0 where
  pub guarded : Bool
  pub line : ℕ
  pub stand : HasAt list place (closing guarded b line)

-- The context stands in the list: what stands for each statement of its unit begins where `at` tells, and nothing but
-- declarations stands between. Where END has no copy nothing does, and the copy's end stands in its place.
pub record StandsIn (us : List (List Labelled)) (list : List Labelled) (c : Context) (at : ℕ → ℕ) : Type 0 where
  pub pieces : (place : ℕ) (s : Labelled) → slice_get (unit_at us c.unit) place ≡ Some s → HasAt list (at place) (piece_at us c place s)
  pub next : (place : ℕ) (s : Labelled) → slice_get (unit_at us c.unit) place ≡ Some s → AreDeclared list (at place + length (piece_at us c place s)) (at (place + 1))
  pub tight : is_kept c.unit End ≡ false → (place : ℕ) (s : Labelled) → slice_get (unit_at us c.unit) place ≡ Some s → at (place + 1) ≡ at place + length (piece_at us c place s)
  pub closed : is_kept c.unit End ≡ false → IsClosedAt list (at (length (unit_at us c.unit))) (number_at us c.depth c.unit c.base (length (unit_at us c.unit)))

-- ---- places

-- of a copy that begins at this place
abbrev pub copied_place : List (List Labelled) → Context → (begin place : ℕ) → ℕ
copied_place us c begin place = begin + width_before us c.depth c.unit place

-- of the main program in the whole list
abbrev pub main_place : List (List Labelled) → (place : ℕ) → ℕ
main_place us place = width_before us (length us) 0 place + (if nat_lt place (declared_first (unit_at us 0)) then 0 else length (merged us))
