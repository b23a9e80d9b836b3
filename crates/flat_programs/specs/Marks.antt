-- The marks of a flat program and the DOs whose ranges end at them.
use Rattle.std.specs.Prelude.{ℕ, ◌+◌, ◌-◌, Bool, true, false, ◌==◌, nat_lt, List, length, take, filter, count_by, Option, Some, None, slice_get, slice_index}
use Rattle.std.specs.List.{range_with_len, position_or_len}
use Rattle.flat_programs.specs.declared.statements.Flat.{Flat}
use Rattle.flat_programs.specs.declared.statements.Flat.TheVariants.{Mark, DoLoop}
use Rattle.flat_programs.specs.declared.statements.FlatLine.{FlatLine}

-- ---- marks

abbrev pub is_mark : Flat → Bool
is_mark Mark = true
is_mark _ = false

abbrev pub is_mark_in : Option FlatLine → Bool
is_mark_in None = false
is_mark_in (Some l) = is_mark l.stmt

-- the number of the mark at this place
abbrev pub mark_at : List FlatLine → (place : ℕ) → ℕ
mark_at flat place = count_by (λ l. is_mark l.stmt) (take place flat) + 1

-- how many marks there are
abbrev pub mark_count : List FlatLine → ℕ
mark_count flat = count_by (λ l. is_mark l.stmt) flat

-- the places of the marks, in order
abbrev pub mark_places : List FlatLine → List ℕ
mark_places flat = filter (λ place. is_mark_in (slice_get flat place)) (range_with_len 0 (length flat))

-- the place of the mark with this number
abbrev pub place_of : List FlatLine → (number : ℕ) → ℕ
place_of flat number = slice_index (mark_places flat) (number - 1)

-- ---- DOs

abbrev pub is_loop : Flat → Bool
is_loop (DoLoop end var first last step) = true
is_loop _ = false

-- the DOs are numbered from 0 in the order of the text: the number of the DO at this place
abbrev pub loop_at : List FlatLine → (place : ℕ) → ℕ
loop_at flat place = count_by (λ l. is_loop l.stmt) (take place flat)

abbrev pub loop_count : List FlatLine → ℕ
loop_count flat = count_by (λ l. is_loop l.stmt) flat

-- whether the range of a DO ends at the mark with this number
abbrev pub ends_at : (number : ℕ) → Flat → Bool
ends_at number (DoLoop end var first last step) = end == number
ends_at number _ = false

-- the place of the DO whose range ends at the mark with this number, or the length where there is none
abbrev pub loop_to : List FlatLine → (number : ℕ) → ℕ
loop_to flat number = position_or_len (λ l. ends_at number l.stmt) flat

abbrev pub is_end : List FlatLine → (number : ℕ) → Bool
is_end flat number = nat_lt (loop_to flat number) (length flat)

abbrev pub variable_in : Option FlatLine → ℕ
variable_in None = 0
variable_in (Some l) = by l.stmt
  where
    by : Flat → ℕ
    by (DoLoop end var first last step) = var
    by _ = 0
