-- What refuses units, in order; each refusal has the lowest line that has its fault.
use Rattle.std.specs.Prelude.{◌≡◌, ℕ, ◌-◌, Result, Ok, Err, Bool, true, false, not, ◌&&◌, ◌||◌, nat_lt, if◌then◌else◌, List, [], ◌∷◌, ◌++◌, flat_map, filter, length, Option, Some, None, bytes_eq, slice_get}
use Rattle.std.specs.List.{list_any, count_by, range_with_len}
use Rattle.std.specs.Option.{is_some}
use Rattle.std.specs.Ordering.{int_eq}
use Rattle.f77_tree.specs.declared.declarations.Dim.{Dim}
use Rattle.f77_tree.specs.declared.declarations.Kind.{Kind}
use Rattle.f77_tree.specs.declared.declarations.CommonPart.{CommonPart}
use Rattle.f77_tree.specs.declared.statements.Labelled.{Labelled}
use Rattle.f77_tree.specs.declared.statements.Stmt.{Stmt}
use Rattle.f77_tree.specs.declared.statements.Stmt.TheVariants.{Common, Equivalence, Init}
use Rattle.layout_rules.specs.declared.layout_end.LayoutEnd.{LayoutEnd}
use Rattle.layout_rules.specs.Appearances.{appearing}
use Rattle.layout_rules.specs.Declarations.{kind_of, dims_of, is_array, all_commons}
use Rattle.layout_rules.specs.Faults.{first_line, first_answer, has_repeat}
use Rattle.layout_rules.specs.Layout.{refusal, line_or_none, last_line}
use Rattle.layout_rules.specs.Types.{is_kind}
use Rattle.program_units.specs.declared.sub_end.SubEnd.{SubEnd}
use Rattle.program_units.specs.declared.sub_end.SubEnd.TheVariants.{UnitOrder, Layout, SubTwice, NoSub, BadCall, BadBlock, Recursion, TooManyStatements, TooManyNames}
use Rattle.program_units.specs.Units.{Call, is_end, is_return, is_sub_of, inner, call_in, sub_name, sub_dummies, dummies_of, unit_at, unit_of, units, standing_in, reaches}
use Rattle.program_units.specs.Entities.{block_list}
use Rattle.program_units.specs.Names.{has_block, own_numbers}
use Rattle.program_units.specs.Expansion.{total_width, whole_list}

-- ---- the order of units

abbrev pub is_end_at : Option Labelled → Bool
is_end_at None = false
is_end_at (Some s) = is_end s.stmt

-- the statement before is END
abbrev pub follows_end : (above : List Labelled) → Bool
follows_end above = is_end_at (slice_get above (length above - 1))

abbrev pub differ : Bool → Bool → Bool
differ true b = not b
differ false b = b

-- SUBROUTINE stands directly after END, and no other statement does; RETURN doesn't stand in the main program
abbrev pub is_out_of_unit : (above : List Labelled) → Labelled → Bool
is_out_of_unit above s = differ (follows_end above) (is_some (sub_name s.stmt)) || (not (list_any (λ a. is_end a.stmt) above) && is_return (inner s.stmt))

-- ---- names of subroutines

abbrev pub is_one_of : Option (List ℕ) → List Labelled → Bool
is_one_of None stmts = false
is_one_of (Some name) stmts = list_any (is_sub_of name) stmts

-- a name is one of these
abbrev pub is_told : (names : List (List ℕ)) → Option (List ℕ) → Bool
is_told names None = false
is_told names (Some name) = list_any (bytes_eq name) names

abbrev pub is_sub_again : (above : List Labelled) → Labelled → Bool
is_sub_again above s = is_one_of (sub_name s.stmt) above

abbrev pub lacks_sub_of : List Labelled → Option Call → Bool
lacks_sub_of whole None = false
lacks_sub_of whole (Some call) = not (list_any (is_sub_of call.name) whole)

-- a CALL of another name than these
abbrev pub lacks_told : (names : List (List ℕ)) → Option Call → Bool
lacks_told names None = false
lacks_told names (Some call) = not (list_any (bytes_eq call.name) names)

-- these are the names of all subroutines
pub record AreSubNames (whole : List Labelled) (names : List (List ℕ)) : Type 0 where
  pub same : (x : List ℕ) → list_any (bytes_eq x) names ≡ list_any (is_sub_of x) whole

abbrev pub lacks_sub : (whole above : List Labelled) → Labelled → Bool
lacks_sub whole above s = lacks_sub_of whole (call_in s.stmt)

-- ---- arguments and dummies

abbrev pub is_same_dim : Dim → Dim → Bool
is_same_dim a b = int_eq a.lo b.lo && int_eq a.hi b.hi

-- the same dimensions, with the same bounds
abbrev pub are_same_dims : List Dim → List Dim → Bool
are_same_dims [] [] = true
are_same_dims (a ∷ as_here) (b ∷ as_there) = is_same_dim a b && are_same_dims as_here as_there
are_same_dims _ _ = false

abbrev pub is_same_kind : Option Kind → Option Kind → Bool
is_same_kind None other = false
is_same_kind (Some kind) other = is_kind kind other

-- a name of one unit has the kind and the dimensions of a name of another
abbrev pub is_alike : (u v : List Labelled) → (x y : List ℕ) → Bool
is_alike u v x y = is_same_kind (kind_of u x) (kind_of v y) && are_same_dims (dims_of u x) (dims_of v y)

abbrev pub are_alike : (u v : List Labelled) → (xs ys : List (List ℕ)) → Bool
are_alike u v [] [] = true
are_alike u v (x ∷ xs) (y ∷ ys) = is_alike u v x y && are_alike u v xs ys
are_alike u v _ _ = false

abbrev pub calls_wrongly : List (List Labelled) → (k : ℕ) → Option Call → Bool
calls_wrongly us k None = false
calls_wrongly us k (Some call) = not (are_alike (unit_at us k) (unit_at us (unit_of us call.name)) call.arguments (dummies_of (unit_at us (unit_of us call.name))))

abbrev pub is_of_storage : Stmt → Bool
is_of_storage (Common parts) = true
is_of_storage (Equivalence groups) = true
is_of_storage (Init parts) = true
is_of_storage _ = false

-- the names in COMMON, EQUIVALENCE and DATA
abbrev pub names_of_storage : List Labelled → List (List ℕ)
names_of_storage u = flat_map (λ s. appearing (is_array u) s.stmt) (filter (λ s. is_of_storage s.stmt) u)

abbrev pub has_wrong_dummy : List Labelled → Stmt → Bool
has_wrong_dummy u s = has_repeat bytes_eq [] (sub_dummies s) || list_any (λ d. list_any (bytes_eq d) (names_of_storage u)) (sub_dummies s)

-- the unit in which the next statement stands
abbrev pub unit_below : (above : List Labelled) → ℕ
unit_below above = count_by (λ a. is_end a.stmt) above

abbrev pub has_bad_call : List (List Labelled) → (above : List Labelled) → Labelled → Bool
has_bad_call us above s = calls_wrongly us (unit_below above) (call_in s.stmt) || has_wrong_dummy (unit_at us (unit_below above)) s.stmt

-- ---- blocks

abbrev pub first_unit : List (List Labelled) → List Labelled
first_unit [] = []
first_unit (u ∷ us) = u

-- the first unit that has the block
abbrev pub first_with : List (List Labelled) → Option (List ℕ) → List Labelled
first_with us block = first_unit (filter (λ u. has_block u block) us)

abbrev pub is_mismatched_part : List (List Labelled) → List Labelled → CommonPart → Bool
is_mismatched_part us u part = not (are_alike u (first_with us part.block) (block_list u part.block) (block_list (first_with us part.block) part.block))

abbrev pub first_line_if : Bool → List Labelled → Option ℕ
first_line_if fault u = if fault then Some (line_or_none (slice_get u 0)) else None

abbrev pub bad_block : List (List Labelled) → List Labelled → Option ℕ
bad_block us u = first_line_if (list_any (is_mismatched_part us u) (all_commons u)) u

-- ---- calls in a circle, and what is counted

abbrev pub recursion : List (List Labelled) → ℕ → Option ℕ
recursion us k = first_line_if (reaches us (length us) k k) (unit_at us k)

abbrev pub main_line_if : List (List Labelled) → Bool → Option ℕ
main_line_if us fault = if fault then Some (last_line (unit_at us 0)) else None

abbrev pub has_great_name : List (List Labelled) → Bool
has_great_name us = list_any (nat_lt 99999) (own_numbers us)

-- ---- the table

abbrev pub end_at : (ℕ → SubEnd) → Option ℕ → Option SubEnd
end_at refused None = None
end_at refused (Some line) = Some (refused line)

abbrev pub layout_end_of : Option LayoutEnd → Option SubEnd
layout_end_of None = None
layout_end_of (Some end) = Some (Layout end)

abbrev pub layout_end : List Labelled → (checked : Bool) → Option SubEnd
layout_end u checked = layout_end_of (refusal (standing_in u) checked)

-- what the main program's END is told for
abbrev pub size_refusals : List (List Labelled) → List (Option SubEnd)
size_refusals us =
    end_at TooManyStatements (main_line_if us (nat_lt 4000 (total_width us))) ∷
    end_at TooManyNames (main_line_if us (has_great_name us)) ∷ []

abbrev pub call_refusals : List Labelled → List (List Labelled) → List (Option SubEnd)
call_refusals stmts us =
    end_at NoSub (first_line (lacks_sub stmts) stmts) ∷
    end_at BadCall (first_line (has_bad_call us) stmts) ∷
    end_at BadBlock (first_answer (bad_block us) us) ∷
    end_at Recursion (first_answer (recursion us) (range_with_len 0 (length us))) ∷ []

abbrev pub form_refusals : List Labelled → List (List Labelled) → (checked : Bool) → List (Option SubEnd)
form_refusals stmts us checked =
    end_at UnitOrder (first_line is_out_of_unit stmts) ∷
    first_answer (λ u. layout_end u checked) us ∷
    end_at SubTwice (first_line is_sub_again stmts) ∷
    call_refusals stmts us

abbrev pub unit_refusals : List Labelled → List (List Labelled) → (checked : Bool) → List (Option SubEnd)
unit_refusals stmts us checked = form_refusals stmts us checked ++ size_refusals us

abbrev pub unit_refusal : List Labelled → (checked : Bool) → Option SubEnd
unit_refusal stmts checked = first_answer (λ r. r) (unit_refusals stmts (units stmts) checked)

-- ---- the answer

abbrev pub list_unless : Option SubEnd → List Labelled → Result (List Labelled) SubEnd
list_unless None list = Ok list
list_unless (Some end) list = Err end

-- what a text with subroutines comes to: the statements of one program, or the first refusal
abbrev pub expansion : List Labelled → (checked : Bool) → Result (List Labelled) SubEnd
expansion stmts checked = list_unless (unit_refusal stmts checked) (whole_list (units stmts))
