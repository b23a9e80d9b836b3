-- Jumps into the range of a DO or into an arm of an IF (ANSI X3.9-1978, sections 11.6, 11.8 and 11.10.8).
use Rattle.std.specs.Prelude.{ℕ, ◌+◌, ◌-◌, Bool, true, false, not, if◌then◌else◌, ◌&&◌, ◌||◌, nat_lt, nat_le, ◌==◌, List, [], ◌∷◌, length, flat_map, Option, Some, None, slice_get, drop}
use Rattle.std.specs.List.{list_any, range_with_len}
use Rattle.f77_tree.specs.declared.statements.Labelled.{Labelled}
use Rattle.f77_tree.specs.declared.statements.Stmt.{Stmt}
use Rattle.f77_tree.specs.declared.statements.Stmt.TheVariants.{BlockIf, ElseIf, Else, EndIf, Do}
use Rattle.layout_rules.specs.Labels.{jumps, statement_of, is_arm}

-- ---- the statements of a block of IF

abbrev pub is_block_if : Stmt → Bool
is_block_if (BlockIf condition) = true
is_block_if _ = false

abbrev pub is_end_if : Stmt → Bool
is_end_if EndIf = true
is_end_if _ = false

-- The place of the END IF, or where `arms` is told of the ELSE IF, ELSE or END IF, that belongs to the innermost block in which
-- these statements begin; `inner` blocks have begun after. The statements stand at this place and after it.
abbrev pub end_after : (arms : Bool) → (inner : ℕ) → List Labelled → ℕ → ℕ
end_after arms inner [] place = place
end_after arms inner (s ∷ rest) place =
    if is_block_if s.stmt then end_after arms (inner + 1) rest (place + 1)
    else if (inner == 0) && (is_end_if s.stmt || (arms && is_arm s.stmt)) then place
    else if is_end_if s.stmt then end_after arms (inner - 1) rest (place + 1)
    else end_after arms inner rest (place + 1)

-- the END IF of the block whose IF, ELSE IF or ELSE stands at this place
abbrev pub end_of_block : List Labelled → ℕ → ℕ
end_of_block stmts place = end_after false 0 (drop (place + 1) stmts) (place + 1)

-- the next ELSE IF, ELSE or END IF of that block
abbrev pub end_of_arm : List Labelled → ℕ → ℕ
end_of_arm stmts place = end_after true 0 (drop (place + 1) stmts) (place + 1)

-- ---- ranges and arms

-- The statements after `head`, up to and with `last`, are the range of a DO or an arm of an IF.
pub record Span : Type 0 where
  pub head : ℕ
  pub last : ℕ

abbrev pub span_of : List Labelled → ℕ → Stmt → List Span
span_of stmts place (Do label variable first last step) = record { head = place; last = statement_of stmts label } ∷ []
span_of stmts place (BlockIf condition) = record { head = place; last = end_of_arm stmts place - 1 } ∷ []
span_of stmts place (ElseIf condition) = record { head = place; last = end_of_arm stmts place - 1 } ∷ []
span_of stmts place Else = record { head = place; last = end_of_arm stmts place - 1 } ∷ []
span_of stmts place _ = []

abbrev pub span_if_any : List Labelled → ℕ → Option Labelled → List Span
span_if_any stmts place None = []
span_if_any stmts place (Some s) = span_of stmts place s.stmt

-- all ranges and arms, in the order in which they begin
abbrev pub spans : List Labelled → List Span
spans stmts = flat_map (λ place. span_if_any stmts place (slice_get stmts place)) (range_with_len 0 (length stmts))

abbrev pub lies_in : Span → ℕ → Bool
lies_in span place = nat_lt span.head place && nat_le place span.last

-- a range or an arm holds the target and doesn't hold the jump
abbrev pub leads_into : List Labelled → (from to : ℕ) → Bool
leads_into stmts from to = list_any (λ span. lies_in span to && not (lies_in span from)) (spans stmts)

abbrev pub jumps_into : (whole above : List Labelled) → Labelled → Bool
jumps_into whole above s = list_any (λ label. leads_into whole (length above) (statement_of whole label)) (jumps s.stmt)
