-- Where control comes to from a statement, and where blocks of IF end.
use Rattle.std.proofs.Common.{◌≡◌, ℕ, suc, zero, ◌+◌, ◌<◌, ◌≤◌, true, false, not, eqb, cond, List, [], ◌∷◌, length, drop, refl, ap, ◌∙◌, arith, Some, length-drop}
use Rattle.std.specs.Prelude.{slice_get}
use Rattle.f77_tree.specs.declared.statements.Labelled.{Labelled}
use Rattle.f77_tree.specs.declared.statements.Stmt.{Stmt}
use Rattle.f77_tree.specs.declared.statements.Stmt.TheVariants.{ElseIf, Else}
use Rattle.std.proofs.lemmas.List.Sums.{prefix_len-le-length}
use Rattle.layout_rules.specs.Tables.{begins_arm}
use Rattle.layout_rules.specs.Labels.{is_executable, is_arm, statement_of}
use Rattle.layout_rules.specs.Jumps.{end_of_block, end_of_arm}
use Rattle.layout_rules.specs.Executables.{first_of, met, met_after, is_else_at}
use Rattle.control_structure.proofs.Stops.{drop_here, end_after-le}

-- an arm leads to the END IF, and what isn't executable is passed over
pub met-step : (stmts : List Labelled) (place : ℕ) (s : Labelled) → slice_get stmts place ≡ Some s → met stmts place ≡ cond (is_arm s.stmt) (first_of stmts (end_of_block stmts place)) (cond (is_executable s.stmt) (first_of stmts place) (met stmts (place + 1)))
met-step stmts place s at = ap (λ rest. met_after stmts rest place) (drop_here stmts place s at)

pub met-arm : (stmts : List Labelled) (place : ℕ) (s : Labelled) → slice_get stmts place ≡ Some s → is_arm s.stmt ≡ true → met stmts place ≡ first_of stmts (end_of_block stmts place)
met-arm stmts place s at arm = met-step stmts place s at ∙ ap (λ b. cond b (first_of stmts (end_of_block stmts place)) (cond (is_executable s.stmt) (first_of stmts place) (met stmts (place + 1)))) arm

pub met-own : (stmts : List Labelled) (place : ℕ) (s : Labelled) → slice_get stmts place ≡ Some s → is_arm s.stmt ≡ false → is_executable s.stmt ≡ true → met stmts place ≡ first_of stmts place
met-own stmts place s at arm own =
    met-step stmts place s at
    ∙ ap (λ b. cond b (first_of stmts (end_of_block stmts place)) (cond (is_executable s.stmt) (first_of stmts place) (met stmts (place + 1)))) arm
    ∙ ap (λ b. cond b (first_of stmts place) (met stmts (place + 1))) own

pub met-passed : (stmts : List Labelled) (place : ℕ) (s : Labelled) → slice_get stmts place ≡ Some s → is_arm s.stmt ≡ false → is_executable s.stmt ≡ false → met stmts place ≡ met stmts (place + 1)
met-passed stmts place s at arm own =
    met-step stmts place s at
    ∙ ap (λ b. cond b (first_of stmts (end_of_block stmts place)) (cond (is_executable s.stmt) (first_of stmts place) (met stmts (place + 1)))) arm
    ∙ ap (λ b. cond b (first_of stmts place) (met stmts (place + 1))) own

-- blocks and arms end among the statements, or after them
pub end_of_block-within : (stmts : List Labelled) (place : ℕ) → place < length stmts → end_of_block stmts place ≤ length stmts
end_of_block-within stmts place inside = omega (arith, end_after-le false 0 (drop (place + 1) stmts) (place + 1), length-drop (place + 1) stmts)

pub end_of_arm-within : (stmts : List Labelled) (place : ℕ) → place < length stmts → end_of_arm stmts place ≤ length stmts
end_of_arm-within stmts place inside = omega (arith, end_after-le true 0 (drop (place + 1) stmts) (place + 1), length-drop (place + 1) stmts)

-- a place of a label is one of a statement, or lies after them
pub statement_of-within : (stmts : List Labelled) (label : ℕ) → statement_of stmts label ≤ length stmts
statement_of-within stmts label = prefix_len-le-length (λ (s : Labelled). not (eqb s.label label)) stmts

-- an ELSE stands among the statements
pub else-inside : (stmts : List Labelled) (place : ℕ) → is_else_at (slice_get stmts place) ≡ true → place < length stmts
else-inside [] place e = absurd (let h : false ≡ true = e in cc)
else-inside (s ∷ rest) zero e = omega arith
else-inside (s ∷ rest) (suc place) e = omega (arith, else-inside rest place e)

pub arm-begins : (stmt : Stmt) → is_arm stmt ≡ true → begins_arm stmt ≡ true
arm-begins (ElseIf condition) e = refl
arm-begins Else e = refl
arm-begins _ e = let h : false ≡ true = e in absurd cc
