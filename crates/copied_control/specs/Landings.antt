-- The statement that control comes to where it falls.
use Rattle.std.specs.Prelude.{ℕ, ◌+◌, if◌then◌else◌, List, [], ◌∷◌, drop}
use Rattle.f77_tree.specs.declared.statements.Labelled.{Labelled}
use Rattle.layout_rules.specs.Labels.{is_executable, is_arm}
use Rattle.layout_rules.specs.Jumps.{end_of_block}

-- its place, where control falls to the statements at this place and after it: an ELSE IF or ELSE leads to the END IF
abbrev pub landing_after : (whole stmts : List Labelled) → (place : ℕ) → ℕ
landing_after whole [] place = place
landing_after whole (s ∷ rest) place = if is_arm s.stmt then end_of_block whole place else if is_executable s.stmt then place else landing_after whole rest (place + 1)

abbrev pub landing : List Labelled → (place : ℕ) → ℕ
landing stmts place = landing_after stmts (drop place stmts) place
