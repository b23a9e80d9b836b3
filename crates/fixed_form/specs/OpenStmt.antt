-- A statement of which some lines are read.
use Rattle.std.specs.Prelude.{ℕ, false, List, [], ◌++◌}
use Rattle.std.specs.List.{fold}
use Rattle.fixed_form.specs.declared.open_stmt.OpenStmt.{OpenStmt}
use Rattle.fixed_form.specs.Statement.{text_from, inside_after}

-- the statement with more characters, before blanks are dropped and letters folded
abbrev pub with_characters : OpenStmt → List ℕ → OpenStmt
with_characters stmt characters = record stmt { text = stmt.text ++ text_from stmt.is_inside characters; is_inside = fold inside_after stmt.is_inside characters }

-- a statement without characters
abbrev pub begun : (label line : ℕ) → OpenStmt
begun label line = record { label = label; line = line; text = []; is_inside = false; continuations = 0 }
