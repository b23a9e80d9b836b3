-- The declarations among statements.
use Rattle.std.specs.Prelude.{Bool, if◌then◌else◌, List, [], ◌∷◌}
use Rattle.f77_tree.specs.declared.statements.Labelled.{Labelled}
use Rattle.f77_tree.specs.declared.statements.Stmt.{Stmt}
use Rattle.layout_rules.specs.Labels.{is_executable}

abbrev pub unless_executable : (does : Bool) → Stmt → List Stmt → List Stmt
unless_executable does s rest = if does then rest else s ∷ rest

-- in their order, without labels and lines
abbrev pub declarations : List Labelled → List Stmt
declarations [] = []
declarations (s ∷ rest) = unless_executable (is_executable s.stmt) s.stmt (declarations rest)
