-- The lowest line with a fault, wherever it stands: lines of statements that were put in needn't rise.
use Rattle.std.specs.Prelude.{◌≡◌, ℕ, ◌<◌, Bool, nat_lt, if◌then◌else◌, List, [], ◌∷◌, ◌++◌, Option, Some, None, slice_get}
use Rattle.f77_tree.specs.declared.statements.Labelled.{Labelled}

abbrev pub lower_or : ℕ → Option ℕ → ℕ
lower_or line None = line
lower_or line (Some other) = if nat_lt other line then other else line

-- the lower of two lines, where there are any
abbrev pub lower_line : Option ℕ → Option ℕ → Option ℕ
lower_line None other = other
lower_line (Some line) other = Some (lower_or line other)

-- the lowest line of these statements with the fault, where those stand above them
abbrev pub lowest_after : (fault : List Labelled → Labelled → Bool) → (above stmts : List Labelled) → Option ℕ
lowest_after fault above [] = None
lowest_after fault above (s ∷ rest) =
    if fault above s then Some (lower_or s.line (lowest_after fault (above ++ s ∷ []) rest))
    else lowest_after fault (above ++ s ∷ []) rest

abbrev pub lowest_line : (fault : List Labelled → Labelled → Bool) → List Labelled → Option ℕ
lowest_line fault stmts = lowest_after fault [] stmts

abbrev pub LinesRise : List Labelled → Type 0
LinesRise stmts = (j k : ℕ) (a b : Labelled) → slice_get stmts j ≡ Some a → slice_get stmts k ≡ Some b → j < k → a.line < b.line
