-- The statements of a lane chart.
use Rattle.std.specs.Prelude.{ℕ, List, [], ◌∷◌, ◌++◌, Bool, false, not, ◌==◌, ◌||◌, if◌then◌else◌}
use Rattle.printed_graphs.specs.declared.flow.Piece.{Piece}
use Rattle.printed_graphs.specs.declared.flow.PieceKind.{PieceKind}
use Rattle.printed_graphs.specs.declared.flow.PieceKind.TheVariants as kind
use Rattle.lane_layout.specs.declared.rows.Begin.{Begin}

abbrev pub holds : (line : ℕ) → List ℕ → Bool
holds line [] = false
holds line (l ∷ ls) = (line == l) || holds line ls

-- a piece of this kind and line begins a statement after those on these lines, of which the last one stands on line `last`, or none where it is 0
abbrev pub begins_by : PieceKind → (shown : List ℕ) → (last line : ℕ) → Bool
begins_by kind.Start shown last line = false
begins_by kind.Pass shown last line = not (holds line shown)
begins_by _ shown last line = not (last == line)

abbrev pub begins : (shown : List ℕ) → (last : ℕ) → Piece → Bool
begins shown last piece = begins_by piece.kind shown last piece.line

-- the lines of the statements after a piece, and the line of the last one
abbrev pub lines_with : (shown : List ℕ) → (last : ℕ) → Piece → List ℕ
lines_with shown last piece = if begins shown last piece then shown ++ piece.line ∷ [] else shown

abbrev pub last_with : (shown : List ℕ) → (last : ℕ) → Piece → ℕ
last_with shown last piece = if begins shown last piece then piece.line else last

-- the lines of the statements after these pieces
abbrev pub lines_after : (shown : List ℕ) → (last : ℕ) → List Piece → List ℕ
lines_after shown last [] = shown
lines_after shown last (p ∷ ps) = lines_after (lines_with shown last p) (last_with shown last p) ps

abbrev pub line_of : Begin → ℕ
line_of b = b.line
