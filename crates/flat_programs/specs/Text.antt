-- The printed text of a flat program: its declarations, and then its statements.
use Rattle.std.specs.Prelude.{ℕ, Bool, if◌then◌else◌, List, [], ◌∷◌, ◌++◌, length, map, flat_map, Option, Some, None, slice_get, ◌≡◌, false}
use Rattle.std.specs.List.{range_with_len, list_any}
use Rattle.f77_tree.specs.declared.programs.NameInfo.{NameInfo}
use Rattle.f77_tree.specs.declared.programs.Program.{Program}
use Rattle.f77_tree.specs.StatementGrammar.{WrittenStatement}
use Rattle.flat_programs.specs.declared.statements.FlatLine.{FlatLine}
use Rattle.flat_programs.specs.Marks.{is_mark, mark_at}
use Rattle.flat_programs.specs.Declarations.{declared}
use Rattle.flat_programs.specs.Shown.{shown}
use Rattle.flat_programs.specs.Typeset.{typeset}
use Rattle.flat_programs.specs.Lines.{Typeset, lines_of, is_long}

abbrev pub unlabelled : WrittenStatement → Typeset
unlabelled w = record { label = 0; text = typeset w }

-- the label of the statement at this place: a mark has its number, and no other statement has one
abbrev pub label_at : List FlatLine → (place : ℕ) → FlatLine → ℕ
label_at flat place l = if is_mark l.stmt then mark_at flat place else 0

abbrev pub typeset_in : List NameInfo → List FlatLine → (place : ℕ) → Option FlatLine → List Typeset
typeset_in names flat place None = []
typeset_in names flat place (Some l) = record { label = label_at flat place l; text = typeset (shown names l.stmt) } ∷ []

abbrev pub typeset_at : List NameInfo → List FlatLine → (place : ℕ) → List Typeset
typeset_at names flat place = typeset_in names flat place (slice_get flat place)

-- all statements as they are printed
abbrev pub statements : Program → List FlatLine → List Typeset
statements q flat = map unlabelled (declared q) ++ flat_map (typeset_at q.names flat) (range_with_len 0 (length flat))

abbrev pub text : Program → List FlatLine → List ℕ
text q flat = flat_map lines_of (statements q flat)

-- whether some statement is longer or deeper than one that is read may be
abbrev pub has_long_text : Program → List FlatLine → Bool
has_long_text q flat = list_any is_long (statements q flat)

-- the text, unless a statement of it is too long
abbrev pub IsTextUnlessLong : Program → List FlatLine → List ℕ → Type 0
IsTextUnlessLong p flat bytes = (has_long_text p flat ≡ false) × (bytes ≡ text p flat)
