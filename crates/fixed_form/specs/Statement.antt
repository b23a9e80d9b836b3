-- The statements that lines make.
use Rattle.std.specs.Prelude.{ℕ, Bool, false, not, ◌==◌, if◌then◌else◌, List, [], ◌∷◌, ◌++◌, map, codes}
use Rattle.std.specs.Char.{to_ascii_uppercase}
use Rattle.std.specs.List.{concat}
use Rattle.std.specs.Str.{bytes_eq}
use Rattle.fixed_form.specs.declared.raw_stmt.RawStmt.{RawStmt}
use Rattle.fixed_form.specs.Columns.{label, statement_field}
use Rattle.fixed_form.specs.SourceLine.{SourceLine, is_initial_line, is_continuation_line}

-- what a character gives to the text: inside a character constant itself, outside nothing for a blank, and upper case
abbrev pub kept : Bool → ℕ → List ℕ
kept inside c = if inside then c ∷ [] else (if c == 32 then [] else to_ascii_uppercase c ∷ [])

-- an apostrophe opens a constant, and the next one closes it
abbrev pub inside_after : Bool → ℕ → Bool
inside_after inside c = if c == 39 then not inside else inside

-- the text that characters give, where a constant is open before them or not
abbrev pub text_from : Bool → List ℕ → List ℕ
text_from inside [] = []
text_from inside (c ∷ more) = kept inside c ++ text_from (inside_after inside c) more

-- blanks dropped and letters folded to upper case, outside character constants
abbrev pub text : List ℕ → List ℕ
text characters = text_from false characters

-- the continuation lines that come first
abbrev pub continuations : List SourceLine → List SourceLine
continuations [] = []
continuations (line ∷ more) = if is_continuation_line line then line ∷ continuations more else []

-- columns 7 to 72 of lines, joined
abbrev pub joined : List SourceLine → List ℕ
joined lines = concat (map (λ line. statement_field line.card) lines)

-- the statement of an initial line and the continuation lines after it
abbrev pub statement_of : SourceLine → List SourceLine → RawStmt
statement_of initial more = record { label = label initial.card; line = initial.number; text = text (joined (initial ∷ more)) }

-- The statements in lines without comments: each initial line begins one, with the continuation lines right after it.
abbrev pub statements_of : List SourceLine → List RawStmt
statements_of [] = []
statements_of (line ∷ more) = if is_initial_line line then statement_of line (continuations more) ∷ statements_of more else statements_of more

-- the last statement is END
abbrev pub ends_with_end : List RawStmt → Bool
ends_with_end [] = false
ends_with_end (last ∷ []) = bytes_eq last.text (codes "END")
ends_with_end (first ∷ second ∷ more) = ends_with_end (second ∷ more)
