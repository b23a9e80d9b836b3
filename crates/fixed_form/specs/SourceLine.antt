-- The lines of a source text.
use Rattle.std.specs.Prelude.{ℕ, ◌+◌, Bool, true, false, List, [], ◌∷◌}
use Rattle.std.specs.Str.Lines.{lines}
use Rattle.fixed_form.specs.declared.line.LineKind.{LineKind}
use Rattle.fixed_form.specs.declared.line.LineKind.TheVariants.{Comment, Initial, Continuation}
use Rattle.fixed_form.specs.Columns.{card, kind}

-- a line's number, counted from 1, and columns 1 to 72
pub record SourceLine : Type 0 where
  pub number : ℕ
  pub card : List ℕ

-- a line with its number
abbrev pub numbered : ℕ → List ℕ → SourceLine
numbered n line = record { number = n; card = card line }

-- lines numbered from n on
abbrev pub numbered_from : ℕ → List (List ℕ) → List SourceLine
numbered_from n [] = []
numbered_from n (line ∷ more) = numbered n line ∷ numbered_from (n + 1) more

-- The lines of a text. A line ends before an LF, or before a CR and LF, and what follows the last LF is a line unless it is empty.
abbrev pub source_lines : List ℕ → List SourceLine
source_lines bytes = numbered_from 1 (lines bytes)

abbrev pub is_initial_kind : LineKind → Bool
is_initial_kind Comment = false
is_initial_kind Initial = true
is_initial_kind Continuation = false

abbrev pub is_continuation_kind : LineKind → Bool
is_continuation_kind Comment = false
is_continuation_kind Initial = false
is_continuation_kind Continuation = true

abbrev pub is_statement_kind : LineKind → Bool
is_statement_kind Comment = false
is_statement_kind Initial = true
is_statement_kind Continuation = true

abbrev pub is_initial_line : SourceLine → Bool
is_initial_line line = is_initial_kind (kind line.card)

abbrev pub is_continuation_line : SourceLine → Bool
is_continuation_line line = is_continuation_kind (kind line.card)

-- no comment
abbrev pub is_statement_line : SourceLine → Bool
is_statement_line line = is_statement_kind (kind line.card)
