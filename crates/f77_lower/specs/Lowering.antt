-- What lowering promises.
use Rattle.std.specs.Prelude.{◌≡◌, ℕ, ◌+◌, ◌≤◌, ◌==◌, false, List, [], length, All, Ok}
use Rattle.std.specs.List.{count_by, range_with_len}
use Rattle.f77_tree.specs.declared.programs.Program.{Program}
use Rattle.f77_source.specs.Reading.{reading}
use Rattle.f77_lower.specs.declared.lowering.Lowered.{Lowered}

-- the text is a program of the language, in the plain dialect
abbrev pub IsProgram : List ℕ → Type 0
IsProgram text = (p : Program) × (reading text false ≡ Ok p)

-- how many line feeds a text has
abbrev pub line_feeds : List ℕ → ℕ
line_feeds text = count_by (λ byte. byte == 10) text

-- how many lines a text has: those that line feeds end, and what follows the last line feed, be it empty
abbrev pub number_of_lines : List ℕ → ℕ
number_of_lines text = line_feeds text + 1

-- the number of a line of a text
abbrev pub IsLineOf : List ℕ → ℕ → Type 0
IsLineOf text line = (1 ≤ line) × (line ≤ number_of_lines text)

-- a program that comes out as it is: the text is the source, each line comes from itself, and no name is another one
pub record IsAsItWas (source : List ℕ) (lowered : Lowered) : Type 0 where
  pub text : lowered.text.items ≡ source
  pub lines : lowered.lines.items ≡ range_with_len 1 (number_of_lines source)
  pub renamed : lowered.renamed.items ≡ []

-- for each line of a text the number of a line of the source
pub record IsLineMap (source text : List ℕ) (lines : List ℕ) : Type 0 where
  pub whole : length lines ≡ number_of_lines text
  pub within : All (IsLineOf source) lines
