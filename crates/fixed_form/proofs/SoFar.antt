-- What holds while a text is read: the lines read so far and the rest make the reading of the whole.
use Rattle.std.proofs.Common.{◌≡◌, ℕ, ◌+◌, ◌≤◌, List, [], length}
use Rattle.std.specs.List.{filter}
use Rattle.std.specs.Str.Lines.{lines}
use Rattle.fixed_form.specs.declared.reader.Reader.{Reader}
use Rattle.fixed_form.specs.SourceLine.{SourceLine, numbered_from, source_lines, is_statement_line}
use Rattle.fixed_form.specs.Statement.{statements_of}
use Rattle.fixed_form.specs.Fault.{first_fault}
use Rattle.fixed_form.specs.Reader.{statements_after, HasRead, IsBounded}

-- the lines that follow what the reader has read
abbrev pub following : Reader → List ℕ → List SourceLine
following reader rest = numbered_from (reader.lines + 1) (lines rest)

pub record IsSoFar (bytes : List ℕ) (reader : Reader) (rest : List ℕ) : Type 0 where
  pub above : List SourceLine
  pub bounded : IsBounded reader
  pub few : reader.lines + length rest ≤ length bytes
  pub has_read : HasRead reader above
  pub faults : first_fault [] (source_lines bytes) ≡ first_fault above (following reader rest)
  pub statements : statements_of (filter is_statement_line (source_lines bytes)) ≡ statements_after reader (following reader rest)
  pub count : length (source_lines bytes) ≡ reader.lines + length (following reader rest)
