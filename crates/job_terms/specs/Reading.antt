-- What a text is: a program, or refused. Allocation failure has no place in it.
use Rattle.std.specs.Prelude.{◌≡◌, ℕ, ◌+◌, Bool, List, length, Option, Some, None, Result, Ok, Err, nat_lt, MatchBool, if◌then◌else◌}
use Rattle.std.specs.Io.KnownBytes.{IsAtEnd}
use Rattle.df_io.specs.Read.{Takes, TakesAtMost}
use Rattle.f77_tree.specs.declared.programs.Program.{Program}
use Rattle.f77_tree.specs.Dialects.{IsOfDialect}
use Rattle.f77_tree.specs.WellFormed.{IsWellFormed}
use Rattle.f77_source.specs.declared.source_end.Refusal.{Refusal}
use Rattle.f77_source.specs.Reading as source
use Rattle.f77_source.specs.Reading.{IsProgramOf}
use Rattle.job_terms.specs.declared.reading.Code.{Code}
use Rattle.job_terms.specs.declared.reading.Code.TheVariants.{TooLong, Text}
use Rattle.job_terms.specs.declared.reading.NoProgram.{NoProgram}
use Rattle.job_terms.specs.declared.reading.NoProgram.TheVariants as none

-- a program, or a code and the line that it is told at
pub data Reading : Type 0 where
  Accepted : (program : Program) → Reading
  Refused : (line : ℕ) (code : Code) → Reading

-- a text may have so many bytes
abbrev pub most_bytes : ℕ
most_bytes = 4194304

abbrev pub read_source : Result Program Refusal → Reading
read_source (Ok program) = Accepted program
read_source (Err refusal) = Refused refusal.line (Text refusal.code)

-- a text that is too long is refused before anything else
abbrev pub reading : (checked : Bool) → List ℕ → Reading
reading checked bytes = if nat_lt most_bytes (length bytes) then Refused 0 TooLong else read_source (source.reading bytes checked)

-- ---- programs that were read

-- The program is laid out from the statements of the text, well formed, and of the dialect.
pub record IsOf (bytes : List ℕ) (checked : Bool) (p : Program) : Type 0 where
  pub statements : IsProgramOf bytes checked p
  pub well_formed : IsWellFormed p
  pub dialect : IsOfDialect checked p

-- it is so, where the text is accepted
abbrev pub IfAccepted : Reading → (Program → Type 0) → Type 0
IfAccepted (Refused line code) P = Unit {0}
IfAccepted (Accepted p) P = P p

abbrev pub IsOwnProgram : (bytes : List ℕ) → (checked : Bool) → Type 0
IsOwnProgram bytes checked = IfAccepted (reading checked bytes) (IsOf bytes checked)

-- ---- what is read

-- A text was read as what it is, or the source failed or memory ended.
abbrev pub IsReadAs : Reading → Result Program NoProgram → Type 0
IsReadAs read (Ok program) = read ≡ Accepted program
IsReadAs read (Err (none.Refused line code)) = read ≡ Refused line code
IsReadAs read (Err none.ReadFault) = Unit {0}
IsReadAs read (Err none.NoMemory) = Unit {0}

-- The source was read to its end, or to the first byte past what a text may have.
abbrev pub IsReadWhole : Option (List ℕ) → Option (List ℕ) → Type 0
IsReadWhole None new = Unit {0}
IsReadWhole (Some bytes) new = MatchBool (nat_lt most_bytes (length bytes)) (Takes (Some bytes) new (most_bytes + 1)) (IsAtEnd new)

abbrev pub IsReadFor : Option (List ℕ) → Option (List ℕ) → Result Program NoProgram → Type 0
IsReadFor old new (Ok program) = IsReadWhole old new
IsReadFor old new (Err (none.Refused line code)) = IsReadWhole old new
IsReadFor old new (Err none.ReadFault) = Unit {0}
IsReadFor old new (Err none.NoMemory) = Unit {0}

-- In no case was the source read further than to that byte.
abbrev pub IsReadWithin : Option (List ℕ) → Option (List ℕ) → Type 0
IsReadWithin old new = TakesAtMost old new (most_bytes + 1)
