-- What is due of a job: a status, and the bytes that are written.
use Rattle.std.specs.Prelude.{◌≡◌, ◌==◌, ℕ, List, [], ◌∷◌, ◌++◌, filter, length, codes}
use Rattle.std.specs.Fmt.{decimal}
use Rattle.op_table.specs.declared.Trap.{Trap}
use Rattle.op_table.specs.declared.Trap.TheVariants.{Divide, Subscript, Step, Input, Overflow}
use Rattle.job_terms.specs.declared.reading.Code.{Code}
use Rattle.job_terms.specs.declared.status.Status.{Status}
use Rattle.job_terms.specs.declared.status.Status.TheVariants as status
use Rattle.job_terms.specs.Codes.{name_of}

-- a status, what the job writes, and after that the line that tells how it ended, or nothing
pub record Due : Type 0 where
  pub status : Status
  pub text : List ℕ
  pub last : List ℕ

-- all bytes that are written
abbrev pub all_due : Due → List ℕ
all_due due = due.text ++ due.last

-- the words have no meaning
abbrev pub usage : Due
usage = record { status = status.Usage; text = []; last = codes "USAGE" ++ 10 ∷ [] }

-- the text is refused, by a code and the line that it is told at
abbrev pub refusal : ℕ → Code → Due
refusal line code = record { status = status.Refused; text = []; last = codes "REFUSED " ++ decimal line ++ 32 ∷ [] ++ name_of code ++ 10 ∷ [] }

-- the job is done
abbrev pub done : List ℕ → Due
done text = record { status = status.Done; text = text; last = [] }

abbrev pub trap_name : Trap → List ℕ
trap_name Divide = codes "DIVIDE"
trap_name Subscript = codes "SUBSCRIPT"
trap_name Step = codes "STEP"
trap_name Input = codes "INPUT"
trap_name Overflow = codes "OVERFLOW"

-- a trap came after this text, at this line of the source
abbrev pub trapped : (text : List ℕ) → Trap → (line : ℕ) → Due
trapped text trap line = record { status = status.Trapped; text = text; last = codes "TRAP " ++ trap_name trap ++ codes " LINE " ++ decimal line ++ 10 ∷ [] }

-- a trap came after this text, in a program that has lines of its own
abbrev pub trapped_alone : (text : List ℕ) → Trap → Due
trapped_alone text trap = record { status = status.Trapped; text = text; last = codes "TRAP " ++ trap_name trap ++ 10 ∷ [] }

-- after this text so many firings or steps were made, and more are possible
abbrev pub stopped : (text : List ℕ) → (limit : ℕ) → Due
stopped text limit = record { status = status.Limit; text = text; last = codes "LIMIT " ++ decimal limit ++ 10 ∷ [] }

-- this is due, and nothing else
abbrev pub IsJust : Due → Due → Type 0
IsJust only due = due ≡ only

-- The job is done, with a text that is as asked.
pub record IsDoneBy (asked : List ℕ → Type 0) (due : Due) : Type 0 where
  pub text : asked due.text
  pub done : due ≡ done due.text

-- how many lines a text has
abbrev pub lines_in : List ℕ → ℕ
lines_in text = length (filter (λ c. c == 10) text)
