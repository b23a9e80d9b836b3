-- What a call on a reader and a writer of std answers and writes.
use Rattle.std.specs.Prelude.{◌≡◌, ◌⊎◌, ◌≤◌, ℕ, List, Option, IfSome}
use Rattle.std.specs.Io.KnownBytes.{Keeps}
use Rattle.df_io.specs.Write.{KeepsFirst}
use Rattle.job_terms.specs.Answers.{Answers, IsUnwritten}
use Rattle.dfc_driver.specs.Words.{job_of}
use Rattle.dfc_driver.specs.WordsDue.{IsDue, TellsWords}

-- All that was handed to a writer has reached it. Where the status tells a failure, it may be only the first of it.
pub record HasReached (handed new : Option (List ℕ)) (code : ℕ) : Type 0 where
  pub first : KeepsFirst handed new
  pub all : code ≤ 4 → Keeps handed new

-- The writer was handed what `dfc_main` promises for these words of a sink that had got `old`, by this status, and it has reached the
-- writer. What the reader gave is `text`.
pub record IsOutput (words : List (List ℕ)) (text old new : Option (List ℕ)) (code : ℕ) : Type 0 where
  pub handed : Option (List ℕ)
  pub due : IfSome text (λ bytes. Answers (IsDue words bytes) old handed code)
  pub told : TellsWords (job_of words) old handed code
  pub unwritten : IsUnwritten old handed code
  pub reached : HasReached handed new code

-- The status is the same, or the last flush failed where it told no failure yet.
abbrev pub IsStatusAfter : ℕ → ℕ → Type 0
IsStatusAfter status code = (code ≡ status) ⊎ ((status ≤ 4) × (code ≡ 6))
