-- What a job answers, writes and reads, by what is due.
use Rattle.std.specs.Prelude.{◌≡◌, ◌≢◌, ◌⊎◌, ◌≤◌, ℕ, List, Option}
use Rattle.std.specs.Io.KnownBytes.{Appends, Keeps}
use Rattle.df_io.specs.Faults.{Rose}
use Rattle.df_io.specs.Write.{AppendsPrefix}
use Rattle.job_terms.specs.declared.status.Status.{Status}
use Rattle.job_terms.specs.declared.status.Status.TheVariants.{Done, Usage, Refused, Trapped, Limit, ReadFault, WriteFault, NoMemory}
use Rattle.job_terms.specs.Due.{Due, IsJust, all_due}
use Rattle.job_terms.specs.Reading.{IsReadWhole, IsReadWithin}

-- the exit status
abbrev pub code_of : Status → ℕ
code_of Done = 0
code_of Usage = 1
code_of Refused = 2
code_of Trapped = 3
code_of Limit = 4
code_of ReadFault = 5
code_of WriteFault = 6
code_of NoMemory = 7

-- The status is one that is due, and all that is due with it was written.
pub record IsTold (is_due : Due → Type 0) (old new : Option (List ℕ)) (status : Status) : Type 0 where
  pub due : Due
  pub is : is_due due
  pub same : status ≡ due.status
  pub written : Appends old new (all_due due)

-- A prefix of what is due was written.
pub record IsBegun (is_due : Due → Type 0) (old new : Option (List ℕ)) : Type 0 where
  pub due : Due
  pub is : is_due due
  pub prefix : AppendsPrefix old new (all_due due)

-- What is due was told. Or the source failed or there was no memory, and nothing was written; or the sink failed, and a
-- prefix of what is due was written.
abbrev pub AnswersAs : (is_due : Due → Type 0) → Option (List ℕ) → Option (List ℕ) → Status → Type 0
AnswersAs is_due old new ReadFault = Keeps old new
AnswersAs is_due old new NoMemory = Keeps old new
AnswersAs is_due old new WriteFault = IsBegun is_due old new
AnswersAs is_due old new Done = IsTold is_due old new Done
AnswersAs is_due old new Usage = IsTold is_due old new Usage
AnswersAs is_due old new Refused = IsTold is_due old new Refused
AnswersAs is_due old new Trapped = IsTold is_due old new Trapped
AnswersAs is_due old new Limit = IsTold is_due old new Limit

-- What is due was told, or the sink failed: neither the source nor memory is used.
pub record Tells (due : Due) (old new : Option (List ℕ)) (status : Status) : Type 0 where
  pub answers : AnswersAs (IsJust due) old new status
  pub told : (status ≡ due.status) ⊎ (status ≡ WriteFault)

-- the same, by the exit status
pub record Answers (is_due : Due → Type 0) (old new : Option (List ℕ)) (code : ℕ) : Type 0 where
  pub status : Status
  pub code_is : code ≡ code_of status
  pub answers : AnswersAs is_due old new status

-- Where the source failed or there was no memory, nothing was written.
pub record IsUnwritten (old new : Option (List ℕ)) (code : ℕ) : Type 0 where
  pub fault : code ≡ 5 → Keeps old new
  pub memory : code ≡ 7 → Keeps old new

-- neither the source failed, nor did memory end
pub record HasAll (code : ℕ) : Type 0 where
  pub bytes : code ≢ 5
  pub memory : code ≢ 7

-- Where neither failed, the source was read to its end, or to the first byte past what a text may have; and in no case
-- further.
pub record ReadsText (old new : Option (List ℕ)) (code : ℕ) : Type 0 where
  pub whole : HasAll code → IsReadWhole old new
  pub within : IsReadWithin old new

-- Source and sink are blamed only where they failed: no count of faults falls, and each rose where it is blamed.
pub record Blames (source_old source_new sink_old sink_new code : ℕ) : Type 0 where
  pub source_later : source_old ≤ source_new
  pub source_fault : code ≡ 5 → Rose source_old source_new
  pub sink_later : sink_old ≤ sink_new
  pub sink_fault : code ≡ 6 → Rose sink_old sink_new
