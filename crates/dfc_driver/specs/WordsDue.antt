-- What is due for words and a text, and what the top call answers, writes and reads.
use Rattle.std.specs.Prelude.{◌≡◌, ◌≢◌, ◌⊎◌, ℕ, false, List, Option, Some, None}
use Rattle.f77_tree.specs.WellFormed.{IsWellFormed}
use Rattle.sample_texts.specs.SampleText.{sample_text}
use Rattle.job_terms.specs.Answers.{Answers, ReadsText}
use Rattle.job_terms.specs.Due.{Due, IsJust, usage}
use Rattle.dfc_jobs.specs.Due.{IsDueRead}
use Rattle.sample_jobs.specs.DueSamples.{IsDueSampleText, sample_limit}
use Rattle.job_terms.specs.Reading.{IfAccepted, IsOwnProgram, reading}
use Rattle.job_laws.specs.Headline.{MeansRead, MeansSampleText}
use Rattle.dfc_driver.specs.Words.{Job, On, Sample, job_of}

-- ---- what is due, and what it means

abbrev pub IsDueFor : Option Job → List ℕ → Due → Type 0
IsDueFor None bytes = IsJust usage
IsDueFor (Some (On task checked)) bytes = IsDueRead task checked (reading checked bytes)
IsDueFor (Some (Sample n)) bytes = IsDueSampleText n sample_limit (sample_text n)

-- this is due for the words and the text
abbrev pub IsDue : List (List ℕ) → List ℕ → Due → Type 0
IsDue words bytes = IsDueFor (job_of words) bytes

-- what is due means this of the program of the text
abbrev pub MeansFor : Option Job → List ℕ → Type 0
MeansFor None bytes = Unit {0}
MeansFor (Some (On task checked)) bytes = MeansRead task checked bytes (reading checked bytes)
MeansFor (Some (Sample n)) bytes = MeansSampleText n sample_limit (sample_text n)

-- where the text is accepted, its program is laid out from its statements, well formed and of the dialect
abbrev pub IsOwnFor : Option Job → List ℕ → Type 0
IsOwnFor None bytes = Unit {0}
IsOwnFor (Some (On task checked)) bytes = IsOwnProgram bytes checked
IsOwnFor (Some (Sample n)) bytes = IfAccepted (reading false (sample_text n)) IsWellFormed

-- ---- what is answered

-- A sample is told by itself, whatever the source tells.
pub record TellsSample (n : ℕ) (old new : Option (List ℕ)) (code : ℕ) : Type 0 where
  pub answers : Answers (IsDueSampleText n sample_limit (sample_text n)) old new code
  pub means : code ≢ 7 → MeansSampleText n sample_limit (sample_text n)
  pub meant : code ≢ 1
  pub reads : code ≢ 5

-- Invalid arguments are told so, unless the sink fails. No other words are.
abbrev pub TellsWords : Option Job → Option (List ℕ) → Option (List ℕ) → ℕ → Type 0
TellsWords None old new code = Answers (IsJust usage) old new code × ((code ≡ 1) ⊎ (code ≡ 6))
TellsWords (Some (On task checked)) old new code = code ≢ 1
TellsWords (Some (Sample n)) old new code = TellsSample n old new code

-- How much of a source was read, by what is left of it: words that ask for no task leave it as it was.
abbrev pub ReadsFor : {A : Type 0} → (A → Option (List ℕ)) → Option Job → A → A → ℕ → Type 0
ReadsFor left None old new code = new ≡ old
ReadsFor left (Some (On task checked)) old new code = ReadsText (left old) (left new) code
ReadsFor left (Some (Sample n)) old new code = new ≡ old
