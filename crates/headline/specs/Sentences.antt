-- What each job does with a text, said in one place: exactly what is due, and what this means for the runs of the text.
use Rattle.std.specs.Prelude.{◌≡◌, ℕ, Bool, List, Option, IfSome}
use Rattle.f77_tree.specs.declared.programs.Program.{Program}
use Rattle.job_terms.specs.declared.status.Status.{Status}
use Rattle.job_terms.specs.Answers.{AnswersAs}
use Rattle.job_terms.specs.Due.{Due, refusal}
use Rattle.dfc_jobs.specs.Due.{IsDueOn}
use Rattle.job_terms.specs.Reading.{Reading, Accepted, Refused, reading}
use Rattle.job_terms.specs.Tasks.{Task}
use Rattle.job_laws.specs.Headline.{Means}
use Rattle.job_laws.specs.SourceRuns.{AreRunsOf, RunsAs, SourceRuns}

-- This is due of the task on the program of a text, and nothing else is. The text has runs, all alike; and this is what is promised of
-- each of them (`Means` has a row for each task): a run is that of the one unit, or that of several units with a frame for each CALL,
-- over any storage that obeys their declarations.
pub record SaysOn (task : Task) (checked : Bool) (text : List ℕ) (p : Program) (due : Due) : Type 0 where
  pub is : IsDueOn task checked p due
  pub only : (other : Due) → IsDueOn task checked p other → other ≡ due
  pub has_runs : RunsAs text checked p
  pub means : (runs : SourceRuns) → AreRunsOf text checked p runs → Means task checked p runs due

-- A text that is refused is told so, by a code and the line.
abbrev pub SaysRead : Task → (checked : Bool) → (text : List ℕ) → Reading → Due → Type 0
SaysRead task checked text (Refused line code) due = due ≡ refusal line code
SaysRead task checked text (Accepted p) due = SaysOn task checked text p due

-- The sentence of a task: it says what is due on the text.
abbrev pub Says : Task → (checked : Bool) → (text : List ℕ) → Due → Type 0
Says task checked text = SaysRead task checked text (reading checked text)

-- What a job answers and writes after what a sink has got, where the source tells its text: what the sentence of the task says, or a part
-- of it after a fault.
abbrev pub Does : Task → (checked : Bool) → (text old new : Option (List ℕ)) → Status → Type 0
Does task checked text old new status = IfSome text (λ bytes. AnswersAs (Says task checked bytes) old new status)
