-- What tasks mean of texts, from what they mean of programs.
use Rattle.std.proofs.Common.{ℕ, Bool, List}
use Rattle.f77_tree.specs.declared.programs.Program.{Program}
use Rattle.f77_tree.specs.WellFormed.{IsWellFormed}
use Rattle.f77_source.specs.Reading.{IsProgramOf}
use Rattle.job_terms.specs.Reading.{Reading, Accepted, IfAccepted, IsOf, Refused}
use Rattle.job_terms.specs.Tasks.{Task}
use Rattle.job_laws.specs.GameLaws.{StopFirst}
use Rattle.job_laws.specs.Headline.{MeansOn, MeansRead, MeansSample, MeansSampleRead}
use Rattle.job_laws.specs.SourceRuns.{RunsAs, run_of}
use Rattle.job_laws.proofs.OtherRuns.{accepted_means}

-- what a task means of the program of a text it means of the text
pub task_means : StopFirst → (task : Task) (checked : Bool) (bytes : List ℕ) (read : Reading) → IfAccepted read (IsOf bytes checked) → ((p : Program) → IsProgramOf bytes checked p → RunsAs bytes checked p)
    → ((p : Program) → IsOf bytes checked p → MeansOn task checked p (run_of p)) → MeansRead task checked bytes read
task_means stop_first task checked bytes (Refused line code) own runs means = tt
task_means stop_first task checked bytes (Accepted p) own runs means = accepted_means stop_first task checked bytes p (runs p own.statements) (means p own)

pub sample_means : (n size limit : ℕ) (read : Reading) → IfAccepted read IsWellFormed → ((p : Program) → IsWellFormed p → MeansSample n size limit p) → MeansSampleRead n size limit read
sample_means n size limit (Refused line code) well means = tt
sample_means n size limit (Accepted p) well means = means p well
