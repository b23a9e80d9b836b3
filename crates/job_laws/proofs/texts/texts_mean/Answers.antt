use Rattle.std.proofs.Common.{ℕ, Bool, List}
use Rattle.f77_tree.specs.declared.programs.Program.{Program}
use Rattle.job_terms.specs.Reading.{IsOf, reading}
use Rattle.job_terms.specs.Tasks.{Task, Regions, Graph, Play, Forks, Regen, Run}
use Rattle.job_laws.specs.Data.{HasWords}
use Rattle.job_laws.specs.Headline.{MeansOn}
use Rattle.job_laws.specs.SourceRuns.{run_of}
use Rattle.job_laws.proofs.TextsMean.{task_means}
use Rattle.job_laws.proofs.texts.texts_mean.Goals as goal

pub returns : goal.returns
returns c = λ task checked bytes own words. task_means c.runs_stop_first.ensures task checked bytes (reading checked bytes) own (c.texts_run_as_programs.ensures bytes checked) (on task checked bytes words)
  where
    on : (task : Task) (checked : Bool) (bytes : List ℕ) → HasWords task → (p : Program) → IsOf bytes checked p → MeansOn task checked p (run_of p)
    on Regions checked bytes words p of = c.regions_mean.ensures p checked of.well_formed
    on Graph checked bytes words p of = c.graphs_mean.ensures p checked of.well_formed
    on (Play told asked) checked bytes words p of = c.games_mean.ensures p told asked checked of.well_formed
    on (Forks nodes asked) checked bytes words p of = c.forks_mean.ensures p nodes asked checked of.well_formed
    on Regen checked bytes words p of = c.regenerated_texts_mean.ensures p checked of.well_formed of.dialect
    on (Run limit input) checked bytes words p of = c.runs_mean.ensures p checked limit input of.well_formed words
