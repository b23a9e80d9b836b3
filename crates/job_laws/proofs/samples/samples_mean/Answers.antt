use Rattle.std.proofs.Common.{false, []}
use Rattle.std.proofs.lemmas.List.Elements.{All-nil}
use Rattle.op_table.specs.Words.{IsWord}
use Rattle.job_terms.specs.declared.task.Told.TheVariants.{Output}
use Rattle.sample_jobs.specs.DueSamples.{up_to}
use Rattle.job_laws.proofs.SamplesMean.{sample_means}
use Rattle.job_laws.proofs.samples.samples_mean.Goals as goal

pub returns : goal.returns
returns c = λ p n bytes limit well. sample_means n bytes limit p
    (c.regions_mean.ensures p false well)
    (c.graphs_mean.ensures p false well)
    (c.games_mean.ensures p Output (up_to limit) false well)
    (c.runs_mean.ensures p false limit [] well (All-nil IsWord))
