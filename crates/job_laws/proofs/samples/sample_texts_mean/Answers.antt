use Rattle.std.proofs.Common.{false, length}
use Rattle.job_terms.specs.Reading.{reading}
use Rattle.job_laws.proofs.TextsMean.{sample_means}
use Rattle.job_laws.proofs.samples.sample_texts_mean.Goals as goal

pub returns : goal.returns
returns c = λ n limit text well. sample_means n (length text) limit (reading false text) well (λ p is. c.samples_mean.ensures p n (length text) limit is)
