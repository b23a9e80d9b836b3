use Rattle.std.proofs.Common.{ℕ, List, ◌∙◌, subst}
use Rattle.job_terms.specs.Answers.{AnswersAs}
use Rattle.sample_jobs.specs.DueSamples.{IsDueSampleText, sample_limit}
use Rattle.sample_jobs.proofs.sample.tell_sample.Goals as goal

pub returns-in-Ok-clause-due : goal.returns-in-Ok-clause-due
returns-in-Ok-clause-due g c =
    let old = g.K.Sink.got c.args.sink.now in
    let new = g.K.Sink.got c.on_text.new.sink in
    subst (λ (text : List ℕ). AnswersAs (IsDueSampleText c.args.n sample_limit text) old new c.on_text.result) (c.as_slice.ensures.value ∙ c.in-Ok.ensures) c.on_text.ensures.due
