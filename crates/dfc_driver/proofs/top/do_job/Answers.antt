use Rattle.sample_texts.specs.SampleText.{sample_text}
use Rattle.sample_jobs.specs.DueSamples.{sample_limit}
use Rattle.dfc_driver.proofs.TopAnswers.{sample_answers, sample_blames, sample_promises, sample_words}
use Rattle.dfc_driver.proofs.top.do_job.Goals as goal

pub returns-in-Sample-clause-due : goal.returns-in-Sample-clause-due
returns-in-Sample-clause-due g c =
    rw c.in-Sample.is (sample_answers c.in-Sample.n (g.K.Sink.got c.args.sink.now) (g.K.Sink.got c.tell_sample.new.sink) c.tell_sample.result (g.S.Source.left c.args.source.now) c.tell_sample.ensures.due)

pub returns-in-Sample-clause-words : goal.returns-in-Sample-clause-words
returns-in-Sample-clause-words g c =
    let n = c.in-Sample.n in
    rw c.in-Sample.is (sample_words n (g.K.Sink.got c.args.sink.now) (g.K.Sink.got c.tell_sample.new.sink) c.tell_sample.result c.tell_sample.ensures.due
    (λ memory. c.sample_texts_mean.ensures n sample_limit (sample_text n) (c.tell_sample.ensures.own memory)) c.tell_sample.ensures.usage c.tell_sample.ensures.reads)

pub returns-in-Sample-clause-means : goal.returns-in-Sample-clause-means
returns-in-Sample-clause-means g c =
    let n = c.in-Sample.n in
    rw c.in-Sample.is (sample_promises n (g.K.Sink.got c.args.sink.now) (g.K.Sink.got c.tell_sample.new.sink) c.tell_sample.result (g.S.Source.left c.args.source.now)
    (λ memory. c.sample_texts_mean.ensures n sample_limit (sample_text n) (c.tell_sample.ensures.own memory)))

pub returns-in-Sample-clause-blames : goal.returns-in-Sample-clause-blames
returns-in-Sample-clause-blames g c =
    sample_blames c.in-Sample.n (g.K.Sink.got c.args.sink.now) (g.K.Sink.got c.tell_sample.new.sink) c.tell_sample.result (g.S.Source.faults c.args.source.now) (g.K.Sink.faults c.args.sink.now) (g.K.Sink.faults c.tell_sample.new.sink) c.tell_sample.ensures.reads c.tell_sample.ensures.later c.tell_sample.ensures.fault
