use Rattle.std.proofs.Common.{rules, map, Some, ap, ◌∙◌}
use Rattle.std.specs.String.{string_bytes}
use Rattle.dfc_driver.specs.Meant.{job_meant}
use Rattle.dfc_driver.specs.Words.{job_of}
use Rattle.dfc_driver.proofs.TopAnswers.{answers_on, words_on}
use Rattle.dfc_driver.proofs.top.dfc_main.Goals as goal

pub returns-in-Some-clause-due : goal.returns-in-Some-clause-due
returns-in-Some-clause-due g c =
    let same = c.in-Some.ensures.job ∙ ap (λ words. job_of (map string_bytes words)) c.deref.ensures.value in
    answers_on (g.S.Source.left c.args.source.now) (Some (job_meant c.in-Some.job)) (job_of (map string_bytes c.args.words.now.items)) (g.K.Sink.got c.args.sink.now) (g.K.Sink.got c.do_job-status.new.sink) c.do_job-status.result _ same (search rules) c.do_job-status.ensures.due

pub returns-in-Some-clause-words : goal.returns-in-Some-clause-words
returns-in-Some-clause-words g c =
    let same = c.in-Some.ensures.job ∙ ap (λ words. job_of (map string_bytes words)) c.deref.ensures.value in
    words_on (Some (job_meant c.in-Some.job)) (job_of (map string_bytes c.args.words.now.items)) (g.K.Sink.got c.args.sink.now) (g.K.Sink.got c.do_job-status.new.sink) c.do_job-status.result _ same (search rules) c.do_job-status.ensures.words
