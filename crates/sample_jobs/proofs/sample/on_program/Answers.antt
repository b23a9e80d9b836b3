use Rattle.std.proofs.Common.{false}
use Rattle.form_jobs.specs.DueForms.{IsDueByEnd}
use Rattle.sample_jobs.specs.DueSamples.{IsDueSample, IsSampleDue}
use Rattle.form_jobs.proofs.FormsTold.{IsEndOf}
use Rattle.job_terms.proofs.AnswersTold.{answers_more}
use Rattle.sample_jobs.proofs.SamplesMade.{end_due, program_due}
use Rattle.sample_jobs.proofs.sample.on_program.Goals as goal

pub returns-in-Ok-clause-due : goal.returns-in-Ok-clause-due
returns-in-Ok-clause-due g c =
    let p = c.args.program.now in
    let s = c.args.sample in
    answers_more (IsSampleDue s.number s.bytes s.limit p) (IsDueSample s.number s.bytes s.limit p) (g.K.Sink.got c.args.sink.now) (g.K.Sink.got c.with_form.new.sink) c.with_form.result
    (program_due s.number s.bytes s.limit p) c.with_form.ensures.due

pub returns-in-Err-clause-due : goal.returns-in-Err-clause-due
returns-in-Err-clause-due g c =
    let p = c.args.program.now in
    let s = c.args.sample in
    let end = c.in-Err.end in
    let is : IsEndOf p false end = record { names = c.in-Err.ensures.names; statements = c.in-Err.ensures.statements; long = c.in-Err.ensures.long } in
    answers_more (IsDueByEnd end) (IsDueSample s.number s.bytes s.limit p) (g.K.Sink.got c.args.sink.now) (g.K.Sink.got c.tell_end.new.sink) c.tell_end.result
    (end_due s.number s.bytes s.limit p end is) c.tell_end.ensures.due
