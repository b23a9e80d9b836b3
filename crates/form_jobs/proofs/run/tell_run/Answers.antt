use Rattle.form_jobs.specs.DueForms.{IsDueByEnd, IsDueRun}
use Rattle.form_jobs.proofs.FormsTold.{IsEndOf, no_run_due}
use Rattle.job_terms.proofs.AnswersTold.{answers_more}
use Rattle.form_jobs.proofs.run.tell_run.Goals as goal

pub returns-in-Err-clause-due : goal.returns-in-Err-clause-due
returns-in-Err-clause-due g c =
    let p = c.args.program.now in
    let checked = c.args.checked in
    let input = c.args.input.now.items in
    let limit = c.args.limit in
    let end = c.in-Err.end in
    let is : IsEndOf p checked end = record { names = c.in-Err.ensures.names; statements = c.in-Err.ensures.statements; long = c.in-Err.ensures.long } in
    answers_more (IsDueByEnd end) (IsDueRun p checked input limit) (g.K.Sink.got c.args.sink.now) (g.K.Sink.got c.tell_end.new.sink) c.tell_end.result
    (λ due told. no_run_due p checked input limit end is due told) c.tell_end.ensures.due
