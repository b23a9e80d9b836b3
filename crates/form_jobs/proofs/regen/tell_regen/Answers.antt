use Rattle.std.proofs.Common.{List, ℕ, subst, sym}
use Rattle.rewriting.specs.Rewritten.{IsRewrittenText}
use Rattle.form_jobs.specs.DueForms.{IsDueByEnd, IsDueRegen}
use Rattle.job_terms.specs.Due.{IsJust, done}
use Rattle.form_jobs.proofs.FormsTold.{end_of_text, no_form_due, rewritten_text_due}
use Rattle.job_terms.proofs.AnswersTold.{answers_more}
use Rattle.form_jobs.proofs.regen.tell_regen.Goals as goal

pub returns-in-Ok-clause-due : goal.returns-in-Ok-clause-due
returns-in-Ok-clause-due g c =
    let p = c.args.program.now in
    let checked = c.args.checked in
    let text = c.as_slice.result.now in
    let is = subst (λ (bytes : List ℕ). IsRewrittenText p checked bytes) (sym c.as_slice.ensures.value) c.in-Ok.ensures.text in
    answers_more (IsJust (done text)) (IsDueRegen p checked) (g.K.Sink.got c.args.sink.now) (g.K.Sink.got c.tell_text.new.sink) c.tell_text.result
    (λ due told. rewritten_text_due p checked text is due told) c.tell_text.ensures.tells.answers

pub returns-in-Err-clause-due : goal.returns-in-Err-clause-due
returns-in-Err-clause-due g c =
    let p = c.args.program.now in
    let checked = c.args.checked in
    let end = c.in-Err.end in
    let is = end_of_text p checked end c.in-Err.ensures.names c.in-Err.ensures.statements c.in-Err.ensures.long in
    answers_more (IsDueByEnd end) (IsDueRegen p checked) (g.K.Sink.got c.args.sink.now) (g.K.Sink.got c.tell_end.new.sink) c.tell_end.result
    (λ due told. no_form_due p checked end is due told) c.tell_end.ensures.due
