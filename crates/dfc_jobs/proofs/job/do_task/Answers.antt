use Rattle.std.proofs.Common.{Err, subst}
use Rattle.std.specs.Prelude.{IfSome}
use Rattle.job_terms.specs.declared.reading.NoProgram.{NoProgram}
use Rattle.job_terms.specs.Reading.{IsReadAs, reading}
use Rattle.dfc_jobs.proofs.TextsRead.{no_program, own_program}
use Rattle.dfc_jobs.proofs.job.do_task.Goals as goal

pub returns-in-Ok-clause-own : goal.returns-in-Ok-clause-own
returns-in-Ok-clause-own g c = λ all.
    own_program (g.S.Source.left c.args.source.now) c.args.checked c.in-Ok.program c.in-Ok.ensures.reads c.in-Ok.ensures.statements c.in-Ok.ensures.well_formed c.in-Ok.ensures.dialect

pub returns-in-Err-Refused-clause-own : goal.returns-in-Err-Refused-clause-own
returns-in-Err-Refused-clause-own g c = λ all.
    let left = g.S.Source.left c.args.source.now in
    let checked = c.args.checked in
    no_program left checked c.in-Err-Refused.line c.in-Err-Refused.code
    (subst (λ (none : NoProgram). IfSome left (λ bytes. IsReadAs (reading checked bytes) (Err none))) c.in-Err-Refused.field-0-is c.in-Err-Refused.ensures.reads)
