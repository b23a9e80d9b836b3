use Rattle.std.proofs.Common.{subst}
use Rattle.f77_meaning.specs.Stepper.{input_of, program_of}
use Rattle.form_jobs.specs.declared.run.RunEnd.{RunEnd}
use Rattle.form_jobs.specs.Stopping.{IsWritten}
use Rattle.form_jobs.proofs.FormsTold.{end_told, fault_told, limit_told, trap_told}
use Rattle.form_jobs.proofs.run.tell_steps.Goals as goal

pub returns-in-Ok-Ended-clause-due : goal.returns-in-Ok-Ended-clause-due
returns-in-Ok-Ended-clause-due g c =
    let p = program_of c.args.run.now in
    let input = input_of c.args.run.now in
    let old = g.K.Sink.got c.args.sink.now in
    let mid = g.K.Sink.got c.make_steps.new.sink in
    end_told p input c.args.limit old mid (subst (λ (end : RunEnd). IsWritten p input c.args.limit end old mid) c.in-Ok-Ended.field-0-is c.in-Ok-Ended.ensures.told)

pub returns-in-Ok-Trapped-clause-due : goal.returns-in-Ok-Trapped-clause-due
returns-in-Ok-Trapped-clause-due g c =
    let p = program_of c.args.run.now in
    let input = input_of c.args.run.now in
    let old = g.K.Sink.got c.args.sink.now in
    let mid = g.K.Sink.got c.make_steps.new.sink in
    trap_told p input c.args.limit old mid c.in-Ok-Trapped.trap _ _ (subst (λ (end : RunEnd). IsWritten p input c.args.limit end old mid) c.in-Ok-Trapped.field-0-is c.in-Ok-Trapped.ensures.told) c.tell_trap_alone.ensures.tells

pub returns-in-Ok-Limit-clause-due : goal.returns-in-Ok-Limit-clause-due
returns-in-Ok-Limit-clause-due g c =
    let p = program_of c.args.run.now in
    let input = input_of c.args.run.now in
    let old = g.K.Sink.got c.args.sink.now in
    let mid = g.K.Sink.got c.make_steps.new.sink in
    limit_told p input c.args.limit old mid _ _ (subst (λ (end : RunEnd). IsWritten p input c.args.limit end old mid) c.in-Ok-Limit.field-0-is c.in-Ok-Limit.ensures.told) c.tell_limit.ensures.tells

pub returns-in-Err-clause-due : goal.returns-in-Err-clause-due
returns-in-Err-clause-due g c =
    fault_told (program_of c.args.run.now) (input_of c.args.run.now) c.args.limit (g.K.Sink.got c.args.sink.now) (g.K.Sink.got c.make_steps.new.sink) c.in-Err.ensures.begun
