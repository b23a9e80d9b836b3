use Rattle.std.proofs.Common.{refl, subst}
use Rattle.view_commands.specs.Words.{program_meant}
use Rattle.view_jobs.specs.Files.{OfKnown}
use Rattle.view_jobs.specs.Lowered.{IsFileText}
use Rattle.view_jobs.specs.Programs.{RunsGiven}
use Rattle.view_output.specs.Told.{told}
use Rattle.view_jobs.proofs.Known.{if_ok, with_program, with_report}
use Rattle.view_jobs.proofs.programs.run_file.Goals as goal

pub returns-in-Program : goal.returns-in-Program
returns-in-Program g c =
    let p = program_meant c.args.program in
    let known = g.F.Files.known c.args.files.now p.name in
    let told_at = told g.K.Sink.got in
    let faults_at = told g.E.Sink.got in
    let new = c.run_given.new in
    if_ok c.run_given.result
    (λ status does.
    with_program known p (λ given. RunsGiven p given (told_at c.args.output.now) (told_at new.output) (faults_at c.args.errors.now) (faults_at new.errors) status)
    (told_at c.args.output.now) (told_at new.output) (faults_at c.args.errors.now) (faults_at new.errors) status c.in-Program.given
    (subst (λ read. OfKnown known (λ source. IsFileText p source read)) c.in-Program.is c.in_ok-given.ensures.known) does)
    c.run_given.ensures

pub returns-in-Refused : goal.returns-in-Refused
returns-in-Refused g c =
    let p = program_meant c.args.program in
    let known = g.F.Files.known c.args.files.now p.name in
    let told_at = told g.K.Sink.got in
    let faults_at = told g.E.Sink.got in
    let new = c.tell_refused.new in
    if_ok c.tell_refused.result
    (λ status refused.
    with_report known p (λ given. RunsGiven p given (told_at c.args.output.now) (told_at c.args.output.now) (faults_at c.args.errors.now) (faults_at new.errors) status)
    (told_at c.args.output.now) (told_at c.args.output.now) (faults_at c.args.errors.now) (faults_at new.errors) status c.in-Refused.report c.as_str.result.now c.as_str.ensures.value
    (subst (λ read. OfKnown known (λ source. IsFileText p source read)) c.in-Refused.is c.in_ok-given.ensures.known) refused.0 refused.1 refl)
    c.tell_refused.ensures
