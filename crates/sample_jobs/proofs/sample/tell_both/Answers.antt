use Rattle.std.proofs.Common.{[], List, ℤ, subst}
use Rattle.f77_meaning.specs.Stepper.{program_of}
use Rattle.firing.specs.Play.{moment}
use Rattle.op_board.specs.OperationCourse.{operation_course}
use Rattle.op_board.specs.OperationTokens.{operation_moves}
use Rattle.op_net.specs.NetView.{marking_of, net_of}
use Rattle.job_terms.specs.Answers.{AnswersAs}
use Rattle.form_jobs.specs.DueForms.{IsDueRunOf}
use Rattle.program_nets.specs.Playing.{way_by}
use Rattle.sample_jobs.proofs.SamplesTold.{both_told, first_told}
use Rattle.sample_jobs.proofs.sample.tell_both.Goals as goal

pub returns-in-Done-clause-due : goal.returns-in-Done-clause-due
returns-in-Done-clause-due g c =
    let x = net_of c.args.net.now in
    let w = way_by (operation_moves x) (operation_course x) [] in
    let start = moment (marking_of c.args.net.now) c.args.net.now.control in
    let form = program_of c.args.run.now in
    let limit = c.args.limit in
    let old = g.K.Sink.got c.args.sink.now in
    let mid = g.K.Sink.got c.tell_game.new.sink in
    let new = g.K.Sink.got c.tell_steps.new.sink in
    both_told w start limit form old mid new c.tell_steps.result c.in-Done.ensures.due
    c.tell_steps.ensures.memory c.tell_steps.ensures.reads
    (subst (λ (input : List ℤ). AnswersAs (λ due. IsDueRunOf form input limit due) mid new c.tell_steps.result) c.requires.input c.tell_steps.ensures.due)

pub returns-in_default-clause-due : goal.returns-in_default-clause-due
returns-in_default-clause-due g c =
    let x = net_of c.args.net.now in
    let w = way_by (operation_moves x) (operation_course x) [] in
    let start = moment (marking_of c.args.net.now) c.args.net.now.control in
    first_told w start c.args.limit (program_of c.args.run.now) (g.K.Sink.got c.args.sink.now) (g.K.Sink.got c.tell_game.new.sink) c.tell_game.result c.in_default.not-Done c.tell_game.ensures.due
