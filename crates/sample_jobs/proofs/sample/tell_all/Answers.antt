use Rattle.std.proofs.Common.{[]}
use Rattle.f77_meaning.specs.Stepper.{program_of}
use Rattle.firing.specs.Play.{moment}
use Rattle.op_board.specs.OperationCourse.{operation_course}
use Rattle.op_board.specs.OperationTokens.{operation_moves}
use Rattle.op_net.specs.NetView.{marking_of, net_of}
use Rattle.program_nets.specs.Playing.{way_by}
use Rattle.sample_jobs.specs.Samples.{AreBothOf, sizes_text}
use Rattle.game_jobs.proofs.GameTold.{has_end}
use Rattle.sample_jobs.proofs.SamplesTold.{fault_within, has_both, told_after}
use Rattle.sample_jobs.proofs.sample.tell_all.Goals as goal

pub returns-in-Ok-clause-due : goal.returns-in-Ok-clause-due
returns-in-Ok-clause-due g c =
    let x = net_of c.args.net.now in
    let found = c.args.analysis.now in
    let w = way_by (operation_moves x) (operation_course x) [] in
    let start = moment (marking_of c.args.net.now) c.args.net.now.control in
    told_after (sizes_text c.args.sample.number c.args.sample.bytes found.flow found.edge_classes.items found.tree x)
    (AreBothOf w start c.args.sample.limit (program_of c.args.run.now))
    (g.K.Sink.got c.args.sink.now) (g.K.Sink.got c.tell_sizes.new.sink) (g.K.Sink.got c.tell_both.new.sink) c.tell_both.result
    c.in-Ok.ensures.all c.tell_both.ensures.memory c.tell_both.ensures.reads c.tell_both.ensures.due

pub returns-in-Err-clause-due : goal.returns-in-Err-clause-due
returns-in-Err-clause-due g c =
    let x = net_of c.args.net.now in
    let found = c.args.analysis.now in
    let w = way_by (operation_moves x) (operation_course x) [] in
    let start = moment (marking_of c.args.net.now) c.args.net.now.control in
    let limit = c.args.sample.limit in
    let form = program_of c.args.run.now in
    let order = c.runs_end.ensures.order x start limit c.requires.sound c.requires.in_step c.requires.control in
    let has = has_end (operation_moves x) (operation_course x) start limit order (λ picks. c.runs_end.ensures.picks x picks start limit) [] in
    let both = has_both w start limit form has in
    fault_within (sizes_text c.args.sample.number c.args.sample.bytes found.flow found.edge_classes.items found.tree x)
    (AreBothOf w start limit form) (g.K.Sink.got c.args.sink.now) (g.K.Sink.got c.tell_sizes.new.sink) both.due both.is c.in-Err.ensures.prefix
