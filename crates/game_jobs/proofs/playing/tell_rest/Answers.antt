use Rattle.op_board.specs.OperationCourse.{operation_course}
use Rattle.op_board.specs.OperationTokens.{operation_moves}
use Rattle.op_net.specs.NetView.{net_of}
use Rattle.program_nets.specs.Game.{operation_game}
use Rattle.game_jobs.specs.PlayedNets.{moment_of, way_on}
use Rattle.program_nets.specs.Playing.{way_by}
use Rattle.game_jobs.proofs.GameTold.{has_end, store_begun, store_fault, store_limit, store_told, store_trap}
use Rattle.game_jobs.proofs.playing.tell_rest.Goals as goal

pub returns-in-Ok-clause-due : goal.returns-in-Ok-clause-due
returns-in-Ok-clause-due g c =
    let s = c.args.net.now in
    let w = way_on s c.args.picks.now in
    let last = c.play_game.new.sys in
    let old = g.K.Sink.got c.args.sink.now in
    let mid = g.K.Sink.got c.play_game.new.sink in
    store_told operation_game c.args.program.now w (moment_of s) c.args.limit (moment_of last) old mid c.in-Rest.firings (g.K.Sink.got c.tell_store.new.sink) c.in-Rest.ensures.plays c.in-Ok.ensures.all

pub returns-in-Err-clause-due : goal.returns-in-Err-clause-due
returns-in-Err-clause-due g c =
    let s = c.args.net.now in
    let w = way_on s c.args.picks.now in
    let last = c.play_game.new.sys in
    let old = g.K.Sink.got c.args.sink.now in
    let mid = g.K.Sink.got c.play_game.new.sink in
    store_begun operation_game c.args.program.now w (moment_of s) c.args.limit (moment_of last) old mid c.in-Rest.firings (g.K.Sink.got c.tell_store.new.sink) c.in-Rest.ensures.plays c.in-Err.ensures.prefix

pub returns-in-Trapped-clause-due : goal.returns-in-Trapped-clause-due
returns-in-Trapped-clause-due g c =
    let s = c.args.net.now in
    let w = way_on s c.args.picks.now in
    let old = g.K.Sink.got c.args.sink.now in
    let mid = g.K.Sink.got c.play_game.new.sink in
    store_trap operation_game c.args.program.now w (moment_of s) c.args.limit _ old mid c.in-Trapped.trap c.in-Trapped.line _ _ c.in-Trapped.ensures.plays c.tell_trap.ensures.tells

pub returns-in-Limit-clause-due : goal.returns-in-Limit-clause-due
returns-in-Limit-clause-due g c =
    let s = c.args.net.now in
    let w = way_on s c.args.picks.now in
    let old = g.K.Sink.got c.args.sink.now in
    let mid = g.K.Sink.got c.play_game.new.sink in
    store_limit operation_game c.args.program.now w (moment_of s) c.args.limit _ old mid _ _ c.in-Limit.ensures.plays c.tell_limit.ensures.tells

pub returns-in-WriteFault-clause-due : goal.returns-in-WriteFault-clause-due
returns-in-WriteFault-clause-due g c =
    let s = c.args.net.now in
    let x = net_of s in
    let moves = operation_moves x in
    let course = operation_course x in
    let start = moment_of s in
    let limit = c.args.limit in
    let old = g.K.Sink.got c.args.sink.now in
    let mid = g.K.Sink.got c.play_game.new.sink in
    let order = c.runs_end.ensures.order x start limit c.requires.net.sound c.requires.net.in_step c.requires.net.control in
    let has = has_end moves course start limit order (λ picks. c.runs_end.ensures.picks x picks start limit) c.args.picks.now in
    store_fault operation_game c.args.program.now (way_by moves course c.args.picks.now) start limit _ old mid c.in-WriteFault.field-0 has c.in-WriteFault.ensures.plays
