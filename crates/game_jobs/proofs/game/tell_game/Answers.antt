use Rattle.firing.specs.Play.{moment}
use Rattle.program_nets.specs.Playing.{way_by}
use Rattle.game_jobs.proofs.GameTold.{fault_told, has_end, limit_told, rest_told, trap_told}
use Rattle.game_jobs.proofs.game.tell_game.Goals as goal

pub returns-in-Rest-clause-due : goal.returns-in-Rest-clause-due
returns-in-Rest-clause-due g c =
    let y = g.S.StepSystem in
    let net = y.net c.args.sys.now in
    let old = g.K.Sink.got c.args.sink.now in
    let mid = g.K.Sink.got c.play_game.new.sink in
    rest_told (way_by (y.moves net) (y.course net) c.args.picks.now) (moment (y.marking c.args.sys.now) (y.place c.args.sys.now)) c.args.limit c.args.show _ old mid c.in-Rest.field-0 c.in-Rest.ensures.plays

pub returns-in-Trapped-clause-due : goal.returns-in-Trapped-clause-due
returns-in-Trapped-clause-due g c =
    let y = g.S.StepSystem in
    let net = y.net c.args.sys.now in
    let old = g.K.Sink.got c.args.sink.now in
    let mid = g.K.Sink.got c.play_game.new.sink in
    trap_told (way_by (y.moves net) (y.course net) c.args.picks.now) (moment (y.marking c.args.sys.now) (y.place c.args.sys.now)) c.args.limit c.args.show _ old mid c.in-Trapped.trap c.in-Trapped.line _ _ c.in-Trapped.ensures.plays c.tell_trap.ensures.tells

pub returns-in-Limit-clause-due : goal.returns-in-Limit-clause-due
returns-in-Limit-clause-due g c =
    let y = g.S.StepSystem in
    let net = y.net c.args.sys.now in
    let old = g.K.Sink.got c.args.sink.now in
    let mid = g.K.Sink.got c.play_game.new.sink in
    limit_told (way_by (y.moves net) (y.course net) c.args.picks.now) (moment (y.marking c.args.sys.now) (y.place c.args.sys.now)) c.args.limit c.args.show _ old mid _ _ c.in-Limit.ensures.plays c.tell_limit.ensures.tells

pub returns-in-WriteFault-clause-due : goal.returns-in-WriteFault-clause-due
returns-in-WriteFault-clause-due g c =
    let y = g.S.StepSystem in
    let net = y.net c.args.sys.now in
    let old = g.K.Sink.got c.args.sink.now in
    let mid = g.K.Sink.got c.play_game.new.sink in
    let start = moment (y.marking c.args.sys.now) (y.place c.args.sys.now) in
    let w = way_by (y.moves net) (y.course net) c.args.picks.now in
    let limit = c.args.limit in
    let order = c.runs_end.ensures.order net start limit c.requires.sound c.requires.in_step c.requires.control in
    let has = has_end (y.moves net) (y.course net) start limit order (λ picks. c.runs_end.ensures.picks net picks start limit) c.args.picks.now in
    fault_told w start limit c.args.show _ old mid c.in-WriteFault.field-0 has (λ j m e run le going. c.runs_end.ensures.longest w start limit j m e run le going) c.in-WriteFault.ensures.plays
