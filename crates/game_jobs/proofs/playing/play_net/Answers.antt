use Rattle.std.proofs.Common.{refl}
use Rattle.op_net.specs.NetView.{marking_of, net_of}
use Rattle.game_jobs.specs.DueGames.{IsDuePlay, IsGameTold}
use Rattle.program_nets.specs.Game.{IsGameOn, game_of, operation_game}
use Rattle.job_terms.specs.Tasks.{asked_in}
use Rattle.game_jobs.specs.PlayedNets.{IsOpeningNet, moment_of, way_on}
use Rattle.job_terms.proofs.AnswersTold.{answers_more}
use Rattle.game_jobs.proofs.GameTold.{played_on}
use Rattle.game_jobs.proofs.playing.play_net.Goals as goal

pub returns-in-Ok-clause-due : goal.returns-in-Ok-clause-due
returns-in-Ok-clause-due g c =
    let p = c.args.program.now in
    let told = c.args.told in
    let asked = asked_in c.args.asked in
    let s = c.in-Ok.net in
    let made : IsOpeningNet p asked.input s = c.in-Ok.ensures in
    let game = game_of (net_of s) in
    let is : IsGameOn operation_game p asked.input game = record { net = net_of s; own = made.is_net; is = refl } in
    answers_more (IsGameTold operation_game told p (way_on s asked.picks) (moment_of s) asked.limit) (IsDuePlay operation_game told asked p)
    (g.K.Sink.got c.args.sink.now) (g.K.Sink.got c.tell_net.new.sink) c.tell_net.result
    (λ due tells. played_on operation_game told asked p game (marking_of s) s.control asked.picks is made.marking made.place refl due tells)
    c.tell_net.ensures.due
