use Rattle.std.proofs.Common.{◌≡◌, [], refl, sym, subst}
use Rattle.firing.specs.declared.playing.Show.{Show}
use Rattle.net_board.specs.ControlCourse.{first_control}
use Rattle.op_net.specs.NetView.{marking_of, net_of}
use Rattle.fork_board.specs.ForkTokens.{first_fork_tokens}
use Rattle.fork_board.specs.OwnRuns.{fork_start, fork_way}
use Rattle.job_terms.specs.Answers.{AnswersAs}
use Rattle.game_jobs.specs.DueGames.{IsDuePlay, IsGameOf, shown_by_forks, told_by_forks}
use Rattle.program_nets.specs.Game.{IsGameOn, fork_game, fork_game_of}
use Rattle.job_terms.specs.Tasks.{asked_in}
use Rattle.game_jobs.specs.PlayedNets.{IsOpeningNet, moment_of, way_on}
use Rattle.job_terms.proofs.AnswersTold.{answers_more}
use Rattle.game_jobs.proofs.GameTold.{forks_told, played_on}
use Rattle.game_jobs.proofs.OwnForks.{opening_game}
use Rattle.game_jobs.proofs.forks.play_in_turn.Goals as goal
use Rattle.std.specs.Prelude.{Some}

pub returns-in-Ok-clause-due : goal.returns-in-Ok-clause-due
returns-in-Ok-clause-due g c =
    let p = c.args.program.now in
    let nodes = c.args.nodes in
    let told = told_by_forks nodes in
    let show = shown_by_forks nodes in
    let asked = asked_in c.args.asked in
    let s = c.in-Ok.net in
    let x = net_of s in
    let made : IsOpeningNet p asked.input s = c.in-Ok.ensures in
    let game = fork_game_of x in
    let is : IsGameOn fork_game p asked.input game = record { net = x; own = made.is_net; is = refl } in
    let picks = asked.picks in
    let no_picks : picks ≡ [] = c.requires.in_turn in
    let none_asked : [] ≡ asked.picks = sym c.requires.in_turn in
    let start = moment_of s in
    let old = g.K.Sink.got c.args.sink.now in
    let new = g.K.Sink.got c.tell_game.new.sink in
    let answers : AnswersAs (IsGameOf (way_on s picks) start asked.limit show) old new c.tell_game.result =
    subst (λ (shown_as : Show). AnswersAs (IsGameOf (way_on s picks) start asked.limit shown_as) old new c.tell_game.result) c.show_of.ensures c.tell_game.ensures.due in
    answers_more (IsGameOf (way_on s picks) start asked.limit show) (IsDuePlay fork_game told asked p) old new c.tell_game.result
    (λ due is_told. played_on fork_game told asked p game (first_fork_tokens x) (Some (first_control x.net)) [] is refl refl none_asked due
    (forks_told fork_game nodes p (fork_way x) (fork_start x) asked.limit due
    (opening_game x (c.own_runs_are_alike.ensures x made.is_net.operations) (marking_of s) s.control picks made.marking made.place no_picks asked.limit show due is_told)))
    answers
