use Rattle.std.proofs.Common.{refl, subst}
use Rattle.std.specs.Prelude.{All}
use Rattle.op_table.specs.Words.{IsWord}
use Rattle.net_board.specs.Nodes.{NetOf}
use Rattle.cfg_build.specs.Flow.{flow}
use Rattle.dep_routing.specs.Touch.{touches_in}
use Rattle.firing.specs.declared.playing.Show.{Show}
use Rattle.firing.specs.Play.{moment}
use Rattle.fork_board.specs.ForkTokens.{fork_course, fork_moves}
use Rattle.read_forks.specs.ForkView.{marking_of, net_of, place_of}
use Rattle.job_terms.specs.Answers.{AnswersAs}
use Rattle.game_jobs.specs.DueGames.{IsDuePlay, IsGameOf, shown_by_forks, told_by_forks}
use Rattle.program_nets.specs.Game.{IsGameOn, IsNetOn, fork_game, fork_game_of}
use Rattle.program_nets.specs.Playing.{way_by}
use Rattle.job_terms.specs.Tasks.{asked_in}
use Rattle.job_terms.proofs.AnswersTold.{answers_more}
use Rattle.game_jobs.proofs.GameTold.{forks_told, played_on}
use Rattle.program_nets.proofs.NetParts.{found_parts, found_ranges, net_on}
use Rattle.game_jobs.proofs.forks.play_by_picks.Goals as goal

pub returns-in-Ok-clause-due : goal.returns-in-Ok-clause-due
returns-in-Ok-clause-due g c =
    let p = c.args.program.now in
    let nodes = c.args.nodes in
    let told = told_by_forks nodes in
    let asked = asked_in c.args.asked in
    let found = c.args.analysis.now in
    let touches = touches_in found.touch in
    let lines = found.lines in
    let s = c.in-Ok.net in
    let x = net_of s in
    let made = c.in-Ok.ensures in
    let own : IsNetOn p asked.input x =
    net_on p asked.input touches lines x made.net
    (subst (λ (n : NetOf). All IsWord n.input) made.net made.is_net.is_net.input_words)
    (found_parts p found (flow p.execs) refl c.requires.program c.requires.analysis)
    (found_ranges p found c.requires.analysis)
    c.requires.analysis.rows made.is_net made.outside_pieces made.outside_operations in
    let game = fork_game_of x in
    let is : IsGameOn fork_game p asked.input game = record { net = x; own = own; is = refl } in
    let w = way_by (fork_moves x) (fork_course x) asked.picks in
    let start = moment (marking_of s) (place_of s) in
    let old = g.K.Sink.got c.args.sink.now in
    let new = g.K.Sink.got c.tell_game.new.sink in
    let answers : AnswersAs (IsGameOf w start asked.limit (shown_by_forks nodes)) old new c.tell_game.result =
    subst (λ (show : Show). AnswersAs (IsGameOf w start asked.limit show) old new c.tell_game.result) c.show_of.ensures c.tell_game.ensures.due in
    answers_more (IsGameOf w start asked.limit (shown_by_forks nodes)) (IsDuePlay fork_game told asked p) old new c.tell_game.result
    (λ due is_told. played_on fork_game told asked p game (marking_of s) (place_of s) asked.picks is made.marking made.place refl due (forks_told fork_game nodes p w start asked.limit due is_told))
    answers
