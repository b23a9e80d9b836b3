use Rattle.std.proofs.Common.{sym, subst}
use Rattle.firing.specs.declared.playing.Show.TheVariants as show
use Rattle.job_terms.specs.declared.task.Told.{Told}
use Rattle.job_terms.specs.Answers.{AnswersAs}
use Rattle.game_jobs.specs.DueGames.{IsGameOf, IsGameTold}
use Rattle.program_nets.specs.Game.{operation_game}
use Rattle.game_jobs.specs.PlayedNets.{moment_of, way_on}
use Rattle.job_terms.proofs.AnswersTold.{answers_more}
use Rattle.game_jobs.proofs.GameTold.{nodes_told, output_told}
use Rattle.game_jobs.proofs.playing.tell_net.Goals as goal

pub returns-in-Output-clause-due : goal.returns-in-Output-clause-due
returns-in-Output-clause-due g c =
    let s = c.args.net.now in
    let w = way_on s c.args.picks.now in
    let start = moment_of s in
    answers_more (IsGameOf w start c.args.limit show.Output) (IsGameTold operation_game c.args.told c.args.program.now w start c.args.limit) _ _ _
    (output_told operation_game c.args.told c.in-Output.is c.args.program.now w start c.args.limit) c.tell_game.ensures.due

pub returns-in-Nodes-clause-due : goal.returns-in-Nodes-clause-due
returns-in-Nodes-clause-due g c =
    let s = c.args.net.now in
    let w = way_on s c.args.picks.now in
    let start = moment_of s in
    answers_more (IsGameOf w start c.args.limit show.Nodes) (IsGameTold operation_game c.args.told c.args.program.now w start c.args.limit) _ _ _
    (nodes_told operation_game c.args.told c.in-Nodes.is c.args.program.now w start c.args.limit) c.tell_game-in-Nodes.ensures.due

pub returns-in-Store-clause-due : goal.returns-in-Store-clause-due
returns-in-Store-clause-due g c =
    let s = c.args.net.now in
    let w = way_on s c.args.picks.now in
    let start = moment_of s in
    subst (λ (shown_as : Told). AnswersAs (IsGameTold operation_game shown_as c.args.program.now w start c.args.limit) (g.K.Sink.got c.args.sink.now) (g.K.Sink.got c.tell_rest.new.sink) c.tell_rest.result)
    (sym c.in-Store.is) c.tell_rest.ensures.due
