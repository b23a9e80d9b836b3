use Rattle.job_laws.proofs.GameLaws.{game_means}
use Rattle.job_laws.proofs.games.games_mean.Goals as goal

pub returns : goal.returns
returns c = λ p what asked checked well. game_means c.game_laws.ensures what asked checked p (c.flow_graph_is_strong.ensures p.names p.execs p.loops well.execs)
