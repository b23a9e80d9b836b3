use Rattle.job_laws.proofs.GameLaws.{forks_mean}
use Rattle.job_laws.proofs.games.forks_mean.Goals as goal

pub returns : goal.returns
returns c = λ p nodes asked checked well. forks_mean c.fork_game_laws.ensures nodes asked checked p (c.flow_graph_is_strong.ensures p.names p.execs p.loops well.execs)
