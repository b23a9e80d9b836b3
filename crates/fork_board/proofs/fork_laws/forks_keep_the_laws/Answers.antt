use Rattle.fork_board.proofs.ForkLaws.{forks_lawful}
use Rattle.fork_board.proofs.fork_laws.forks_keep_the_laws.Goals as goal

pub returns : goal.returns
returns c = forks_lawful
