use Rattle.fork_board.proofs.ForkLaws.{forks_begin}
use Rattle.fork_board.proofs.fork_laws.forks_begin_soundly.Goals as goal

pub returns : goal.returns
returns c = forks_begin c.operation_nets_begin_soundly.ensures
