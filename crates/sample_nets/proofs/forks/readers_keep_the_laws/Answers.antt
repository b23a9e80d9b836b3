use Rattle.sample_nets.proofs.ForkLaws.{fork_laws}
use Rattle.sample_nets.proofs.forks.readers_keep_the_laws.Goals as goal

pub returns : goal.returns
returns c = fork_laws
