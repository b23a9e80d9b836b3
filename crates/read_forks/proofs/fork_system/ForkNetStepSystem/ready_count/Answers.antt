use Rattle.std.proofs.Common.{ap, ◌∙◌}
use Rattle.firing.specs.ReadySet.{member_count}
use Rattle.firing.proofs.ChosenLemmas.{marked_count}
use Rattle.fork_board.specs.ForkTokens.{fork_moves}
use Rattle.read_forks.specs.ForkView.{marking_of, net_of}
use Rattle.read_forks.proofs.fork_system.ForkNetStepSystem.ready_count.Goals as goal

pub returns : goal.returns
returns g c = c.len.ensures ∙ ap member_count c.marked.ensures ∙ marked_count (fork_moves (net_of c.args.self.now)) (marking_of c.args.self.now) c.requires.keeps.marks
