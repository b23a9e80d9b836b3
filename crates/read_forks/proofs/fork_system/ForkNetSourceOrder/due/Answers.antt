use Rattle.std.proofs.Common.{◌∙◌}
use Rattle.read_forks.specs.ForkView.{marking_of, net_of, place_of}
use Rattle.read_forks.proofs.ForkCourses.{due_there}
use Rattle.read_forks.proofs.fork_system.ForkNetSourceOrder.due.Goals as goal

pub returns : goal.returns
returns g c = c.due_node.ensures (marking_of c.args.self.now).operations ∙ due_there (net_of c.args.self.now) (marking_of c.args.self.now) (place_of c.args.self.now)
