use Rattle.std.proofs.Common.{◌∙◌}
use Rattle.firing.proofs.ChosenLemmas.{marked_count}
use Rattle.net_board.specs.Tokens.{net_moves}
use Rattle.token_net.specs.NetView.{net_of, tokens_of}
use Rattle.token_net.proofs.net_system.NetStepSystem.ready_count.Goals as goal

pub returns : goal.returns
returns g c = c.len.ensures ∙ marked_count (net_moves (net_of c.args.self.now)) (tokens_of c.args.self.now) (c.requires.keeps.marks c.requires.going)
