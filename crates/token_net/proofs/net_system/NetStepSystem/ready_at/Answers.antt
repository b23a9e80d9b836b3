use Rattle.std.proofs.Common.{◌<◌, sym, subst}
use Rattle.firing.proofs.ChosenLemmas.{marked_count, marked_place}
use Rattle.net_board.specs.Tokens.{net_moves}
use Rattle.token_net.specs.NetView.{net_of, tokens_of}
use Rattle.token_net.proofs.net_system.NetStepSystem.ready_at.Goals as goal

pub at-requires : goal.at-requires
at-requires g c =
    let all = marked_count (net_moves (net_of c.args.self.now)) (tokens_of c.args.self.now) (c.requires.keeps.marks c.requires.going) in
    subst (λ n. c.args.nth < n) (sym all) c.requires.some

pub returns : goal.returns
returns g c = marked_place (net_moves (net_of c.args.self.now)) (tokens_of c.args.self.now) (c.requires.keeps.marks c.requires.going) c.args.nth c.at.result c.at.ensures
