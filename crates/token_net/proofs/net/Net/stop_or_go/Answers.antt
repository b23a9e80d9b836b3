use Rattle.std.proofs.Common.{◌≡◌, false, subst, sym, rules}
use Rattle.net_board.specs.ControlPlaces.{Leads}
use Rattle.token_net.specs.NetView.{net_of, tokens_of}
use Rattle.token_net.proofs.FireShapes.{over_marking}
use Rattle.token_net.proofs.net.Net.stop_or_go.Goals as goal

pub returns-then-not-touches-clause-marking : goal.returns-then-not-touches-clause-marking
returns-then-not-touches-clause-marking g c =
    let net = net_of c.args.self.now in
    let untouched : net.touches c.args.piece 0 ≡ false = search rules in
    over_marking net (tokens_of c.args.self.now) _ c.args.piece c.first_out-edge.result c.args.trap untouched c.first_out-edge.ensures.edge c.go.ensures.marking

pub returns-then-not-touches-clause-place : goal.returns-then-not-touches-clause-place
returns-then-not-touches-clause-place g c = λ m leads. c.go.ensures.place m (subst (Leads (net_of c.args.self.now) m c.args.k) (sym c.first_out-edge.ensures.edge) leads)

pub returns-clause-place : goal.returns-clause-place
returns-clause-place g c = λ m leads. c.stop.ensures.place m (subst (Leads (net_of c.args.self.now) m c.args.k) (sym c.first_out-edge.ensures.edge) leads)
