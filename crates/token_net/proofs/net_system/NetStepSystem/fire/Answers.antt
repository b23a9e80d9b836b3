use Rattle.std.proofs.Common.{◌<◌, length, sym, subst, ◌∙◌, arith}
use Rattle.firing.specs.Moves.{CanFire}
use Rattle.net_board.specs.Nodes.{NetOf, nodes_of}
use Rattle.net_board.specs.Tokens.{net_moves}
use Rattle.token_net.specs.NetView.{net_of, tokens_of}
use Rattle.token_net.proofs.FiredLemmas.{marks_next, readable, readable_next}
use Rattle.token_net.proofs.net_system.NetStepSystem.fire.Goals as goal

pub fire_node-fired-requires : goal.fire_node-fired-requires
fire_node-fired-requires g c = (omega arith, (c.requires.node, (c.requires.ready, (readable (net_of c.args.self.now) (tokens_of c.args.self.now) c.requires.sound, c.requires.going))))

pub retest-requires : goal.retest-requires
retest-requires g c =
    let net = net_of c.args.self.now in
    let m = tokens_of c.args.self.now in
    let can : CanFire (net_moves net) m c.args.k = record { going = c.requires.going; node = c.requires.node; ready = c.requires.ready } in
    let fired = c.fire_node-fired.ensures in
    let node : c.args.k < length (nodes_of (net_of c.fire_node-fired.new.self)) = subst (λ (n : NetOf). c.args.k < length (nodes_of n)) (sym fired.net) c.requires.node in
    (omega arith, (node, readable_next net (net_of c.fire_node-fired.new.self) m (tokens_of c.fire_node-fired.new.self) c.args.k c.requires.sound can fired.net fired.marking))

pub returns-clause-net : goal.returns-clause-net
returns-clause-net g c = c.retest.ensures.net ∙ c.fire_node-fired.ensures.net

pub returns-clause-keeps : goal.returns-clause-keeps
returns-clause-keeps g c = λ keeps.
    let net = net_of c.args.self.now in
    let m = tokens_of c.args.self.now in
    let fired = c.fire_node-fired.ensures in
    let tested = c.retest.ensures in
    let can : CanFire (net_moves net) m c.args.k = record { going = c.requires.going; node = c.requires.node; ready = c.requires.ready } in
    record {
      kept = tested.kept ∙ fired.kept ∙ keeps.kept;
      marks = λ none. marks_next net m c.args.k c.requires.sound can (net_of c.fire_node-fired.new.self) (net_of c.retest.new.self) (tokens_of c.fire_node-fired.new.self) (tokens_of c.retest.new.self) c.args.self.now.set c.fire_node-fired.new.self.set c.retest.new.self.set fired.net tested.net fired.marking tested.marking fired.marks (tested.marks (fired.kept ∙ keeps.kept)) (keeps.marks c.requires.going) none;
    }
