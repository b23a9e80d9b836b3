use Rattle.std.proofs.Common.{◌<◌, sym, subst, ◌∙◌, arith}
use Rattle.closed_walks.specs.Graph.{edge_count}
use Rattle.net_board.specs.Nodes.{graph_in}
use Rattle.op_board.specs.OperationNets.{OperationNet}
use Rattle.op_net.specs.NetView.{marking_of}
use Rattle.op_net.proofs.NextNets.{place_told}
use Rattle.op_net.proofs.net_system.OpNetStepSystem.fire.Goals as goal

pub fire_node-fired-requires : goal.fire_node-fired-requires
fire_node-fired-requires g c = (omega arith, (c.requires.node, (c.requires.ready, (c.requires.sound.is_marking.tokens.memory, c.requires.going))))

pub steered-self-requires : goal.steered-self-requires
steered-self-requires g c =
    let did = c.fire_node-fired in
    (omega arith, (did.new.self.placed, subst (λ (y : OperationNet). did.result.1 < edge_count (graph_in y.net)) (sym did.ensures.net) did.ensures.edge))

pub returns-clause-place : goal.returns-clause-place
returns-clause-place g c =
    let did = c.fire_node-fired in
    place_told did.ensures.net did.new.self.control c.args.self.now.control c.steered-self.result c.args.k did.result.1 did.ensures.control c.steered-self.ensures.steered (marking_of c.args.self.now) did.ensures.leads

pub returns-clause-keeps : goal.returns-clause-keeps
returns-clause-keeps g c = λ keeps.
    let kept = c.fire_node-fired.ensures.kept in
    record { counted = kept.counted ∙ keeps.counted; whole = kept.apart ∙ keeps.whole }

pub invariant_of-self : goal.invariant_of-self
invariant_of-self g c =
    let fired = c.fire_node-fired.new.self in
    record {
      own_places = fired.own_places;
      counted = fired.counted;
      «data» = fired.data;
      text_room = fired.text_room;
      draft_room = fired.draft_room;
      args_room = fired.args_room;
      values_room = fired.values_room;
      placed = c.steered-self.ensures.placed;
    }
