use Rattle.graph_json.specs.Json.{node_json}
use Rattle.graph_json.specs.Placed.{placed_json}
use Rattle.graph_json.proofs.NodeLists.{one_changed}
use Rattle.graph_json.proofs.json_graph.placed_nodes.Goals as goal

pub loop-node-preserved : goal.loop-node-preserved
loop-node-preserved c =
    one_changed placed_json (node_json c.args.flow.now) c.args.nodes.now c.loop-node.placed.items c.push.new.self.items c.loop-node.node-index c.node-item.result c.placed_node.result c.loop-node-test.true c.node-item.is c.in_ok-push.ensures.items c.placed_node.ensures c.loop-node.invariant
