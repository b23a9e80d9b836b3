use Rattle.std.proofs.Common.{ap}
use Rattle.graph_json.specs.Json.{in_commas, name_json}
use Rattle.view_output.proofs.Pieces.{and_last, and_same}
use Rattle.graph_json.proofs.json_graph.TokenLineJson.write.Goals as goal

pub returns-in_ok-write_in_commas-in-Class : goal.returns-in_ok-write_in_commas-in-Class
returns-in_ok-write_in_commas-in-Class g c =
    let names = and_same (in_commas name_json c.in-Class.names.items) c.in_ok-text-in-Class.ensures c.in_ok-write_in_commas-in-Class.ensures (ap (in_commas name_json) c.as_slice.ensures.value) in
    rw c.in-Class.is (and_last _ _ c.text-in-Class-2.result names c.text-in-Class-2.ensures)

pub returns-in_ok-item-in-Loop : goal.returns-in_ok-item-in-Loop
returns-in_ok-item-in-Loop g c = rw c.in-Loop.is (and_last _ _ c.text-in-Loop.result c.in_ok-item-in-Loop.ensures c.text-in-Loop.ensures)
