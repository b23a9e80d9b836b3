use Rattle.std.proofs.Common.{ap}
use Rattle.graph_json.specs.Json.{in_commas, operand_json}
use Rattle.view_output.proofs.Pieces.{and_last, and_same, and_then}
use Rattle.graph_json.proofs.json_graph.ValueJson.write.Goals as goal

pub returns : goal.returns
returns g c =
    let operands = and_same (in_commas operand_json c.args.self.now.operands.items) (and_then c.in_ok-item.ensures c.in_ok-text.ensures) c.in_ok-write_in_commas.ensures (ap (in_commas operand_json) c.as_slice.ensures.value) in
    and_last _ _ c.text-2.result operands c.text-2.ensures
