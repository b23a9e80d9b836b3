use Rattle.std.proofs.Common.{ap}
use Rattle.printed_graphs.specs.Names.{work_text}
use Rattle.graph_json.specs.Json.{numbers_json}
use Rattle.view_output.proofs.Pieces.{and_last, and_same, and_then}
use Rattle.graph_json.proofs.json_graph.write_work.Goals as goal

pub returns-in_ok-write_numbers-in-Operation : goal.returns-in_ok-write_numbers-in-Operation
returns-in_ok-write_numbers-in-Operation g c =
    let place = and_then c.in_ok-item-in-Operation.ensures c.in_ok-item-in-Operation-2.ensures in
    let work = and_same (work_text c.in-Operation.work) (and_then place c.in_ok-text-in-Operation.ensures) c.in_ok-text-in-Operation-2.ensures c.work_name.ensures in
    let lines = and_same (numbers_json c.in-Operation.lines.items) (and_then work c.in_ok-text-in-Operation-3.ensures) c.in_ok-write_numbers-in-Operation.ensures (ap numbers_json c.as_slice.ensures.value) in
    rw c.in-Operation.is (and_last _ _ c.text-in-Operation-3.result lines c.text-in-Operation-3.ensures)

pub returns-in-Switch : goal.returns-in-Switch
returns-in-Switch g c = rw c.in-Switch.is c.write_leading.ensures

pub returns-in-Merge : goal.returns-in-Merge
returns-in-Merge g c = rw c.in-Merge.is c.write_leading-in-Merge.ensures
