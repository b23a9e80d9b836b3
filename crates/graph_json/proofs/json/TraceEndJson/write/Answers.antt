use Rattle.printed_graphs.specs.Names.{trap_text}
use Rattle.view_output.proofs.Pieces.{and_last, and_same, and_then}
use Rattle.graph_json.proofs.json.TraceEndJson.write.Goals as goal

pub returns-in_ok-item-in-Trapped : goal.returns-in_ok-item-in-Trapped
returns-in_ok-item-in-Trapped g c =
    let trap = and_same (trap_text c.in-Trapped.trap) c.in_ok-text-in-Trapped.ensures c.in_ok-text-in-Trapped-2.ensures c.trap_name.ensures in
    rw c.in-Trapped.is (and_last _ _ c.text-in-Trapped-3.result (and_then trap c.in_ok-item-in-Trapped.ensures) c.text-in-Trapped-3.ensures)

pub returns-in_ok-number-in-Limit : goal.returns-in_ok-number-in-Limit
returns-in_ok-number-in-Limit g c = rw c.in-Limit.is (and_last _ _ c.text-in-Limit-2.result (and_then c.in_ok-text-in-Limit.ensures c.in_ok-number-in-Limit.ensures) c.text-in-Limit-2.ensures)
