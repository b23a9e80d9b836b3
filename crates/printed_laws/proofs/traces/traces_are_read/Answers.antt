use Rattle.job_terms.specs.declared.task.Told.TheVariants.{Nodes}
use Rattle.job_terms.specs.Due.{all_due}
use Rattle.printed_laws.proofs.Limits.{limits_are_small}
use Rattle.printed_laws.proofs.NetFacts.{net_below}
use Rattle.printed_laws.proofs.Parts.{trace_alone}
use Rattle.printed_laws.proofs.TracePrinted.{play_told_by}
use Rattle.printed_laws.proofs.traces.traces_are_read.Goals as goal

pub returns : goal.returns
returns c = λ words p due trace few flow_short net_short.
    let plays = trace.plays in
    let own = plays.played.own in
    let parts = own.own.parts in
    let execs = parts.program.execs in
    let shape = c.flow_graph_has_shape.ensures p.names p.execs p.loops execs in
    let pieces = c.pieces_are_few.ensures p.names p.execs p.loops execs in
    let counted = c.classes_are_counted.ensures p parts.classes parts.own_classes in
    let below = net_below p trace.asked.input own.net own.own pieces counted few net_short.nodes in
    trace_alone (all_due due) (play_told_by p trace.asked due plays below flow_short shape.count (limits_are_small words Nodes trace.asked trace.checked trace.job))
