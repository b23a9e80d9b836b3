use Rattle.std.proofs.Common.{[]}
use Rattle.printed_laws.proofs.GraphPrinted.{graph_told_by}
use Rattle.printed_laws.proofs.NetFacts.{net_facts}
use Rattle.printed_laws.proofs.Parts.{read_alone}
use Rattle.printed_laws.proofs.graphs.graphs_are_read.Goals as goal

pub returns : goal.returns
returns c = λ p text tells few short flow_short net_short.
    let own = tells.own in
    let classes = own.parts.classes in
    let execs = own.parts.program.execs in
    let strong = c.flow_graph_is_strong.ensures p.names p.execs p.loops execs in
    let pieces = c.pieces_are_few.ensures p.names p.execs p.loops execs in
    let counted = c.classes_are_counted.ensures p classes own.parts.own_classes in
    read_alone text (graph_told_by p classes tells.net text (net_facts p [] tells.net own strong pieces counted c.next_edges.ensures.exists few short flow_short net_short) tells.is)
