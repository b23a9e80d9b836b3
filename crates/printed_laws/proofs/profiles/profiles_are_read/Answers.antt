use Rattle.std.proofs.Common.{[]}
use Rattle.job_terms.specs.declared.task.Told.TheVariants.{Nodes}
use Rattle.job_terms.specs.Due.{all_due}
use Rattle.printed_laws.proofs.GraphPrinted.{graph_told_by}
use Rattle.printed_laws.proofs.Limits.{limits_are_small}
use Rattle.printed_laws.proofs.NetFacts.{net_below, net_facts}
use Rattle.printed_laws.proofs.Parts.{read_in_turn}
use Rattle.printed_laws.proofs.TracePrinted.{play_told_by}
use Rattle.printed_laws.proofs.profiles.profiles_are_read.Goals as goal

pub returns : goal.returns
returns c = λ words p text due tells trace few short flow_short net_short game_short.
    let plays = trace.plays in
    let own = tells.own in
    let classes = own.parts.classes in
    let execs = own.parts.program.execs in
    let strong = c.flow_graph_is_strong.ensures p.names p.execs p.loops execs in
    let shape = c.flow_graph_has_shape.ensures p.names p.execs p.loops execs in
    let pieces = c.pieces_are_few.ensures p.names p.execs p.loops execs in
    let counted = c.classes_are_counted.ensures p classes own.parts.own_classes in
    let game = plays.played.own in
    let game_counted = c.classes_are_counted.ensures p game.own.parts.classes game.own.parts.own_classes in
    let below = net_below p trace.asked.input game.net game.own pieces game_counted few game_short.nodes in
    read_in_turn text (all_due due)
    (graph_told_by p classes tells.net text (net_facts p [] tells.net own strong pieces counted c.next_edges.ensures.exists few short flow_short net_short) tells.is)
    (play_told_by p trace.asked due plays below flow_short shape.count (limits_are_small words Nodes trace.asked trace.checked trace.job))
