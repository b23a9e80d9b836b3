use Rattle.cfg_build.specs.Flow.{flow}
use Rattle.printed_laws.proofs.FlowPrinted.{flow_read}
use Rattle.printed_laws.proofs.regions.regions_are_read.Goals as goal

pub returns : goal.returns
returns c = λ p text well short tells.
    let execs = well.execs in
    let shape = c.flow_graph_has_shape.ensures p.names p.execs p.loops execs in
    let strong = c.flow_graph_is_strong.ensures p.names p.execs p.loops execs in
    let few = c.pieces_are_few.ensures p.names p.execs p.loops execs in
    flow_read (flow p.execs) tells.classes tells.tree text short strong.sound few shape.count tells.numbering tells.regions tells.is
