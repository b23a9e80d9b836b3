use Rattle.job_laws.proofs.GraphMeans.{graph_means}
use Rattle.job_laws.proofs.OneNet.{OneOfEach}
use Rattle.job_laws.proofs.graphs.graphs_mean.Goals as goal

pub returns : goal.returns
returns c =
    let each : OneOfEach = record { classes = c.one_numbering.ensures; touching = c.one_range_touching.ensures; routing = c.one_routing.ensures.one } in
    λ p checked well. graph_means each p (c.flow_graph_is_strong.ensures p.names p.execs p.loops well.execs) checked
