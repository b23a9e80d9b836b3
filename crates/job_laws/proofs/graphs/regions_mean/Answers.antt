use Rattle.job_laws.proofs.RegionsMean.{regions_mean}
use Rattle.job_laws.proofs.graphs.regions_mean.Goals as goal

pub returns : goal.returns
returns c = λ p checked well. regions_mean checked p c.one_numbering.ensures c.one_tree.ensures (c.flow_graph_is_strong.ensures p.names p.execs p.loops well.execs)
