use Rattle.std.proofs.Common.{rules}
use Rattle.view_jobs.proofs.charts.write_chart.Goals as goal

pub returns : goal.returns
returns g c = record {
  flow = c.in_ok-flow.flow.now;
  graph = c.in_ok-flow.graph.now;
  flow_is = search rules;
  graph_is = search rules;
  holds = search rules;
}
