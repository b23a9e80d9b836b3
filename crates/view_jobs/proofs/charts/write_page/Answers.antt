use Rattle.std.proofs.Common.{[], rules}
use Rattle.std.specs.Prelude.{codes}
use Rattle.view_jobs.proofs.Drawn.{page_of_one}
use Rattle.view_jobs.proofs.charts.write_page.Goals as goal

pub returns : goal.returns
returns g c = record {
  flow = c.in_ok-flow.flow.now;
  graph = c.in_ok-flow.graph.now;
  flow_is = search rules;
  graph_is = search rules;
  holds = record {
    trace = c.in_ok-trace.trace.now;
    trace_is = search rules;
    holds = page_of_one (codes "The run") c.args.loads c.in_ok-trace.trace.now [] c.in_ok-draw_page.ensures (record { name_is = search rules; trace_is = search rules; rounds_are = search rules; printed_is = search rules });
  };
}
