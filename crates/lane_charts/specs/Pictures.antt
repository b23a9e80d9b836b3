-- What the pictures of a program show.
use Rattle.std.specs.Prelude.{◌≡◌, ℕ, List}
use Rattle.lane_layout.specs.Chart.{IsLaidOut}
use Rattle.lane_parts.specs.Chart.{chart_svg}
use Rattle.lane_parts.specs.declared.chart.Chart.{Chart}
use Rattle.printed_graphs.specs.declared.dataflow.PrintedGraph.{PrintedGraph}
use Rattle.printed_graphs.specs.declared.flow.PrintedFlow.{PrintedFlow}

-- a text is that of a chart on which each statement and each mark of a program stands once, on its page
pub record ShowsChart (flow : PrintedFlow) (graph : PrintedGraph) (text : List ℕ) : Type 0 where
  pub chart : Chart
  pub laid_out : IsLaidOut flow graph chart
  pub drawn : text ≡ chart_svg chart
