-- A lane chart that is laid out: each statement and each mark stands on it once, and nothing stands outside its page.
use Rattle.std.specs.Prelude.{◌≡◌, [], All, map}
use Rattle.lane_parts.specs.declared.chart.Chart.{Chart}
use Rattle.printed_graphs.specs.declared.dataflow.PrintedGraph.{PrintedGraph}
use Rattle.printed_graphs.specs.declared.flow.PrintedFlow.{PrintedFlow}
use Rattle.lane_layout.specs.declared.page.Page.{Page}
use Rattle.lane_layout.specs.declared.spots.Places.{Places}
use Rattle.lane_layout.specs.Page.{IsFrameOn, IsNameOn, IsNoteOn, IsStatementOn, IsWayOn, line_in}
use Rattle.lane_layout.specs.Rows.{lines_after}
use Rattle.lane_layout.specs.Spots.{IsMarkOn, spot_in, spots_from}

-- the page of a chart
abbrev pub page_of : Chart → Page
page_of chart = record { width = chart.width; height = chart.height }

-- everything on a chart stands on its page
pub record IsOnPage (chart : Chart) : Type 0 where
  pub statements : All (IsStatementOn (page_of chart)) chart.statements.items
  pub frames : All (IsFrameOn (page_of chart)) chart.frames.items
  pub notes : All (IsNoteOn (page_of chart)) chart.notes.items
  pub ways : All (IsWayOn (page_of chart)) chart.ways.items
  pub names : All (IsNameOn (page_of chart)) chart.names.items
  pub marks : All (IsMarkOn chart.width chart.height) chart.marks.items

pub record IsLaidOut (flow : PrintedFlow) (graph : PrintedGraph) (chart : Chart) : Type 0 where
  -- each statement once, in the order of the pieces
  pub statements : map line_in chart.statements.items ≡ lines_after [] 0 flow.pieces.items
  -- each token line that a node takes has a mark of the node, in the order of the nodes
  pub places : Places
  pub marks : map spot_in chart.marks.items ≡ spots_from places 0 graph.nodes.items
  pub inside : IsOnPage chart
