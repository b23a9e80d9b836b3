-- The text of what was printed of a program.
use Rattle.std.specs.Prelude.{ℕ, List, [], ◌++◌, Option, Some, None}
use Rattle.printed_graphs.specs.declared.dataflow.PrintedGraph.{PrintedGraph}
use Rattle.printed_graphs.specs.declared.flow.PrintedFlow.{PrintedFlow}
use Rattle.printed_graphs.specs.declared.printed.Printed.{Printed}
use Rattle.printed_graphs.specs.declared.trace.PrintedTrace.{PrintedTrace}
use Rattle.printed_graphs.specs.DataflowText.{graph_text}
use Rattle.printed_graphs.specs.FlowText.{flow_text}
use Rattle.printed_graphs.specs.TraceText.{trace_text}

abbrev pub flow_part : Option PrintedFlow → List ℕ
flow_part None = []
flow_part (Some flow) = flow_text flow

abbrev pub graph_part : Option PrintedGraph → List ℕ
graph_part None = []
graph_part (Some graph) = graph_text graph

abbrev pub trace_part : Option PrintedTrace → List ℕ
trace_part None = []
trace_part (Some trace) = trace_text trace

-- one after another
abbrev pub printed_text : Printed → List ℕ
printed_text printed = flow_part printed.flow ++ graph_part printed.graph ++ trace_part printed.trace
