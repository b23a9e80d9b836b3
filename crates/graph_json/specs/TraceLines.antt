-- A trace as lines of JSON. docs/trace.schema.json is the schema of a line.
use Rattle.std.specs.Prelude.{ℕ, zero, suc, List, [], ◌++◌, Option, Some, None, codes, length, option_and_then, slice_get}
use Rattle.std.specs.Fmt.{decimal}
use Rattle.printed_graphs.specs.declared.dataflow.PrintedGraph.{PrintedGraph}
use Rattle.printed_graphs.specs.declared.flow.PrintedFlow.{PrintedFlow}
use Rattle.printed_graphs.specs.declared.trace.Firing.{Firing}
use Rattle.printed_graphs.specs.declared.trace.PrintedTrace.{PrintedTrace}
use Rattle.printed_graphs.specs.declared.trace.TraceEnd.{TraceEnd}
use Rattle.graph_json.specs.Json.{end_json, or_null, source_of}

-- the line of the text at which the statement of a node begins, where both graphs are known
abbrev pub source_at : Option PrintedFlow → Option PrintedGraph → (node : ℕ) → Option ℕ
source_at flow graph node = option_and_then (λ g. option_and_then (source_of flow) (slice_get g.nodes.items node)) graph

abbrev pub firing_line : Option PrintedFlow → Option PrintedGraph → (node : ℕ) → (round : Option ℕ) → List ℕ
firing_line flow graph node round = codes "{\"node\":" ++ decimal node ++ codes ",\"source\":" ++ or_null decimal (source_at flow graph node) ++ codes ",\"round\":" ++ or_null decimal round ++ codes "}\n"

abbrev pub line_of : Option PrintedFlow → Option PrintedGraph → Option Firing → (round : Option ℕ) → List ℕ
line_of flow graph None round = []
line_of flow graph (Some firing) round = firing_line flow graph firing.node round

-- the lines of the first n firings
abbrev pub first_lines : Option PrintedFlow → Option PrintedGraph → List Firing → (rounds : List ℕ) → ℕ → List ℕ
first_lines flow graph firings rounds zero = []
first_lines flow graph firings rounds (suc n) = first_lines flow graph firings rounds n ++ line_of flow graph (slice_get firings n) (slice_get rounds n)

abbrev pub end_line : TraceEnd → List ℕ
end_line end = codes "{\"end\":" ++ end_json end ++ codes "}\n"

-- a line for each firing, and one for the end
abbrev pub trace_lines : Option PrintedFlow → Option PrintedGraph → PrintedTrace → (rounds : List ℕ) → List ℕ
trace_lines flow graph trace rounds = first_lines flow graph trace.firings.items rounds (length trace.firings.items) ++ end_line trace.end
