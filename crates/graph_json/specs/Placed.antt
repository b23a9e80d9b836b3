-- A node with its place.
use Rattle.std.specs.Prelude.{ℕ, List, ◌++◌, codes}
use Rattle.std.specs.Fmt.{decimal}
use Rattle.graph_json.specs.Json.{or_null, work_json}
use Rattle.graph_json.specs.declared.json_graph.PlacedNode.{PlacedNode}

abbrev pub placed_json : PlacedNode → List ℕ
placed_json placed = codes "{\"source\":" ++ or_null decimal placed.source ++ work_json placed.node.now
