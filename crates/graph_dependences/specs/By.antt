-- What dependences of nodes are looked for by.
use Rattle.std.specs.Prelude.{◌≡◌, ◌↔◌, ℕ, true, false, slice_get, slice_index_or}
use Rattle.closed_walks.specs.Walk.{Reach, no_edge}
use Rattle.graph_dependences.specs.Joined.{fired, joined}
use Rattle.graph_dependences.specs.Nodes.{is_output_line}
use Rattle.graph_dependences.specs.Ways.{ways_of}
use Rattle.graph_dependences.specs.declared.kinds.Passing.TheVariants as passing
use Rattle.graph_dependences.specs.declared.pairs.By.{By}
use Rattle.graph_dependences.specs.declared.pairs.Known.{Known}

-- its ways are those of its line, and it tells whether that is the line of output
pub record IsBy (by : By) : Type 0 where
  pub ways : by.ways.now ≡ ways_of by.graph.now by.flow.now by.line
  pub output : by.is_output ≡ is_output_line (slice_get by.graph.now.lines.items by.line)

-- the marks tell what is reached along the steps from a node
abbrev pub IsKnown : By → (first : ℕ) → Known → Type 0
IsKnown by first known = (v : ℕ) → (slice_index_or known.reached.marks.items v false ≡ true) ↔ Reach (joined by.graph.now passing.Readers by.line known.steps.items) no_edge (fired first false) v
