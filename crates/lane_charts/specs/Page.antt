-- A page that shows a program and its runs.
use Rattle.std.specs.Prelude.{◌≡◌, ℕ, List, [], ◌∷◌, map, string_bytes}
use Rattle.printed_graphs.specs.declared.dataflow.PrintedGraph.{PrintedGraph}
use Rattle.printed_graphs.specs.declared.flow.PrintedFlow.{PrintedFlow}
use Rattle.printed_graphs.specs.declared.trace.Firing.{Firing}
use Rattle.round_charts.specs.Picture.{Shows}
use Rattle.lane_charts.specs.declared.pages.Run.{Run}
use Rattle.lane_charts.specs.declared.sections.Section.{Section}
use Rattle.lane_charts.specs.Pictures.{ShowsChart}
use Rattle.lane_charts.specs.Sections.{counts_from, page_html}

abbrev pub node_of : Firing → ℕ
node_of f = f.node

-- a section shows a run: its firings, what it prints, the chart of the program, and its rounds
pub record IsSection (graph : PrintedGraph) (chart : List ℕ) (r : Run) (s : Section) : Type 0 where
  pub name : s.name.now ≡ r.name.now
  pub nodes : s.nodes.items ≡ map node_of r.trace.now.firings.items
  pub counts : s.counts.items ≡ counts_from graph.nodes.items 0 r.trace.now.firings.items
  pub printed : s.printed.now ≡ r.printed.now
  pub chart_in : string_bytes s.chart ≡ chart
  pub rounds : Shows 500 r.trace.now.firings.items r.rounds.now (string_bytes s.rounds)

-- a section for each run, in their order
abbrev pub AreSections : PrintedGraph → (chart : List ℕ) → List Run → List Section → Type 0
AreSections graph chart [] [] = Unit {0}
AreSections graph chart (r ∷ rs) (s ∷ ss) = IsSection graph chart r s × AreSections graph chart rs ss
AreSections graph chart [] (s ∷ ss) = ⊥
AreSections graph chart (r ∷ rs) [] = ⊥

-- a page has a section for each run, in their order, with the chart of the program
pub record IsPage (flow : PrintedFlow) (graph : PrintedGraph) (runs : List Run) (text : List ℕ) : Type 0 where
  pub chart : List ℕ
  pub shows : ShowsChart flow graph chart
  pub sections : List Section
  pub each : AreSections graph chart runs sections
  pub written : text ≡ page_html sections
