-- What pictures of a program and of its runs are.
use Rattle.std.specs.Prelude.{◌≡◌, ℕ, Bool, true, false, List, [], ◌∷◌, Option, Some}
use Rattle.lane_charts.specs.Page.{IsPage}
use Rattle.lane_charts.specs.declared.pages.Run.{Run}
use Rattle.printed_graphs.specs.declared.dataflow.PrintedGraph.{PrintedGraph}
use Rattle.printed_graphs.specs.declared.flow.PrintedFlow.{PrintedFlow}
use Rattle.printed_graphs.specs.declared.printed.Printed.{Printed}
use Rattle.printed_graphs.specs.declared.trace.PrintedTrace.{PrintedTrace}
use Rattle.round_charts.specs.Picture.{Shows}
use Rattle.trace_profiles.specs.RunRounds.{rounds_from}
use Rattle.trace_profiles.specs.declared.loads.Loads.{Loads}
use Rattle.trace_profiles.specs.declared.loads.Loads.TheVariants as loads
use Rattle.view_commands.specs.RunWords.{forks_apart}
use Rattle.view_output.specs.Told.{Adds}

-- Both graphs are there, and this is so of them.
pub record OfGraphs (printed : Printed) (Holds : PrintedFlow → PrintedGraph → Type 0) : Type 0 where
  pub flow : PrintedFlow
  pub graph : PrintedGraph
  pub flow_is : printed.flow ≡ Some flow
  pub graph_is : printed.graph ≡ Some graph
  pub holds : Holds flow graph

-- A trace is there, and this is so of it.
pub record OfTrace (printed : Printed) (Holds : PrintedTrace → Type 0) : Type 0 where
  pub trace : PrintedTrace
  pub trace_is : printed.trace ≡ Some trace
  pub holds : Holds trace

-- both graphs and a trace
abbrev pub OfRun : (printed : Printed) → (Holds : PrintedFlow → PrintedGraph → PrintedTrace → Type 0) → Type 0
OfRun printed Holds = OfGraphs printed (λ flow graph. OfTrace printed (Holds flow graph))

-- Such a text was added.
pub record Draws (Is : List ℕ → Type 0) (told now : Option (List ℕ)) : Type 0 where
  pub text : List ℕ
  pub is : Is text
  pub added : Adds told now text

-- how loads fire in a run, with `forks` or without
abbrev pub loads_with : (forks : Bool) → Loads
loads_with true = loads.InAnyOrder
loads_with false = loads.InOrder

-- the same by the words that tell the run
abbrev pub loads_of : (words : List (List ℕ)) → Loads
loads_of words = loads_with (forks_apart words).1

-- the rounds of a run, as they follow from its trace
abbrev pub rounds_by : PrintedGraph → Loads → PrintedTrace → List ℕ
rounds_by graph order trace = rounds_from graph order [] trace.firings.items

abbrev pub ShowsRounds : PrintedGraph → Loads → PrintedTrace → (text : List ℕ) → Type 0
ShowsRounds graph order trace text = Shows 500 trace.firings.items (rounds_by graph order trace) text

-- ---- pages

-- A run as a page has it: its name, its trace and the rounds of that, and what it prints.
pub record IsRun (name : List ℕ) (trace : PrintedTrace) (rounds output : List ℕ) (r : Run) : Type 0 where
  pub name_is : r.name.now ≡ name
  pub trace_is : r.trace.now ≡ trace
  pub rounds_are : r.rounds.now ≡ rounds
  pub printed_is : r.printed.now ≡ output

-- a page with this run alone
pub record IsPageOfOne (name : List ℕ) (flow : PrintedFlow) (graph : PrintedGraph) (order : Loads) (trace : PrintedTrace) (output text : List ℕ) : Type 0 where
  pub run : Run
  pub is : IsRun name trace (rounds_by graph order trace) output run
  pub page : IsPage flow graph (run ∷ []) text
