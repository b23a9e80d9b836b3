-- What is shown of a text and of a program.
use Rattle.std.specs.Prelude.{◌≡◌, ℕ, Bool, true, false, List, [], Option, None, Some, Vec, codes, option_map, unwrap_or}
use Rattle.std.specs.declared.alloc.Global.{Global}
use Rattle.std.specs.Io.KnownBytes.{Consumes, IsAtEnd}
use Rattle.printed_graphs.specs.declared.dataflow.PrintedGraph.{PrintedGraph}
use Rattle.printed_graphs.specs.declared.printed.Printed.{Printed}
use Rattle.printed_graphs.specs.declared.trace.PrintedTrace.{PrintedTrace}
use Rattle.printed_graphs.specs.Printable.{IsPrintable}
use Rattle.printed_graphs.specs.Printed.{printed_text}
use Rattle.printed_graphs.specs.declared.flow.PrintedFlow.{PrintedFlow}
use Rattle.graph_json.specs.Json.{printed_json}
use Rattle.graph_json.specs.TraceLines.{trace_lines}
use Rattle.graph_pictures.specs.FlowDot.{flow_dot}
use Rattle.graph_pictures.specs.GraphDot.{graph_dot}
use Rattle.trace_profiles.specs.Profiles.{profile_text}
use Rattle.trace_profiles.specs.declared.loads.Loads.{Loads}
use Rattle.trace_profiles.specs.declared.loads.Loads.TheVariants as loads
use Rattle.view_output.specs.declared.shown_lines.Lines.{Lines}
use Rattle.lane_charts.specs.Pictures.{ShowsChart}
use Rattle.source_maps.specs.Places.{Map}
use Rattle.source_maps.specs.Told.{TellsSource}
use Rattle.view_jobs.specs.Drawn.{Draws, IsPageOfOne, OfGraphs, OfRun, OfTrace, ShowsRounds, rounds_by}
use Rattle.view_output.specs.Told.{Adds}
use Rattle.dependence_texts.specs.Told.{ToldDependences, ToldIndependence, ToldJson}
use Rattle.view_commands.specs.Words.{Shown, Chart, Dependences, DependencesJson, Dot, Independent, Json, JsonTrace, Page, Profile, Regions, Rounds, lines_meant}

-- the round of each firing of a trace, where the graph is known
abbrev pub rounds_in : Loads → Option PrintedGraph → Option PrintedTrace → Option (List ℕ)
rounds_in order (Some graph) (Some trace) = Some (rounds_by graph order trace)
rounds_in order _ _ = None

-- All of it was added, with the rounds.
pub record ShowsJson (order : Loads) (printed : Printed) (told now : Option (List ℕ)) : Type 0 where
  pub rounds : Option (Vec ℕ Global)
  pub are : option_map (λ all. all.items) rounds ≡ rounds_in order printed.graph printed.trace
  pub added : Adds told now (printed_json printed rounds)

-- all firings were added, with the rounds where they are known
abbrev pub ShowsTrace : Loads → Printed → PrintedTrace → (told now : Option (List ℕ)) → Type 0
ShowsTrace order printed trace told now = Adds told now (trace_lines printed.flow printed.graph trace (unwrap_or (rounds_in order printed.graph printed.trace) []))

-- The flow graph was drawn.
pub record DrawsFlow (with_regions : Bool) (printed : Printed) (told now : Option (List ℕ)) : Type 0 where
  pub flow : PrintedFlow
  pub is : printed.flow ≡ Some flow
  pub added : Adds told now (flow_dot flow with_regions)

-- The dataflow graph was drawn, with the wires of the flow graph where there is one.
pub record DrawsGraph (numbers : Option (List ℕ)) (printed : Printed) (graph : PrintedGraph) (told now : Option (List ℕ)) : Type 0 where
  pub lines : Lines
  pub meant : lines_meant lines ≡ numbers
  pub added : Adds told now (graph_dot graph printed.flow lines)

-- the dataflow graph was drawn, or else the flow graph
abbrev pub DrawsDot : (numbers : Option (List ℕ)) → Printed → Option PrintedGraph → (told now : Option (List ℕ)) → Type 0
DrawsDot numbers printed (Some graph) told now = DrawsGraph numbers printed graph told now
DrawsDot None printed None told now = DrawsFlow false printed told now
DrawsDot (Some numbers) printed None told now = ⊥

-- The profile of the trace was added.
pub record ShowsProfile (order : Loads) (printed : Printed) (told now : Option (List ℕ)) : Type 0 where
  pub graph : PrintedGraph
  pub trace : PrintedTrace
  pub graph_is : printed.graph ≡ Some graph
  pub trace_is : printed.trace ≡ Some trace
  pub added : Adds told now (profile_text graph order trace.firings.items)

-- what is shown of a value that was printed, of which loads fire in this order
abbrev pub ShowsOf : Shown → Loads → Printed → (told now : Option (List ℕ)) → Type 0
ShowsOf Chart order printed told now = OfGraphs printed (λ flow graph. Draws (ShowsChart flow graph) told now)
ShowsOf Rounds order printed told now = OfRun printed (λ flow graph trace. Draws (ShowsRounds graph order trace) told now)
ShowsOf Page order printed told now = OfRun printed (λ flow graph trace. Draws (IsPageOfOne (codes "The run") flow graph order trace []) told now)
ShowsOf Regions order printed told now = DrawsFlow true printed told now
ShowsOf (Dot numbers) order printed told now = DrawsDot numbers printed printed.graph told now
ShowsOf Json order printed told now = ShowsJson order printed told now
ShowsOf JsonTrace order printed told now = OfTrace printed (λ trace. ShowsTrace order printed trace told now)
ShowsOf Profile order printed told now = ShowsProfile order printed told now
ShowsOf Dependences order printed told now = OfGraphs printed (λ flow graph. ToldDependences graph flow told now)
ShowsOf DependencesJson order printed told now = OfGraphs printed (λ flow graph. ToldJson graph flow told now)
ShowsOf (Independent first second) order printed told now = OfGraphs printed (λ flow graph. ToldIndependence graph flow first second told now)

-- The text is that of a value that can be printed.
pub record IsTextOf (text : List ℕ) (printed : Printed) : Type 0 where
  pub printable : IsPrintable printed
  pub is : text ≡ printed_text printed

-- A value was printed so, with lines and names of the source.
pub record IsSeen (m : Map) (text : List ℕ) (seen : Printed) : Type 0 where
  pub printed : Printed
  pub is : IsTextOf text printed
  pub tells : TellsSource m printed seen

-- All of the source was the text of a value that can be printed, and this is shown of that.
pub record ShowsSource (shown : Shown) (left rest told now : Option (List ℕ)) : Type 0 where
  pub printed : Printed
  pub printable : IsPrintable printed
  pub taken : Consumes left rest (printed_text printed)
  pub end : IsAtEnd rest
  pub shows : ShowsOf shown loads.InOrder printed told now
