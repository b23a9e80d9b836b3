-- What is told of dependences: an old text, and a new one with this after it.
use Rattle.std.specs.Prelude.{ℕ, List, Option, flat_map}
use Rattle.printed_graphs.specs.declared.dataflow.PrintedGraph.{PrintedGraph}
use Rattle.printed_graphs.specs.declared.flow.PrintedFlow.{PrintedFlow}
use Rattle.graph_dependences.specs.Dependences.{AreDependences}
use Rattle.graph_dependences.specs.Waiting.{Waits}
use Rattle.graph_dependences.specs.declared.dependence.Dependence.{Dependence}
use Rattle.graph_dependences.specs.declared.fault.DependenceFault.{DependenceFault}
use Rattle.graph_dependences.specs.declared.fault.DependenceFault.TheVariants as dependence_fault
use Rattle.graph_dependences.specs.declared.waiting.Wait.{Wait}
use Rattle.view_output.specs.Told.{Adds}
use Rattle.view_output.specs.declared.fault.Fault.{Fault}
use Rattle.view_output.specs.declared.fault.Fault.TheVariants as fault
use Rattle.dependence_texts.specs.Json.{dependences_json}
use Rattle.dependence_texts.specs.Lines.{dependence_text, independence_text}

pub record ToldDependences (g : PrintedGraph) (flow : PrintedFlow) (old new : Option (List ℕ)) : Type 0 where
  pub all : List Dependence
  pub are_all : AreDependences g flow all
  pub lines : Adds old new (flat_map (dependence_text g) all)

pub record ToldJson (g : PrintedGraph) (flow : PrintedFlow) (old new : Option (List ℕ)) : Type 0 where
  pub all : List Dependence
  pub are_all : AreDependences g flow all
  pub object : Adds old new (dependences_json g all)

pub record ToldIndependence (g : PrintedGraph) (flow : PrintedFlow) (first second : ℕ) (old new : Option (List ℕ)) : Type 0 where
  pub forth : Wait
  pub back : Wait
  pub is_forth : Waits g flow first second forth
  pub is_back : Waits g flow second first back
  pub line : Adds old new (independence_text first second forth back)

-- why nothing is told
abbrev pub fault_of : DependenceFault → Fault
fault_of dependence_fault.TooLarge = fault.TooLong
fault_of dependence_fault.NoMemory = fault.NoMemory
