-- Texts of single values, and one after another.
use Rattle.std.proofs.Common.{◌≡◌, ℕ, List, ◌++◌, Option, Some, None, IfSome, ap, ◌∙◌, append-nil, sym}
use Rattle.printed_graphs.specs.declared.dataflow.PrintedGraph.{PrintedGraph}
use Rattle.printed_graphs.specs.declared.printed.Printed.{Printed}
use Rattle.printed_graphs.specs.declared.trace.PrintedTrace.{PrintedTrace}
use Rattle.printed_graphs.specs.DataflowText.{graph_text}
use Rattle.printed_graphs.specs.Printable.{HasText, IsPrintableGraph, IsPrintableTrace, IsPrintedText}
use Rattle.printed_graphs.specs.Printed.{trace_part}

-- the text is that of a dataflow graph
pub record IsGraphText (text : List ℕ) : Type 0 where
  pub graph : PrintedGraph
  pub fits : IsPrintableGraph graph
  pub is : text ≡ graph_text graph

-- it is that of a trace, or nothing
pub record IsTraceText (text : List ℕ) : Type 0 where
  pub trace : Option PrintedTrace
  pub fits : IfSome trace IsPrintableTrace
  pub some : IfSome trace HasText
  pub is : text ≡ trace_part trace

pub read_alone : (text : List ℕ) → IsGraphText text → IsPrintedText text
read_alone text told =
    let value : Printed = record { flow = None; graph = Some told.graph; trace = None } in
    (value, record { flow = tt; graph = told.fits; trace = tt; text = tt }, told.is ∙ sym (append-nil (graph_text told.graph)))

pub trace_alone : (text : List ℕ) → IsTraceText text → IsPrintedText text
trace_alone text told =
    let value : Printed = record { flow = None; graph = None; trace = told.trace } in
    (value, record { flow = tt; graph = tt; trace = told.fits; text = told.some }, told.is)

pub read_in_turn : (text more : List ℕ) → IsGraphText text → IsTraceText more → IsPrintedText (text ++ more)
read_in_turn text more first second =
    let value : Printed = record { flow = None; graph = Some first.graph; trace = second.trace } in
    (value, record { flow = tt; graph = first.fits; trace = second.fits; text = second.some }, ap (λ l. l ++ more) first.is ∙ ap (λ r. graph_text first.graph ++ r) second.is)
