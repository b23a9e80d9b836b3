-- What was printed of a program is read again.
use Rattle.std.proofs.Common.{◌≡◌, ℕ, Bool, true, false, cond, eqb, List, [], ◌++◌, length, codes, Option, Some, None, is_some, refl, ap, ◌∙◌, append_assoc}
use Rattle.std.proofs.lemmas.Bool.{eqb-true}
use Rattle.std.proofs.lemmas.List.{nil_from_length}
use Rattle.std.specs.Prelude.{IfSome}
use Rattle.printed_graphs.specs.declared.dataflow.PrintedGraph.{PrintedGraph}
use Rattle.printed_graphs.specs.declared.flow.PrintedFlow.{PrintedFlow}
use Rattle.printed_graphs.specs.declared.printed.Printed.{Printed}
use Rattle.printed_graphs.specs.declared.trace.PrintedTrace.{PrintedTrace}
use Rattle.printed_graphs.specs.declared.trace.TraceEnd.{TraceEnd}
use Rattle.printed_graphs.specs.declared.trace.TraceEnd.TheVariants as end
use Rattle.printed_graphs.specs.GraphReading.{graph_at, trace_at, flow_part_at, graph_part_at, trace_part_at, printed_at}
use Rattle.printed_graphs.specs.Printable.{IsPrintableFlow, IsPrintableGraph, IsPrintableTrace, IsPrintable}
use Rattle.printed_graphs.specs.Printed.{flow_part, graph_part, trace_part, printed_text}
use Rattle.printed_graphs.specs.Reading.{after_word, flow_at}
use Rattle.printed_graphs.specs.TraceText.{end_text, trace_text}
use Rattle.printed_graphs.proofs.FlowAgain.{flow_again}
use Rattle.printed_graphs.proofs.GraphAgain.{graph_again}
use Rattle.printed_graphs.proofs.TraceAgain.{trace_front, trace_again}

-- ---- what a trace, or none, does not begin with

end_no_value : (end : TraceEnd) → after_word (codes "V ") (end_text end) ≡ None
unfolding after_word
end_no_value end.Rest = refl
end_no_value (end.Trapped trap line) = refl
end_no_value (end.Limit limit) = refl

end_no_bypass : (end : TraceEnd) → after_word (codes "H ") (end_text end) ≡ None
unfolding after_word
end_no_bypass end.Rest = refl
end_no_bypass (end.Trapped trap line) = refl
end_no_bypass (end.Limit limit) = refl

end_no_lines : (end : TraceEnd) → after_word (codes "LINES") (end_text end) ≡ None
unfolding after_word
end_no_lines end.Rest = refl
end_no_lines (end.Trapped trap line) = refl
end_no_lines (end.Limit limit) = refl

end_no_pieces : (end : TraceEnd) → after_word (codes "PIECES") (end_text end) ≡ None
unfolding after_word
end_no_pieces end.Rest = refl
end_no_pieces (end.Trapped trap line) = refl
end_no_pieces (end.Limit limit) = refl

trace_no_value : (trace : Option PrintedTrace) → IfSome trace IsPrintableTrace → after_word (codes "V ") (trace_part trace) ≡ None
unfolding after_word
trace_no_value None fits = refl
trace_no_value (Some trace) fits = trace_front 86 (codes " ") trace fits refl (end_no_value trace.end)

trace_no_bypass : (trace : Option PrintedTrace) → IfSome trace IsPrintableTrace → after_word (codes "H ") (trace_part trace) ≡ None
unfolding after_word
trace_no_bypass None fits = refl
trace_no_bypass (Some trace) fits = trace_front 72 (codes " ") trace fits refl (end_no_bypass trace.end)

trace_no_lines : (trace : Option PrintedTrace) → IfSome trace IsPrintableTrace → after_word (codes "LINES") (trace_part trace) ≡ None
unfolding after_word
trace_no_lines None fits = refl
trace_no_lines (Some trace) fits = trace_front 76 (codes "INES") trace fits refl (end_no_lines trace.end)

trace_no_pieces : (trace : Option PrintedTrace) → IfSome trace IsPrintableTrace → after_word (codes "PIECES") (trace_part trace) ≡ None
unfolding after_word
trace_no_pieces None fits = refl
trace_no_pieces (Some trace) fits = trace_front 80 (codes "IECES") trace fits refl (end_no_pieces trace.end)

graph_no_pieces : (graph : Option PrintedGraph) (trace : Option PrintedTrace) → IfSome trace IsPrintableTrace → after_word (codes "PIECES") (graph_part graph ++ trace_part trace) ≡ None
unfolding after_word
graph_no_pieces None trace fits = trace_no_pieces trace fits
graph_no_pieces (Some graph) trace fits = refl

-- ---- the parts

flow_part_again : (flow : Option PrintedFlow) (rest : List ℕ) → IfSome flow IsPrintableFlow → after_word (codes "PIECES") rest ≡ None → flow_part_at (flow_part flow ++ rest) ≡ Some rest
unfolding flow_part_at after_word
flow_part_again None rest fits none = ap (λ o. cond (is_some o) (flow_at rest) (Some rest)) none
flow_part_again (Some flow) rest fits none = flow_again flow rest fits

graph_part_again : (graph : Option PrintedGraph) (trace : Option PrintedTrace) → IfSome graph IsPrintableGraph → IfSome trace IsPrintableTrace → graph_part_at (graph_part graph ++ trace_part trace) ≡ Some (trace_part trace)
unfolding graph_part_at after_word
graph_part_again None trace fits fit = ap (λ o. cond (is_some o) (graph_at (trace_part trace)) (Some (trace_part trace))) (trace_no_lines trace fit)
graph_part_again (Some graph) trace fits fit = graph_again graph (trace_part trace) fits (trace_no_value trace fit) (trace_no_bypass trace fit)

empty_or : (text : List ℕ) (b : Bool) → eqb (length text) 0 ≡ b → trace_at text ≡ Some [] → cond b (Some text) (trace_at text) ≡ Some []
empty_or text true empty read = ap Some (nil_from_length text (eqb-true (length text) 0 empty))
empty_or text false empty read = read

trace_part_again : (trace : Option PrintedTrace) → IfSome trace IsPrintableTrace → trace_part_at (trace_part trace) ≡ Some []
unfolding trace_part_at
trace_part_again None fits = refl
trace_part_again (Some trace) fits = empty_or (trace_text trace) (eqb (length (trace_text trace)) 0) refl (trace_again trace fits)

pub printed_again : (printed : Printed) → IsPrintable printed → printed_at (printed_text printed) ≡ Some []
unfolding printed_at
printed_again printed fits =
    let trace = trace_part printed.trace in
    let graph = graph_part printed.graph ++ trace in
    ap printed_at (append_assoc (flow_part printed.flow) (graph_part printed.graph) trace)
    ∙ rw (flow_part_again printed.flow graph fits.flow (graph_no_pieces printed.graph printed.trace fits.trace), graph_part_again printed.graph printed.trace fits.graph fits.trace, trace_part_again printed.trace fits.trace) refl
