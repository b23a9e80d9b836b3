use Rattle.std.proofs.Common.{List, ℕ, ◌++◌, ◌∙◌, ap, sym, subst}
use Rattle.closed_walks.specs.Graph.{edge_count}
use Rattle.cfg_build.specs.Joined.{FlowGraph}
use Rattle.df_io.specs.TextBuffer.{IsWrittenBut}
use Rattle.df_io.specs.Write.{AppendsPrefix}
use Rattle.df_io.proofs.LongTexts.{all_out, fault_at_end}
use Rattle.operation_tables.specs.GraphView.{operations_of}
use Rattle.graph_texts.specs.GraphText.{graph_text}
use Rattle.graph_texts.proofs.Texts.{on_error, then_on_error, then_on_ok}
use Rattle.graph_texts.proofs.graph_text.write_graph.Goals as goal

pub returns-in_err-tell_parts-clause-prefix : goal.returns-in_err-tell_parts-clause-prefix
returns-in_err-tell_parts-clause-prefix g c =
    let text = graph_text c.args.program.now c.args.analysis.now.classes (operations_of c.args.net.now) in
    let s0 = g.K.Sink.got c.args.sink.now in
    let s1 = g.K.Sink.got c.tell_parts.new.sink in
    on_error c.from_residual.result (subst (λ (empty : List ℕ). AppendsPrefix s0 s1 (empty ++ text)) c.requires.buffer c.in_err-tell_parts.ensures.prefix)

pub returns-clause-all : goal.returns-clause-all
returns-clause-all g c =
    let text = graph_text c.args.program.now c.args.analysis.now.classes (operations_of c.args.net.now) in
    let s0 = g.K.Sink.got c.args.sink.now in
    let s1 = g.K.Sink.got c.tell_parts.new.sink in
    let held = c.tell_parts.new.buffer in
    let told : IsWrittenBut held s0 s1 text = subst (λ (empty : List ℕ). IsWrittenBut held s0 s1 (empty ++ text)) c.requires.buffer c.in_ok-tell_parts.ensures.text in
    then_on_ok c.write_out.result (all_out s0 s1 (g.K.Sink.got c.write_out.new.sink) held text told) c.write_out.ensures.all

pub returns-clause-prefix : goal.returns-clause-prefix
returns-clause-prefix g c =
    let text = graph_text c.args.program.now c.args.analysis.now.classes (operations_of c.args.net.now) in
    let s0 = g.K.Sink.got c.args.sink.now in
    let s1 = g.K.Sink.got c.tell_parts.new.sink in
    let held = c.tell_parts.new.buffer in
    let told : IsWrittenBut held s0 s1 text = subst (λ (empty : List ℕ). IsWrittenBut held s0 s1 (empty ++ text)) c.requires.buffer c.in_ok-tell_parts.ensures.text in
    then_on_error c.write_out.result (fault_at_end s0 s1 (g.K.Sink.got c.write_out.new.sink) held text told) c.write_out.ensures.prefix

pub tell_parts-requires-clause-edges : goal.tell_parts-requires-clause-edges
tell_parts-requires-clause-edges g c =
    c.requires.analysis.routing.edges ∙ ap (λ (f : FlowGraph). edge_count f.graph) (sym c.requires.analysis.own_flow)
