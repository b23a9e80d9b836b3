use Rattle.std.proofs.Common.{◌≡◌, ◌++◌, ◌∙◌, ap, sym, subst}
use Rattle.closed_walks.specs.Graph.{Graph, edge_count}
use Rattle.cfg_build.specs.Joined.{FlowGraph}
use Rattle.dep_routing.specs.Routing.{Routing}
use Rattle.net_board.specs.Nodes.{NetOf, graph_in}
use Rattle.operation_tables.specs.GraphView.{operations_of}
use Rattle.graph_texts.specs.GraphText.{hop_lines, line_lines, node_lines, size_line, value_lines, wire_lines}
use Rattle.graph_texts.specs.EdgeTables.{AreBypasses, AreWires}
use Rattle.graph_texts.proofs.GraphParts.{hops_told, size_text, size_told, wires_told}
use Rattle.graph_texts.proofs.Telling.{begun, begun_fault, fault_before, fault_more, told_more}
use Rattle.graph_texts.proofs.Texts.{on_error, then_on_error, then_on_ok}
use Rattle.graph_texts.proofs.graph_text.tell_parts.Goals as goal

pub returns-in_err-tell_size-clause-prefix : goal.returns-in_err-tell_size-clause-prefix
returns-in_err-tell_size-clause-prefix g c =
    let first = c.args.buffer.now in
    let p = c.args.program.now in
    let found = c.args.analysis.now in
    let x = operations_of c.args.net.now in
    let routing : found.lines ≡ x.net.routing = ap (λ (n : NetOf). n.routing) (sym c.requires.own) in
    let graph : c.graph-graph.result.now ≡ graph_in x.net = c.graph-graph.ensures ∙ ap (λ (f : FlowGraph). f.graph) c.requires.analysis.own_flow ∙ ap graph_in (sym c.requires.own) in
    let size : size_text c.lines-lines.result c.nodes.result ≡ size_line x = size_told x c.lines-lines.result c.nodes.result (c.lines-lines.ensures ∙ ap (λ (r : Routing). r.lines) routing) c.nodes.ensures in
    let t0 = size_line x in
    let t1 = line_lines p found.classes in
    let t2 = node_lines x in
    let t3 = value_lines x in
    let t4 = wire_lines (graph_in x.net) x.net.routing in
    let t5 = hop_lines (graph_in x.net) x.net.routing in
    let s0 = g.K.Sink.got c.args.sink.now in
    let s1 = g.K.Sink.got c.tell_size.new.sink in
    on_error c.from_residual.result (fault_before s0 s1 first (t0 ++ t1 ++ t2 ++ t3 ++ t4) t5 (fault_before s0 s1 first (t0 ++ t1 ++ t2 ++ t3) t4 (fault_before s0 s1 first (t0 ++ t1 ++ t2) t3 (fault_before s0 s1 first (t0 ++ t1) t2 (fault_before s0 s1 first t0 t1 (begun_fault s0 s1 first (size_text c.lines-lines.result c.nodes.result) t0 size c.in_err-tell_size.ensures.prefix))))))

pub returns-in_err-tell_lines-clause-prefix : goal.returns-in_err-tell_lines-clause-prefix
returns-in_err-tell_lines-clause-prefix g c =
    let first = c.args.buffer.now in
    let p = c.args.program.now in
    let found = c.args.analysis.now in
    let x = operations_of c.args.net.now in
    let routing : found.lines ≡ x.net.routing = ap (λ (n : NetOf). n.routing) (sym c.requires.own) in
    let graph : c.graph-graph.result.now ≡ graph_in x.net = c.graph-graph.ensures ∙ ap (λ (f : FlowGraph). f.graph) c.requires.analysis.own_flow ∙ ap graph_in (sym c.requires.own) in
    let size : size_text c.lines-lines.result c.nodes.result ≡ size_line x = size_told x c.lines-lines.result c.nodes.result (c.lines-lines.ensures ∙ ap (λ (r : Routing). r.lines) routing) c.nodes.ensures in
    let t0 = size_line x in
    let t1 = line_lines p found.classes in
    let t2 = node_lines x in
    let t3 = value_lines x in
    let t4 = wire_lines (graph_in x.net) x.net.routing in
    let t5 = hop_lines (graph_in x.net) x.net.routing in
    let s0 = g.K.Sink.got c.args.sink.now in
    let s1 = g.K.Sink.got c.tell_size.new.sink in
    let s2 = g.K.Sink.got c.tell_lines.new.sink in
    let w1 = begun s0 s1 first c.tell_size.new.buffer (size_text c.lines-lines.result c.nodes.result) t0 size c.in_ok-tell_size.ensures.text in
    on_error c.from_residual-in_err-tell_lines.result (fault_before s0 s2 first (t0 ++ t1 ++ t2 ++ t3 ++ t4) t5 (fault_before s0 s2 first (t0 ++ t1 ++ t2 ++ t3) t4 (fault_before s0 s2 first (t0 ++ t1 ++ t2) t3 (fault_before s0 s2 first (t0 ++ t1) t2 (fault_more s0 s1 s2 first c.tell_size.new.buffer t0 t1 w1 c.in_err-tell_lines.ensures.prefix)))))

pub returns-in_err-tell_nodes-clause-prefix : goal.returns-in_err-tell_nodes-clause-prefix
returns-in_err-tell_nodes-clause-prefix g c =
    let first = c.args.buffer.now in
    let p = c.args.program.now in
    let found = c.args.analysis.now in
    let x = operations_of c.args.net.now in
    let routing : found.lines ≡ x.net.routing = ap (λ (n : NetOf). n.routing) (sym c.requires.own) in
    let graph : c.graph-graph.result.now ≡ graph_in x.net = c.graph-graph.ensures ∙ ap (λ (f : FlowGraph). f.graph) c.requires.analysis.own_flow ∙ ap graph_in (sym c.requires.own) in
    let size : size_text c.lines-lines.result c.nodes.result ≡ size_line x = size_told x c.lines-lines.result c.nodes.result (c.lines-lines.ensures ∙ ap (λ (r : Routing). r.lines) routing) c.nodes.ensures in
    let t0 = size_line x in
    let t1 = line_lines p found.classes in
    let t2 = node_lines x in
    let t3 = value_lines x in
    let t4 = wire_lines (graph_in x.net) x.net.routing in
    let t5 = hop_lines (graph_in x.net) x.net.routing in
    let s0 = g.K.Sink.got c.args.sink.now in
    let s1 = g.K.Sink.got c.tell_size.new.sink in
    let s2 = g.K.Sink.got c.tell_lines.new.sink in
    let s3 = g.K.Sink.got c.tell_nodes.new.sink in
    let w1 = begun s0 s1 first c.tell_size.new.buffer (size_text c.lines-lines.result c.nodes.result) t0 size c.in_ok-tell_size.ensures.text in
    let w2 = told_more s0 s1 s2 first c.tell_size.new.buffer c.tell_lines.new.buffer t0 t1 w1 c.in_ok-tell_lines.ensures.text in
    on_error c.from_residual-in_err-tell_nodes.result (fault_before s0 s3 first (t0 ++ t1 ++ t2 ++ t3 ++ t4) t5 (fault_before s0 s3 first (t0 ++ t1 ++ t2 ++ t3) t4 (fault_before s0 s3 first (t0 ++ t1 ++ t2) t3 (fault_more s0 s2 s3 first c.tell_lines.new.buffer (t0 ++ t1) t2 w2 c.in_err-tell_nodes.ensures.prefix))))

pub returns-in_err-tell_values-clause-prefix : goal.returns-in_err-tell_values-clause-prefix
returns-in_err-tell_values-clause-prefix g c =
    let first = c.args.buffer.now in
    let p = c.args.program.now in
    let found = c.args.analysis.now in
    let x = operations_of c.args.net.now in
    let routing : found.lines ≡ x.net.routing = ap (λ (n : NetOf). n.routing) (sym c.requires.own) in
    let graph : c.graph-graph.result.now ≡ graph_in x.net = c.graph-graph.ensures ∙ ap (λ (f : FlowGraph). f.graph) c.requires.analysis.own_flow ∙ ap graph_in (sym c.requires.own) in
    let size : size_text c.lines-lines.result c.nodes.result ≡ size_line x = size_told x c.lines-lines.result c.nodes.result (c.lines-lines.ensures ∙ ap (λ (r : Routing). r.lines) routing) c.nodes.ensures in
    let t0 = size_line x in
    let t1 = line_lines p found.classes in
    let t2 = node_lines x in
    let t3 = value_lines x in
    let t4 = wire_lines (graph_in x.net) x.net.routing in
    let t5 = hop_lines (graph_in x.net) x.net.routing in
    let s0 = g.K.Sink.got c.args.sink.now in
    let s1 = g.K.Sink.got c.tell_size.new.sink in
    let s2 = g.K.Sink.got c.tell_lines.new.sink in
    let s3 = g.K.Sink.got c.tell_nodes.new.sink in
    let s4 = g.K.Sink.got c.tell_values.new.sink in
    let w1 = begun s0 s1 first c.tell_size.new.buffer (size_text c.lines-lines.result c.nodes.result) t0 size c.in_ok-tell_size.ensures.text in
    let w2 = told_more s0 s1 s2 first c.tell_size.new.buffer c.tell_lines.new.buffer t0 t1 w1 c.in_ok-tell_lines.ensures.text in
    let w3 = told_more s0 s2 s3 first c.tell_lines.new.buffer c.tell_nodes.new.buffer (t0 ++ t1) t2 w2 c.in_ok-tell_nodes.ensures.text in
    on_error c.from_residual-in_err-tell_values.result (fault_before s0 s4 first (t0 ++ t1 ++ t2 ++ t3 ++ t4) t5 (fault_before s0 s4 first (t0 ++ t1 ++ t2 ++ t3) t4 (fault_more s0 s3 s4 first c.tell_nodes.new.buffer (t0 ++ t1 ++ t2) t3 w3 c.in_err-tell_values.ensures.prefix)))

pub returns-in_err-tell_wires-clause-prefix : goal.returns-in_err-tell_wires-clause-prefix
returns-in_err-tell_wires-clause-prefix g c =
    let first = c.args.buffer.now in
    let p = c.args.program.now in
    let found = c.args.analysis.now in
    let x = operations_of c.args.net.now in
    let routing : found.lines ≡ x.net.routing = ap (λ (n : NetOf). n.routing) (sym c.requires.own) in
    let graph : c.graph-graph.result.now ≡ graph_in x.net = c.graph-graph.ensures ∙ ap (λ (f : FlowGraph). f.graph) c.requires.analysis.own_flow ∙ ap graph_in (sym c.requires.own) in
    let size : size_text c.lines-lines.result c.nodes.result ≡ size_line x = size_told x c.lines-lines.result c.nodes.result (c.lines-lines.ensures ∙ ap (λ (r : Routing). r.lines) routing) c.nodes.ensures in
    let t0 = size_line x in
    let t1 = line_lines p found.classes in
    let t2 = node_lines x in
    let t3 = value_lines x in
    let t4 = wire_lines (graph_in x.net) x.net.routing in
    let t5 = hop_lines (graph_in x.net) x.net.routing in
    let s0 = g.K.Sink.got c.args.sink.now in
    let s1 = g.K.Sink.got c.tell_size.new.sink in
    let s2 = g.K.Sink.got c.tell_lines.new.sink in
    let s3 = g.K.Sink.got c.tell_nodes.new.sink in
    let s4 = g.K.Sink.got c.tell_values.new.sink in
    let s5 = g.K.Sink.got c.tell_wires.new.sink in
    let wires = wires_told x c.graph-graph.result.now found.lines graph routing in
    let w1 = begun s0 s1 first c.tell_size.new.buffer (size_text c.lines-lines.result c.nodes.result) t0 size c.in_ok-tell_size.ensures.text in
    let w2 = told_more s0 s1 s2 first c.tell_size.new.buffer c.tell_lines.new.buffer t0 t1 w1 c.in_ok-tell_lines.ensures.text in
    let w3 = told_more s0 s2 s3 first c.tell_lines.new.buffer c.tell_nodes.new.buffer (t0 ++ t1) t2 w2 c.in_ok-tell_nodes.ensures.text in
    let w4 = told_more s0 s3 s4 first c.tell_nodes.new.buffer c.tell_values.new.buffer (t0 ++ t1 ++ t2) t3 w3 c.in_ok-tell_values.ensures.text in
    on_error c.from_residual-in_err-tell_wires.result (fault_before s0 s5 first (t0 ++ t1 ++ t2 ++ t3 ++ t4) t5 (fault_more s0 s4 s5 first c.tell_values.new.buffer (t0 ++ t1 ++ t2 ++ t3) t4 w4 (begun_fault s4 s5 c.tell_values.new.buffer (wire_lines c.graph-graph.result.now found.lines) t4 wires c.in_err-tell_wires.ensures.prefix)))

pub returns-clause-text : goal.returns-clause-text
returns-clause-text g c =
    let first = c.args.buffer.now in
    let p = c.args.program.now in
    let found = c.args.analysis.now in
    let x = operations_of c.args.net.now in
    let routing : found.lines ≡ x.net.routing = ap (λ (n : NetOf). n.routing) (sym c.requires.own) in
    let graph : c.graph-graph.result.now ≡ graph_in x.net = c.graph-graph.ensures ∙ ap (λ (f : FlowGraph). f.graph) c.requires.analysis.own_flow ∙ ap graph_in (sym c.requires.own) in
    let size : size_text c.lines-lines.result c.nodes.result ≡ size_line x = size_told x c.lines-lines.result c.nodes.result (c.lines-lines.ensures ∙ ap (λ (r : Routing). r.lines) routing) c.nodes.ensures in
    let t0 = size_line x in
    let t1 = line_lines p found.classes in
    let t2 = node_lines x in
    let t3 = value_lines x in
    let t4 = wire_lines (graph_in x.net) x.net.routing in
    let t5 = hop_lines (graph_in x.net) x.net.routing in
    let s0 = g.K.Sink.got c.args.sink.now in
    let s1 = g.K.Sink.got c.tell_size.new.sink in
    let s2 = g.K.Sink.got c.tell_lines.new.sink in
    let s3 = g.K.Sink.got c.tell_nodes.new.sink in
    let s4 = g.K.Sink.got c.tell_values.new.sink in
    let s5 = g.K.Sink.got c.tell_wires.new.sink in
    let s6 = g.K.Sink.got c.tell_hops.new.sink in
    let wires = wires_told x c.graph-graph.result.now found.lines graph routing in
    let hops = hops_told x c.graph-graph.result.now found.lines graph routing in
    let w1 = begun s0 s1 first c.tell_size.new.buffer (size_text c.lines-lines.result c.nodes.result) t0 size c.in_ok-tell_size.ensures.text in
    let w2 = told_more s0 s1 s2 first c.tell_size.new.buffer c.tell_lines.new.buffer t0 t1 w1 c.in_ok-tell_lines.ensures.text in
    let w3 = told_more s0 s2 s3 first c.tell_lines.new.buffer c.tell_nodes.new.buffer (t0 ++ t1) t2 w2 c.in_ok-tell_nodes.ensures.text in
    let w4 = told_more s0 s3 s4 first c.tell_nodes.new.buffer c.tell_values.new.buffer (t0 ++ t1 ++ t2) t3 w3 c.in_ok-tell_values.ensures.text in
    let w5 = told_more s0 s4 s5 first c.tell_values.new.buffer c.tell_wires.new.buffer (t0 ++ t1 ++ t2 ++ t3) t4 w4 (begun s4 s5 c.tell_values.new.buffer c.tell_wires.new.buffer (wire_lines c.graph-graph.result.now found.lines) t4 wires c.in_ok-tell_wires.ensures.text) in
    then_on_ok c.tell_hops.result (λ now. told_more s0 s5 s6 first c.tell_wires.new.buffer c.tell_hops.new.buffer (t0 ++ t1 ++ t2 ++ t3 ++ t4) t5 w5 (begun s5 s6 c.tell_wires.new.buffer c.tell_hops.new.buffer (hop_lines c.graph-graph.result.now found.lines) t5 hops now)) c.tell_hops.ensures.text

pub returns-clause-prefix : goal.returns-clause-prefix
returns-clause-prefix g c =
    let first = c.args.buffer.now in
    let p = c.args.program.now in
    let found = c.args.analysis.now in
    let x = operations_of c.args.net.now in
    let routing : found.lines ≡ x.net.routing = ap (λ (n : NetOf). n.routing) (sym c.requires.own) in
    let graph : c.graph-graph.result.now ≡ graph_in x.net = c.graph-graph.ensures ∙ ap (λ (f : FlowGraph). f.graph) c.requires.analysis.own_flow ∙ ap graph_in (sym c.requires.own) in
    let size : size_text c.lines-lines.result c.nodes.result ≡ size_line x = size_told x c.lines-lines.result c.nodes.result (c.lines-lines.ensures ∙ ap (λ (r : Routing). r.lines) routing) c.nodes.ensures in
    let t0 = size_line x in
    let t1 = line_lines p found.classes in
    let t2 = node_lines x in
    let t3 = value_lines x in
    let t4 = wire_lines (graph_in x.net) x.net.routing in
    let t5 = hop_lines (graph_in x.net) x.net.routing in
    let s0 = g.K.Sink.got c.args.sink.now in
    let s1 = g.K.Sink.got c.tell_size.new.sink in
    let s2 = g.K.Sink.got c.tell_lines.new.sink in
    let s3 = g.K.Sink.got c.tell_nodes.new.sink in
    let s4 = g.K.Sink.got c.tell_values.new.sink in
    let s5 = g.K.Sink.got c.tell_wires.new.sink in
    let s6 = g.K.Sink.got c.tell_hops.new.sink in
    let wires = wires_told x c.graph-graph.result.now found.lines graph routing in
    let hops = hops_told x c.graph-graph.result.now found.lines graph routing in
    let w1 = begun s0 s1 first c.tell_size.new.buffer (size_text c.lines-lines.result c.nodes.result) t0 size c.in_ok-tell_size.ensures.text in
    let w2 = told_more s0 s1 s2 first c.tell_size.new.buffer c.tell_lines.new.buffer t0 t1 w1 c.in_ok-tell_lines.ensures.text in
    let w3 = told_more s0 s2 s3 first c.tell_lines.new.buffer c.tell_nodes.new.buffer (t0 ++ t1) t2 w2 c.in_ok-tell_nodes.ensures.text in
    let w4 = told_more s0 s3 s4 first c.tell_nodes.new.buffer c.tell_values.new.buffer (t0 ++ t1 ++ t2) t3 w3 c.in_ok-tell_values.ensures.text in
    let w5 = told_more s0 s4 s5 first c.tell_values.new.buffer c.tell_wires.new.buffer (t0 ++ t1 ++ t2 ++ t3) t4 w4 (begun s4 s5 c.tell_values.new.buffer c.tell_wires.new.buffer (wire_lines c.graph-graph.result.now found.lines) t4 wires c.in_ok-tell_wires.ensures.text) in
    then_on_error c.tell_hops.result (λ now. fault_more s0 s5 s6 first c.tell_wires.new.buffer (t0 ++ t1 ++ t2 ++ t3 ++ t4) t5 w5 (begun_fault s5 s6 c.tell_wires.new.buffer (hop_lines c.graph-graph.result.now found.lines) t5 hops now)) c.tell_hops.ensures.prefix

pub tell_wires-requires : goal.tell_wires-requires
tell_wires-requires g c =
    subst (λ (h : Graph). AreWires h c.args.analysis.now.lines c.args.tables.now.wires) (sym c.graph-graph.ensures) c.requires.tables.wires

pub tell_hops-requires-clause-edges : goal.tell_hops-requires-clause-edges
tell_hops-requires-clause-edges g c = c.requires.edges ∙ ap edge_count (sym c.graph-graph.ensures)

pub tell_hops-requires-clause-bypasses : goal.tell_hops-requires-clause-bypasses
tell_hops-requires-clause-bypasses g c =
    subst (λ (h : Graph). AreBypasses h c.args.analysis.now.lines c.args.tables.now.bypasses) (sym c.graph-graph.ensures) c.requires.tables.bypasses
