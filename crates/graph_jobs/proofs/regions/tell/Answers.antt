use Rattle.std.proofs.Common.{ℕ, List, ◌++◌, length, ◌∙◌, ap, subst}
use Rattle.closed_walks.specs.Graph.{Graph, edge_count}
use Rattle.df_io.specs.TextBuffer.{IsWrittenBut}
use Rattle.df_io.specs.Write.{AppendsPrefix}
use Rattle.closed_walks.specs.Numbering.{fresh}
use Rattle.region_tree.specs.Tree.{region_count}
use Rattle.df_io.proofs.LongTexts.{one_more_piece, fault_at_piece, all_out, fault_at_end}
use Rattle.graph_jobs.specs.Regions.{counts_line, piece_lines, edge_lines, region_lines}
use Rattle.graph_texts.proofs.Texts.{on_error, then_on_error, then_on_ok}
use Rattle.graph_jobs.proofs.RegionsTold.{told_first, fault_first, fault_before_two, fault_before_one, counts_same}
use Rattle.graph_jobs.proofs.regions.tell.Goals as goal

pub returns-in_err-append-clause-prefix : goal.returns-in_err-append-clause-prefix
returns-in_err-append-clause-prefix g c =
    let found = c.args.found.now in
    let s0 = g.K.Sink.got c.args.sink.now in
    let s1 = g.K.Sink.got c.append.new.sink in
    let t1 = counts_line (length found.flow.pieces) (edge_count found.flow.graph) (fresh found.classes.items) (region_count found.tree) in
    let t2 = piece_lines found.flow.pieces (length found.flow.pieces) in
    let t3 = edge_lines found.flow.graph found.classes.items (edge_count found.flow.graph) in
    let t4 = region_lines found.tree (region_count found.tree) in
    let is = c.as_bytes.ensures.value ∙ c.as_str.ensures.value ∙ c.counts_line-counts.ensures
    ∙ counts_same c.pieces.result (length found.flow.pieces) c.edges.result (edge_count found.flow.graph) c.class_count.result (fresh found.classes.items) c.count.result (region_count found.tree)
    c.pieces.ensures.count (c.edges.ensures.count ∙ ap edge_count c.graph-graph.ensures) (c.class_count.ensures ∙ ap fresh c.as_slice-classes.ensures.value) c.count.ensures.count in
    on_error c.from_residual.result (fault_first s0 s1 found.buffer c.as_bytes.result.now t1 t2 t3 t4 c.requires.buffer is c.in_err-append.ensures.prefix)

pub returns-in_err-tell_pieces-clause-prefix : goal.returns-in_err-tell_pieces-clause-prefix
returns-in_err-tell_pieces-clause-prefix g c =
    let found = c.args.found.now in
    let s0 = g.K.Sink.got c.args.sink.now in
    let s1 = g.K.Sink.got c.append.new.sink in
    let t1 = counts_line (length found.flow.pieces) (edge_count found.flow.graph) (fresh found.classes.items) (region_count found.tree) in
    let t2 = piece_lines found.flow.pieces (length found.flow.pieces) in
    let t3 = edge_lines found.flow.graph found.classes.items (edge_count found.flow.graph) in
    let t4 = region_lines found.tree (region_count found.tree) in
    let is = c.as_bytes.ensures.value ∙ c.as_str.ensures.value ∙ c.counts_line-counts.ensures
    ∙ counts_same c.pieces.result (length found.flow.pieces) c.edges.result (edge_count found.flow.graph) c.class_count.result (fresh found.classes.items) c.count.result (region_count found.tree)
    c.pieces.ensures.count (c.edges.ensures.count ∙ ap edge_count c.graph-graph.ensures) (c.class_count.ensures ∙ ap fresh c.as_slice-classes.ensures.value) c.count.ensures.count in
    let same = ap (λ (h : Graph). edge_lines h c.as_slice-classes.result.now (edge_count h)) c.graph-graph.ensures ∙ ap (λ (xs : List ℕ). edge_lines found.flow.graph xs (edge_count found.flow.graph)) c.as_slice-classes.ensures.value in
    let w1 = told_first s0 s1 found.buffer c.append.new.self c.as_bytes.result.now t1 c.requires.buffer is c.in_ok-append.ensures.text in
    on_error c.from_residual-in_err-tell_pieces.result (fault_before_two s0 s1 (g.K.Sink.got c.tell_pieces.new.sink) c.append.new.self t1 t2 t3 t4 w1 c.in_err-tell_pieces.ensures.prefix)

pub returns-in_err-tell_edges-clause-prefix : goal.returns-in_err-tell_edges-clause-prefix
returns-in_err-tell_edges-clause-prefix g c =
    let found = c.args.found.now in
    let s0 = g.K.Sink.got c.args.sink.now in
    let s1 = g.K.Sink.got c.append.new.sink in
    let t1 = counts_line (length found.flow.pieces) (edge_count found.flow.graph) (fresh found.classes.items) (region_count found.tree) in
    let t2 = piece_lines found.flow.pieces (length found.flow.pieces) in
    let t3 = edge_lines found.flow.graph found.classes.items (edge_count found.flow.graph) in
    let t4 = region_lines found.tree (region_count found.tree) in
    let is = c.as_bytes.ensures.value ∙ c.as_str.ensures.value ∙ c.counts_line-counts.ensures
    ∙ counts_same c.pieces.result (length found.flow.pieces) c.edges.result (edge_count found.flow.graph) c.class_count.result (fresh found.classes.items) c.count.result (region_count found.tree)
    c.pieces.ensures.count (c.edges.ensures.count ∙ ap edge_count c.graph-graph.ensures) (c.class_count.ensures ∙ ap fresh c.as_slice-classes.ensures.value) c.count.ensures.count in
    let same = ap (λ (h : Graph). edge_lines h c.as_slice-classes.result.now (edge_count h)) c.graph-graph.ensures ∙ ap (λ (xs : List ℕ). edge_lines found.flow.graph xs (edge_count found.flow.graph)) c.as_slice-classes.ensures.value in
    let w1 = told_first s0 s1 found.buffer c.append.new.self c.as_bytes.result.now t1 c.requires.buffer is c.in_ok-append.ensures.text in
    let s2 = g.K.Sink.got c.tell_pieces.new.sink in
    let w2 = one_more_piece s0 s1 s2 c.append.new.self t1 t2 c.tell_pieces.new.buffer w1 c.in_ok-tell_pieces.ensures.text in
    on_error c.from_residual-in_err-tell_edges.result (fault_before_one s0 s2 (g.K.Sink.got c.tell_edges.new.sink) c.tell_pieces.new.buffer (t1 ++ t2) t3 t4 w2 (subst (λ text. AppendsPrefix s2 (g.K.Sink.got c.tell_edges.new.sink) (c.tell_pieces.new.buffer ++ text)) same c.in_err-tell_edges.ensures.prefix))

pub returns-in_err-tell_tree-clause-prefix : goal.returns-in_err-tell_tree-clause-prefix
returns-in_err-tell_tree-clause-prefix g c =
    let found = c.args.found.now in
    let s0 = g.K.Sink.got c.args.sink.now in
    let s1 = g.K.Sink.got c.append.new.sink in
    let t1 = counts_line (length found.flow.pieces) (edge_count found.flow.graph) (fresh found.classes.items) (region_count found.tree) in
    let t2 = piece_lines found.flow.pieces (length found.flow.pieces) in
    let t3 = edge_lines found.flow.graph found.classes.items (edge_count found.flow.graph) in
    let t4 = region_lines found.tree (region_count found.tree) in
    let is = c.as_bytes.ensures.value ∙ c.as_str.ensures.value ∙ c.counts_line-counts.ensures
    ∙ counts_same c.pieces.result (length found.flow.pieces) c.edges.result (edge_count found.flow.graph) c.class_count.result (fresh found.classes.items) c.count.result (region_count found.tree)
    c.pieces.ensures.count (c.edges.ensures.count ∙ ap edge_count c.graph-graph.ensures) (c.class_count.ensures ∙ ap fresh c.as_slice-classes.ensures.value) c.count.ensures.count in
    let same = ap (λ (h : Graph). edge_lines h c.as_slice-classes.result.now (edge_count h)) c.graph-graph.ensures ∙ ap (λ (xs : List ℕ). edge_lines found.flow.graph xs (edge_count found.flow.graph)) c.as_slice-classes.ensures.value in
    let w1 = told_first s0 s1 found.buffer c.append.new.self c.as_bytes.result.now t1 c.requires.buffer is c.in_ok-append.ensures.text in
    let s2 = g.K.Sink.got c.tell_pieces.new.sink in
    let w2 = one_more_piece s0 s1 s2 c.append.new.self t1 t2 c.tell_pieces.new.buffer w1 c.in_ok-tell_pieces.ensures.text in
    let s3 = g.K.Sink.got c.tell_edges.new.sink in
    let w3 = one_more_piece s0 s2 s3 c.tell_pieces.new.buffer (t1 ++ t2) t3 c.tell_edges.new.buffer w2 (subst (λ text. IsWrittenBut c.tell_edges.new.buffer s2 s3 (c.tell_pieces.new.buffer ++ text)) same c.in_ok-tell_edges.ensures.text) in
    on_error c.from_residual-in_err-tell_tree.result (fault_at_piece s0 s3 (g.K.Sink.got c.tell_tree.new.sink) c.tell_edges.new.buffer (t1 ++ t2 ++ t3) t4 w3 c.in_err-tell_tree.ensures.prefix)

pub returns-clause-all : goal.returns-clause-all
returns-clause-all g c =
    let found = c.args.found.now in
    let s0 = g.K.Sink.got c.args.sink.now in
    let s1 = g.K.Sink.got c.append.new.sink in
    let t1 = counts_line (length found.flow.pieces) (edge_count found.flow.graph) (fresh found.classes.items) (region_count found.tree) in
    let t2 = piece_lines found.flow.pieces (length found.flow.pieces) in
    let t3 = edge_lines found.flow.graph found.classes.items (edge_count found.flow.graph) in
    let t4 = region_lines found.tree (region_count found.tree) in
    let is = c.as_bytes.ensures.value ∙ c.as_str.ensures.value ∙ c.counts_line-counts.ensures
    ∙ counts_same c.pieces.result (length found.flow.pieces) c.edges.result (edge_count found.flow.graph) c.class_count.result (fresh found.classes.items) c.count.result (region_count found.tree)
    c.pieces.ensures.count (c.edges.ensures.count ∙ ap edge_count c.graph-graph.ensures) (c.class_count.ensures ∙ ap fresh c.as_slice-classes.ensures.value) c.count.ensures.count in
    let same = ap (λ (h : Graph). edge_lines h c.as_slice-classes.result.now (edge_count h)) c.graph-graph.ensures ∙ ap (λ (xs : List ℕ). edge_lines found.flow.graph xs (edge_count found.flow.graph)) c.as_slice-classes.ensures.value in
    let w1 = told_first s0 s1 found.buffer c.append.new.self c.as_bytes.result.now t1 c.requires.buffer is c.in_ok-append.ensures.text in
    let s2 = g.K.Sink.got c.tell_pieces.new.sink in
    let w2 = one_more_piece s0 s1 s2 c.append.new.self t1 t2 c.tell_pieces.new.buffer w1 c.in_ok-tell_pieces.ensures.text in
    let s3 = g.K.Sink.got c.tell_edges.new.sink in
    let w3 = one_more_piece s0 s2 s3 c.tell_pieces.new.buffer (t1 ++ t2) t3 c.tell_edges.new.buffer w2 (subst (λ text. IsWrittenBut c.tell_edges.new.buffer s2 s3 (c.tell_pieces.new.buffer ++ text)) same c.in_ok-tell_edges.ensures.text) in
    let s4 = g.K.Sink.got c.tell_tree.new.sink in
    let w4 = one_more_piece s0 s3 s4 c.tell_edges.new.buffer (t1 ++ t2 ++ t3) t4 c.tell_tree.new.buffer w3 c.in_ok-tell_tree.ensures.text in
    then_on_ok c.write_out.result (all_out s0 s4 (g.K.Sink.got c.write_out.new.sink) c.tell_tree.new.buffer (t1 ++ t2 ++ t3 ++ t4) w4) c.write_out.ensures.all

pub returns-clause-prefix : goal.returns-clause-prefix
returns-clause-prefix g c =
    let found = c.args.found.now in
    let s0 = g.K.Sink.got c.args.sink.now in
    let s1 = g.K.Sink.got c.append.new.sink in
    let t1 = counts_line (length found.flow.pieces) (edge_count found.flow.graph) (fresh found.classes.items) (region_count found.tree) in
    let t2 = piece_lines found.flow.pieces (length found.flow.pieces) in
    let t3 = edge_lines found.flow.graph found.classes.items (edge_count found.flow.graph) in
    let t4 = region_lines found.tree (region_count found.tree) in
    let is = c.as_bytes.ensures.value ∙ c.as_str.ensures.value ∙ c.counts_line-counts.ensures
    ∙ counts_same c.pieces.result (length found.flow.pieces) c.edges.result (edge_count found.flow.graph) c.class_count.result (fresh found.classes.items) c.count.result (region_count found.tree)
    c.pieces.ensures.count (c.edges.ensures.count ∙ ap edge_count c.graph-graph.ensures) (c.class_count.ensures ∙ ap fresh c.as_slice-classes.ensures.value) c.count.ensures.count in
    let same = ap (λ (h : Graph). edge_lines h c.as_slice-classes.result.now (edge_count h)) c.graph-graph.ensures ∙ ap (λ (xs : List ℕ). edge_lines found.flow.graph xs (edge_count found.flow.graph)) c.as_slice-classes.ensures.value in
    let w1 = told_first s0 s1 found.buffer c.append.new.self c.as_bytes.result.now t1 c.requires.buffer is c.in_ok-append.ensures.text in
    let s2 = g.K.Sink.got c.tell_pieces.new.sink in
    let w2 = one_more_piece s0 s1 s2 c.append.new.self t1 t2 c.tell_pieces.new.buffer w1 c.in_ok-tell_pieces.ensures.text in
    let s3 = g.K.Sink.got c.tell_edges.new.sink in
    let w3 = one_more_piece s0 s2 s3 c.tell_pieces.new.buffer (t1 ++ t2) t3 c.tell_edges.new.buffer w2 (subst (λ text. IsWrittenBut c.tell_edges.new.buffer s2 s3 (c.tell_pieces.new.buffer ++ text)) same c.in_ok-tell_edges.ensures.text) in
    let s4 = g.K.Sink.got c.tell_tree.new.sink in
    let w4 = one_more_piece s0 s3 s4 c.tell_edges.new.buffer (t1 ++ t2 ++ t3) t4 c.tell_tree.new.buffer w3 c.in_ok-tell_tree.ensures.text in
    then_on_error c.write_out.result (fault_at_end s0 s4 (g.K.Sink.got c.write_out.new.sink) c.tell_tree.new.buffer (t1 ++ t2 ++ t3 ++ t4) w4) c.write_out.ensures.prefix
