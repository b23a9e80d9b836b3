use Rattle.std.proofs.Common.{◌∙◌, ap, refl, sym, length}
use Rattle.closed_walks.specs.Graph.{edge_count}
use Rattle.closed_walks.specs.Numbering.{fresh}
use Rattle.dep_routing.specs.Routing.{Routing}
use Rattle.op_net.specs.NetView.{net_of}
use Rattle.region_tree.specs.Tree.{region_count}
use Rattle.sample_jobs.specs.DueSamples.{sample_line}
use Rattle.graph_texts.specs.GraphText.{size_line}
use Rattle.graph_jobs.specs.Regions.{counts_line}
use Rattle.graph_texts.proofs.Texts.{on_error, then_on_error, then_on_ok}
use Rattle.sample_jobs.proofs.ThreeTexts.{all_three, fault_first, fault_second, fault_third, size_same}
use Rattle.sample_jobs.proofs.sample.tell_sizes.Goals as goal

pub returns-in_err-write_all-clause-prefix : goal.returns-in_err-write_all-clause-prefix
returns-in_err-write_all-clause-prefix g c =
    let found = c.args.analysis.now in
    let x = net_of c.args.net.now in
    let t1 = sample_line c.args.sample.number c.args.sample.bytes in
    let t2 = counts_line (length found.flow.pieces) (edge_count found.flow.graph) (fresh found.edge_classes.items) (region_count found.tree) in
    let t3 = size_line x in
    let s0 = g.K.Sink.got c.args.sink.now in
    let s1 = g.K.Sink.got c.write_all.new.sink in
    let e1 = c.as_bytes.ensures.value ∙ c.as_str.ensures.value ∙ c.sample_line.ensures in
    on_error c.from_residual.result (fault_first s0 s1 s1 s1 c.as_bytes.result.now t2 t3 t1 t2 t3 e1 refl refl c.in_err-write_all.ensures.prefix)

pub returns-in_err-write_all-2-clause-prefix : goal.returns-in_err-write_all-2-clause-prefix
returns-in_err-write_all-2-clause-prefix g c =
    let found = c.args.analysis.now in
    let x = net_of c.args.net.now in
    let t1 = sample_line c.args.sample.number c.args.sample.bytes in
    let t2 = counts_line (length found.flow.pieces) (edge_count found.flow.graph) (fresh found.edge_classes.items) (region_count found.tree) in
    let t3 = size_line x in
    let s0 = g.K.Sink.got c.args.sink.now in
    let s1 = g.K.Sink.got c.write_all.new.sink in
    let e1 = c.as_bytes.ensures.value ∙ c.as_str.ensures.value ∙ c.sample_line.ensures in
    let s2 = g.K.Sink.got c.write_all-2.new.sink in
    let e2 = c.as_bytes-2.ensures.value ∙ c.as_str-2.ensures.value ∙ c.found_line.ensures in
    on_error c.from_residual-in_err-write_all-2.result (fault_second s0 s1 s2 s2 c.as_bytes.result.now c.as_bytes-2.result.now t3 t1 t2 t3 e1 e2 refl c.in_ok-write_all.ensures.all c.in_err-write_all-2.ensures.prefix)

pub returns-clause-all : goal.returns-clause-all
returns-clause-all g c =
    let found = c.args.analysis.now in
    let x = net_of c.args.net.now in
    let t1 = sample_line c.args.sample.number c.args.sample.bytes in
    let t2 = counts_line (length found.flow.pieces) (edge_count found.flow.graph) (fresh found.edge_classes.items) (region_count found.tree) in
    let t3 = size_line x in
    let s0 = g.K.Sink.got c.args.sink.now in
    let s1 = g.K.Sink.got c.write_all.new.sink in
    let e1 = c.as_bytes.ensures.value ∙ c.as_str.ensures.value ∙ c.sample_line.ensures in
    let s2 = g.K.Sink.got c.write_all-2.new.sink in
    let e2 = c.as_bytes-2.ensures.value ∙ c.as_str-2.ensures.value ∙ c.found_line.ensures in
    let s3 = g.K.Sink.got c.write_all-3.new.sink in
    let size = size_same x c.lines.result c.nodes.result (c.lines.ensures ∙ ap (λ (r : Routing). r.lines) (sym c.requires.own)) c.nodes.ensures in
    let e3 = c.as_bytes-3.ensures.value ∙ c.as_str-3.ensures.value ∙ c.net_line-line.ensures ∙ size in
    let b1 = c.as_bytes.result.now in
    let b2 = c.as_bytes-2.result.now in
    let b3 = c.as_bytes-3.result.now in
    then_on_ok c.write_all-3.result (all_three s0 s1 s2 s3 b1 b2 b3 t1 t2 t3 e1 e2 e3 c.in_ok-write_all.ensures.all c.in_ok-write_all-2.ensures.all) c.write_all-3.ensures.all

pub returns-clause-prefix : goal.returns-clause-prefix
returns-clause-prefix g c =
    let found = c.args.analysis.now in
    let x = net_of c.args.net.now in
    let t1 = sample_line c.args.sample.number c.args.sample.bytes in
    let t2 = counts_line (length found.flow.pieces) (edge_count found.flow.graph) (fresh found.edge_classes.items) (region_count found.tree) in
    let t3 = size_line x in
    let s0 = g.K.Sink.got c.args.sink.now in
    let s1 = g.K.Sink.got c.write_all.new.sink in
    let e1 = c.as_bytes.ensures.value ∙ c.as_str.ensures.value ∙ c.sample_line.ensures in
    let s2 = g.K.Sink.got c.write_all-2.new.sink in
    let e2 = c.as_bytes-2.ensures.value ∙ c.as_str-2.ensures.value ∙ c.found_line.ensures in
    let s3 = g.K.Sink.got c.write_all-3.new.sink in
    let size = size_same x c.lines.result c.nodes.result (c.lines.ensures ∙ ap (λ (r : Routing). r.lines) (sym c.requires.own)) c.nodes.ensures in
    let e3 = c.as_bytes-3.ensures.value ∙ c.as_str-3.ensures.value ∙ c.net_line-line.ensures ∙ size in
    let b1 = c.as_bytes.result.now in
    let b2 = c.as_bytes-2.result.now in
    let b3 = c.as_bytes-3.result.now in
    then_on_error c.write_all-3.result (fault_third s0 s1 s2 s3 b1 b2 b3 t1 t2 t3 e1 e2 e3 c.in_ok-write_all.ensures.all c.in_ok-write_all-2.ensures.all) c.write_all-3.ensures.prefix
