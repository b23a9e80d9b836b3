use Rattle.std.proofs.Common.{◌∙◌, List, ℕ, ap, arith, refl, sym, subst, append-nil}
use Rattle.std.proofs.KnownBytes.{Keeps-refl}
use Rattle.std.specs.Io.KnownBytes.{Appends}
use Rattle.class_set.specs.declared.ClassSet.{ClassSet}
use Rattle.closed_walks.specs.Graph.{Graph, edge_count}
use Rattle.cfg_build.specs.Joined.{FlowGraph}
use Rattle.alias_classes.specs.declared.TheConstants.{CLASS_WORDS}
use Rattle.df_io.specs.Write.{AppendsPrefix}
use Rattle.dep_routing.specs.Touch.{touches_in}
use Rattle.net_board.specs.NetParts.{net_with}
use Rattle.operation_tables.specs.GraphView.{operations_of}
use Rattle.job_terms.specs.Due.{done}
use Rattle.graph_texts.specs.EdgeTables.{AreTablesOf}
use Rattle.graph_texts.specs.NameSets.{AreNameSets}
use Rattle.graph_texts.specs.GraphText.{graph_text}
use Rattle.graph_jobs.proofs.GraphMade.{found_tells}
use Rattle.program_nets.proofs.NetParts.{found_operation_parts}
use Rattle.graph_jobs.proofs.graph.tell_net.Goals as goal

pub new-made-requires : goal.new-made-requires
new-made-requires g c =
    let found = c.args.drawn.now.analysis in
    let parts = found_operation_parts c.args.program.now found found.flow c.requires.drawn.analysis.own_flow c.requires.program c.requires.drawn.analysis in
    (omega arith, (omega arith, (omega arith, (omega arith, (record { some = omega arith; few = omega arith }, (parts, (c.requires.drawn.analysis.sets, c.requires.modest)))))))

pub tables_of_edges-requires : goal.tables_of_edges-requires
tables_of_edges-requires g c =
    let found = c.args.drawn.now.analysis in
    let is = c.requires.drawn.analysis in
    is.routing.edges ∙ ap (λ (f : FlowGraph). edge_count f.graph) (sym is.own_flow) ∙ ap edge_count (sym c.graph.ensures)

pub write_graph-requires-clause-tables : goal.write_graph-requires-clause-tables
write_graph-requires-clause-tables g c =
    subst (λ (h : Graph). AreTablesOf h c.args.drawn.now.analysis.lines c.in-Ok-tables_of_edges.tables) c.graph.ensures c.in-Ok-tables_of_edges.ensures

pub write_graph-requires-clause-own : goal.write_graph-requires-clause-own
write_graph-requires-clause-own g c =
    let found = c.args.drawn.now.analysis in
    c.in-Ok.ensures.net ∙ ap (λ xs. net_with c.args.program.now xs (touches_in found.touch) found.lines) c.requires.drawn.input

pub write_graph-requires-clause-sets : goal.write_graph-requires-clause-sets
write_graph-requires-clause-sets g c =
    subst (λ (xs : List (ClassSet CLASS_WORDS)). AreNameSets c.args.program.now.names c.args.drawn.now.analysis.classes xs) (sym c.as_slice-sets.ensures.value) c.requires.drawn.sets

pub returns-in-Err-tables_of_edges-clause-due : goal.returns-in-Err-tables_of_edges-clause-due
returns-in-Err-tables_of_edges-clause-due g c = Keeps-refl (g.K.Sink.got c.args.sink.now)

pub returns-in-Ok-write_graph-clause-due : goal.returns-in-Ok-write_graph-clause-due
returns-in-Ok-write_graph-clause-due g c =
    let p = c.args.program.now in
    let found = c.args.drawn.now.analysis in
    let x = operations_of c.in-Ok.net in
    let made = c.in-Ok.ensures in
    let text = graph_text p found.classes x in
    let same = made.net ∙ ap (λ xs. net_with p xs (touches_in found.touch) found.lines) c.requires.drawn.input in
    record {
      due = done text;
      is = record { text = found_tells p found x c.requires.program c.requires.drawn.analysis same made.is_net made.outside_pieces made.outside_operations; done = refl };
      same = refl;
      written = subst (λ (bytes : List ℕ). Appends (g.K.Sink.got c.args.sink.now) (g.K.Sink.got c.write_graph.new.sink) bytes) (sym (append-nil text)) c.in-Ok-write_graph.ensures.all;
    }

pub returns-clause-due : goal.returns-clause-due
returns-clause-due g c =
    let p = c.args.program.now in
    let found = c.args.drawn.now.analysis in
    let x = operations_of c.in-Ok.net in
    let made = c.in-Ok.ensures in
    let text = graph_text p found.classes x in
    let same = made.net ∙ ap (λ xs. net_with p xs (touches_in found.touch) found.lines) c.requires.drawn.input in
    record {
      due = done text;
      is = record { text = found_tells p found x c.requires.program c.requires.drawn.analysis same made.is_net made.outside_pieces made.outside_operations; done = refl };
      prefix = subst (λ (bytes : List ℕ). AppendsPrefix (g.K.Sink.got c.args.sink.now) (g.K.Sink.got c.write_graph.new.sink) bytes) (sym (append-nil text)) c.in-Err-write_graph.ensures.prefix;
    }
