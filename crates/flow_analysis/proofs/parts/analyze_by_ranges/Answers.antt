use Rattle.std.proofs.Common.{◌≡◌, ◌+◌, suc, ap, subst, ◌∙◌, arith}
use Rattle.closed_walks.specs.Graph.{Graph}
use Rattle.alias_classes.specs.Classes.{class_count}
use Rattle.cfg_build.specs.Flow.{flow}
use Rattle.cfg_build.specs.Joined.{FlowGraph}
use Rattle.dep_routing.specs.Routing.{IsRouting}
use Rattle.dep_routing.specs.Touch.{touches_in}
use Rattle.flow_analysis.proofs.PastPieces.{none_past}
use Rattle.flow_analysis.proofs.parts.analyze_by_ranges.Goals as goal

pub returns : goal.returns
returns c =
    let g = (flow c.args.program.now.execs).graph in
    let found = c.in_ok-flow.ensures in
    let sets = c.in_ok-touched.ensures.pieces in
    let of_lines : c.graph.result.now ≡ g = c.graph.ensures ∙ ap (λ (f : FlowGraph). f.graph) found.own_flow in
    let count : c.count.result + 1 ≡ suc (class_count c.in_ok-classes.classes) = let all = c.count.ensures.count in omega (arith, all) in
    let tree = c.in_ok-flow.field-0.tree in
    let touches = touches_in c.in_ok-touched.touched in
    record {
      own_flow = found.own_flow;
      strong = found.strong;
      edge_classes = found.edge_classes;
      tree = found.tree;
      classes = c.in_ok-classes.ensures.classes;
      few = c.in_ok-classes.ensures.few;
      sets = sets;
      touches = c.in_ok-touched.ensures.touches;
      sound = c.range_touches_are_sound.ensures c.args.program.now c.in_ok-classes.classes tree touches c.requires.program c.in_ok-classes.ensures.classes found.tree c.in_ok-touched.ensures.touches;
      outside = λ piece line past. none_past c.in_ok-touched.touched piece line (omega (arith, past, sets));
      routing = subst (λ n. IsRouting g tree touches n c.in_ok-lines.lines) count (subst (λ (x : Graph). IsRouting x tree touches (c.count.result + 1) c.in_ok-lines.lines) of_lines c.in_ok-lines.ensures.routing);
      rows = c.in_ok-lines.ensures.rows;
    }
