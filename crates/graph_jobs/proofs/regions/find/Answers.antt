use Rattle.std.proofs.Common.{rules, sym, subst}
use Rattle.closed_walks.specs.Numbering.{IsNumbering}
use Rattle.closed_walks.specs.Region.{IsFlowGraph}
use Rattle.cfg_build.specs.Joined.{FlowGraph}
use Rattle.region_tree.specs.Tree.{IsRegionTree}
use Rattle.graph_jobs.proofs.regions.find.Goals as goal

pub returns : goal.returns
returns c =
    let found = c.in_ok-flow.ensures in
    let back = sym found.own_flow in
    record {
      flow = found.own_flow;
      strong = subst (λ (f : FlowGraph). IsFlowGraph f.graph) back found.strong;
      classes = subst (λ (f : FlowGraph). IsNumbering f.graph c.in_ok-flow.field-0.edge_classes.items) back found.edge_classes;
      tree = subst (λ (f : FlowGraph). IsRegionTree f.graph c.in_ok-flow.field-0.tree) back found.tree;
      buffer = search rules;
    }
