use Rattle.std.proofs.Common.{◌+◌, ap, refl}
use Rattle.graph_dependences.specs.Dependences.{DependsOn}
use Rattle.graph_dependences.proofs.Added.{Adds-more, Adds-none, item_of}
use Rattle.graph_dependences.proofs.dependence.add_by_line.Goals as goal

pub loop-one-init : goal.loop-one-init
loop-one-init c = record { first = refl; added = Adds-none c.args.all.now.items (DependsOn c.args.graph.now c.args.flow.now c.args.line) }

pub add_on-requires-clause-one : goal.add_on-requires-clause-one
add_on-requires-clause-one c =
    item_of c.args.graph.now.nodes.items c.as_slice-one-items.result.now c.loop-one.first c.loop-one.one-index c.one-item.result c.as_slice-one-items.ensures.value c.loop-one.invariant.first c.loop-one-test.true c.one-item.is

pub loop-one-preserved : goal.loop-one-preserved
loop-one-preserved c = record {
  first = ap (λ n. n + 1) c.loop-one.invariant.first;
  added = Adds-more c.args.all.now.items c.loop-one.all.items c.add_on.new.all.items (DependsOn c.args.graph.now c.args.flow.now c.args.line) c.loop-one.first c.loop-one.invariant.added c.in_ok-add_on.ensures;
}
