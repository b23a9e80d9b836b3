use Rattle.std.proofs.Common.{◌+◌, ap, refl}
use Rattle.graph_dependences.specs.Dependences.{DependsAt}
use Rattle.graph_dependences.proofs.Added.{Adds-more, Adds-none, item_of}
use Rattle.graph_dependences.proofs.pairs.add_on.Goals as goal

pub loop-two-init : goal.loop-two-init
loop-two-init c = record { second = refl; known = tt; added = Adds-none c.args.all.now.items (DependsAt c.args.by.graph.now c.args.by.flow.now c.args.by.line c.args.first) }

pub add_between-requires-clause-two : goal.add_between-requires-clause-two
add_between-requires-clause-two c =
    item_of c.args.by.graph.now.nodes.items c.as_slice-two-items.result.now c.loop-two.second c.loop-two.two-index c.two-item.result c.as_slice-two-items.ensures.value c.loop-two.invariant.second c.loop-two-test.true c.two-item.is

pub loop-two-preserved : goal.loop-two-preserved
loop-two-preserved c = record {
  second = ap (λ n. n + 1) c.loop-two.invariant.second;
  known = c.in_ok-known.ensures.known;
  added = Adds-more c.args.all.now.items c.loop-two.all.items c.add_between.new.all.items (DependsAt c.args.by.graph.now c.args.by.flow.now c.args.by.line c.args.first) c.loop-two.second c.loop-two.invariant.added c.in_ok-known.ensures.added;
}
