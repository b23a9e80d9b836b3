use Rattle.std.proofs.Common.{◌≡◌, ◌<◌, ◌++◌, length, get_or, subst, arith}
use Rattle.std.proofs.lemmas.List.{get_or_read}
use Rattle.closed_walks.specs.Graph.{edges_at}
use Rattle.region_tree.specs.Scan.{leaving, Discovers}
use Rattle.closed_walks.proofs.Held.{Holds-at}
use Rattle.region_tree.proofs.Scanning.{NodeEdges, IsScanning-step, IsScanning-end}
use Rattle.region_tree.proofs.scan.scan.Goals as goal

pub leave-requires-clause-node : goal.leave-requires-clause-node
leave-requires-clause-node c =
    let order = c.loop-done.order.items in
    let done = c.loop-done.done in
    let within : done < length order = omega (arith, c.loop-done-test.true, c.len.ensures, c.loop-done.order.ok.0) in
    let same : c.index.result.now ≡ get_or order done 0 = get_or_read order done c.index.result.now within c.index.ensures 0 in
    rw same (c.loop-done.invariant.order_is.nodes (get_or order done 0) (Holds-at order done within))

pub loop-done-preserved : goal.loop-done-preserved
loop-done-preserved c =
    let g = c.args.g.now in
    let order = c.loop-done.order.items in
    let done = c.loop-done.done in
    let within : done < length order = omega (arith, c.loop-done-test.true, c.len.ensures, c.loop-done.order.ok.0) in
    let same : c.index.result.now ≡ get_or order done 0 = get_or_read order done c.index.result.now within c.index.ensures 0 in
    let law : NodeEdges g = record { touch = λ node e. c.edges_of_nodes.ensures.touch g node e; rise = λ node i j less in_j. c.edges_of_nodes.ensures.rise g node i j less in_j } in
    IsScanning-step g law done c.loop-done.edges.items c.loop-done.seen.items order c.leave.new.edges.items c.leave.new.seen.items c.leave.new.order.items c.loop-done.invariant within
    (subst (λ n. c.leave.new.edges.items ≡ c.loop-done.edges.items ++ leaving g n (edges_at g n)) same c.in_ok-leave.ensures.edges)
    c.in_ok-leave.ensures.order
    (subst (λ n. Discovers g (leaving g n (edges_at g n)) order c.leave.new.order.items) same c.in_ok-leave.ensures.found)

pub returns : goal.returns
returns c =
    let g = c.args.g.now in
    let law : NodeEdges g = record { touch = λ node e. c.edges_of_nodes.ensures.touch g node e; rise = λ node i j less in_j. c.edges_of_nodes.ensures.rise g node i j less in_j } in
    IsScanning-end g law c.requires c.loop-done.done c.loop-done.edges.items c.loop-done.seen.items c.loop-done.order.items c.loop-done.invariant
    (omega (arith, c.loop-done-test.false, c.len.ensures, c.loop-done.order.ok.0))
