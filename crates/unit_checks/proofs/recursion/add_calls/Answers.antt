use Rattle.std.proofs.Common.{◌≡◌, ◌++◌, take, length, ap, arith, length-append}
use Rattle.closed_walks.specs.Graph.{edge_count}
use Rattle.f77_tree.specs.declared.statements.Stmt.{Stmt}
use Rattle.program_units.specs.Units.{call_by, call_in}
use Rattle.program_units.specs.CallTable.{callee_of, callees}
use Rattle.unit_checks.specs.CallGraph.{edges_from}
use Rattle.unit_checks.proofs.GrowingGraph.{callees-least, paired}
use Rattle.unit_checks.proofs.recursion.add_calls.Goals as goal

pub add_call-requires-clause-room : goal.add_call-requires-clause-room
add_call-requires-clause-room c =
    let us = c.args.us.now in
    let stmts = c.args.unit.now in
    let i = c.loop-s.s-index in
    let s = c.s-item.result in
    let k = c.args.k in
    let before = callees us (take i stmts) in
    let edges = c.args.graph.now.edges in
    let least = callees-least us stmts i s c.loop-s-test.true c.s-item.is in
    let same : length (callee_of us (call_by c.inner_of.result.now)) ≡ length (callee_of us (call_in s.stmt)) = ap (λ (x : Stmt). length (callee_of us (call_by x))) c.inner_of.ensures in
    let count : edge_count c.loop-s.graph ≡ length (edges ++ edges_from k before) = ap edge_count c.loop-s.invariant in
    let sum = length-append edges (edges_from k before) in
    let pairs = paired us k before in
    let room = c.requires.room in
    omega (arith, least, same, count, sum, pairs, room)
