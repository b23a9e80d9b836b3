use Rattle.std.proofs.Common.{◌≡◌, ℕ, ◌+◌, ◌<◌, ◌++◌, List, length, ap, sym, ◌∙◌, arith}
use Rattle.closed_walks.specs.Graph.{Graph, edge_count}
use Rattle.f77_tree.specs.declared.statements.Labelled.{Labelled}
use Rattle.program_units.specs.Units.{unit_at}
use Rattle.program_units.specs.CallTable.{callees}
use Rattle.unit_checks.specs.CallGraph.{edges_from, calls_below_unit, call_graph}
use Rattle.unit_checks.proofs.GrowingGraph.{units-least, units-more}
use Rattle.unit_checks.proofs.recursion.call_graph.Goals as goal

pub add_calls-requires-clause-room : goal.add_calls-requires-clause-room
add_calls-requires-clause-room c =
    let us = c.args.us.now in
    let k = c.loop-k.k in
    let inside : k < length us = omega arith in
    let least = units-least us k inside in
    let count : edge_count c.loop-k.graph ≡ length (calls_below_unit us k) = ap edge_count c.loop-k.invariant in
    let same : length (callees us c.at.result.now) ≡ length (callees us (unit_at us k)) = ap (λ (u : List Labelled). length (callees us u)) c.at.ensures.statements in
    let room : edge_count (call_graph us) < 2147483648 = c.requires.room in
    omega (arith, least, count, same, room)

pub loop-k-preserved : goal.loop-k-preserved
loop-k-preserved c =
    let us = c.args.us.now in
    let k = c.loop-k.k in
    c.in_ok-add_calls.ensures
    ∙ ap (λ (g : Graph). record { nodes = g.nodes; edges = g.edges ++ edges_from k (callees us c.at.result.now) }) c.loop-k.invariant
    ∙ ap (λ (u : List Labelled). record { nodes = length us + 1; edges = calls_below_unit us k ++ edges_from k (callees us u) }) c.at.ensures.statements
    ∙ ap (λ (es : List (ℕ × ℕ)). record { nodes = length us + 1; edges = es }) (sym (units-more us k))
