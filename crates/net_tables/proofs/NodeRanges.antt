-- The numbers of the nodes of a piece are those of a row among all nodes.
use Rattle.std.proofs.Common.{◌≡◌, ◌<◌, ◌≤◌, ◌+◌, ◌-◌, ℕ, zero, suc, length, sym, subst, arith}
use Rattle.net_board.specs.Nodes.{NetOf, graph_in, nodes_of, node_count, first_node}
use Rattle.net_tables.proofs.TableLemmas.{first_next}

first_rises : (net : NetOf) (piece more : ℕ) → first_node net piece ≤ first_node net (piece + more)
first_rises net piece zero = let e : piece + 0 ≡ piece = omega arith in subst (λ n. first_node net piece ≤ first_node net n) (sym e) (omega arith)
first_rises net piece (suc more) =
    let r = first_rises net piece more in
    let n = first_next net (piece + more) in
    let e : (piece + more) + 1 ≡ piece + suc more = omega arith in
    subst (λ n. first_node net piece ≤ first_node net n) e (omega (arith, r, n))

-- the nodes of a piece are among all nodes
pub nodes_within : (net : NetOf) (piece : ℕ) → piece < (graph_in net).nodes → first_node net piece + node_count net piece ≤ length (nodes_of net)
nodes_within net piece below =
    let more : (d : ℕ) × ((piece + 1) + d ≡ (graph_in net).nodes) = ((graph_in net).nodes - (piece + 1), omega (arith, below)) in
    let r = first_rises net (piece + 1) more.0 in
    let n = first_next net piece in
    let last : first_node net (piece + 1) ≤ first_node net (graph_in net).nodes = subst (λ m. first_node net (piece + 1) ≤ first_node net m) more.1 r in
    omega (arith, last, n)
