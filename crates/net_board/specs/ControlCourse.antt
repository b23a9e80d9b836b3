-- How control goes through a net in the program's own order: along the edges of the flow graph, and at each piece from node to node.
use Rattle.std.specs.Prelude.{ℕ, zero, suc, ◌+◌, ◌==◌, ◌&&◌, ◌||◌, Bool, not, nat_lt, if◌then◌else◌, Option, Some, None}
use Rattle.closed_walks.specs.Graph.{to}
use Rattle.cfg_build.specs.Joined.{is_end}
use Rattle.cfg_build.specs.Passes.{Passed, Along, Traps, Done, out}
use Rattle.firing.specs.Control.{Course}
use Rattle.net_board.specs.declared.control.Control.{Control}
use Rattle.net_board.specs.Nodes.{NetOf, graph_in, kind_in, node_count, first_node}
use Rattle.net_board.specs.Tokens.{Tokens, pass_at}

-- ---- from piece to piece

-- control has nothing to fire at the piece, and goes on
abbrev pub is_idle : NetOf → ℕ → Bool
is_idle net piece = (node_count net piece == 0) && not (is_end (kind_in net piece))

-- past the piece at which the edge ends, if that is idle
abbrev pub passed : NetOf → (edge : ℕ) → ℕ
passed net edge = let piece = to (graph_in net) edge in if is_idle net piece then out (graph_in net) piece 0 else edge

-- past so many idle pieces at most, one after another
abbrev pub passed_times : NetOf → (times edge : ℕ) → ℕ
passed_times net zero edge = edge
passed_times net (suc n) edge = passed_times net n (passed net edge)

-- The next piece with nodes that control comes to along the edge, or the end: control passes no more idle pieces than there are.
abbrev pub arrival : NetOf → (edge : ℕ) → ℕ
arrival net edge = to (graph_in net) (passed_times net (graph_in net).nodes edge)

-- past so many idle pieces at most: 1, 2, 4, and so on
unfoldable pub passed_by : (doublings : ℕ) → NetOf → (edge : ℕ) → ℕ
passed_by zero net edge = passed net edge
passed_by (suc n) net edge = passed_by n net (passed_by n net edge)

-- the piece that control comes to by 18 doublings
abbrev pub doubled_arrival : NetOf → (edge : ℕ) → ℕ
doubled_arrival net edge = to (graph_in net) (passed_by 18 net edge)

-- ---- places

-- control comes along the edge, and no node of the next piece has fired
abbrev pub arrived : NetOf → (edge : ℕ) → Control
arrived net edge = record { piece = arrival net edge; fired = 0; leaves = 0 }

-- the edge of a pass, or the other where it takes none
abbrev pub edge_or : (other : ℕ) → Passed → ℕ
edge_or other (Along edge memory text) = edge
edge_or other (Traps trap) = other
edge_or other Done = other

-- the edge by which control leaves the piece, which its first node tells
abbrev pub taken : NetOf → Tokens → Control → ℕ
taken net m c = if c.fired == 0 then edge_or (out (graph_in net) c.piece 0) (pass_at net c.piece m.memory) else c.leaves

-- the next node of the piece
abbrev pub due_node : NetOf → Control → Option ℕ
due_node net c = if nat_lt c.fired (node_count net c.piece) then Some (first_node net c.piece + c.fired) else None

-- Once all nodes of the piece have fired control goes on, but never from the end.
abbrev pub moved_on : NetOf → Tokens → Control → Control
moved_on net m c =
    if nat_lt (suc c.fired) (node_count net c.piece) || is_end (kind_in net c.piece)
    then record { piece = c.piece; fired = suc c.fired; leaves = taken net m c }
    else arrived net (taken net m c)

abbrev pub net_course : NetOf → Course Tokens Control
net_course net = record { due = λ m c. due_node net c; moved = moved_on net }

-- at first control comes along the edge that leaves the start
abbrev pub first_control : NetOf → Control
first_control net = arrived net 1
