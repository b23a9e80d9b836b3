-- The markings of a net, which of its nodes are ready there, and what they lead to.
use Rattle.std.specs.Prelude.{ℕ, ◌&&◌, ◌==◌, Bool, false, not, if◌then◌else◌, List, [], ◌∷◌, length, map, fold, replicate, Option, Some, None, is_some, slice_get, slice_set}
use Rattle.std.specs.List.{list_all}
use Rattle.op_table.specs.declared.Trap.{Trap}
use Rattle.closed_walks.specs.Graph.{Graph, to}
use Rattle.f77_tree.specs.Execution.{Memory}
use Rattle.f77_tree.specs.Run.{first_memory}
use Rattle.cfg_build.specs.Flow.{flow, piece_at}
use Rattle.cfg_build.specs.Passes.{Passed, Along, Traps, Done, out, pass_of}
use Rattle.dep_routing.specs.Routing.{next_at}
use Rattle.dep_routing.specs.Touches.{piece_kind, exec_kind}
use Rattle.firing.specs.declared.system.NodeName.{NodeName}
use Rattle.firing.specs.declared.system.NodeName.TheVariants.{Act, Merge, Switch, Op}
use Rattle.firing.specs.Moves.{Moves}
use Rattle.net_board.specs.Nodes.{NetOf, graph_in, all_lines, touched, nodes_of, node_at, switches}

-- What the nodes have to work on. A line stands on an edge, or has vanished at a trap; the node of a branch leaves for each of
-- its switches the edge that it took, and goes on only when all have taken that.
pub record Tokens : Type 0 where
  pub lines : List (Option ℕ)
  -- for each node the edge that is left for it
  pub edges : List (Option ℕ)
  pub memory : Memory
  -- what trapped, and at which line of the source
  pub trap : Option (Trap × ℕ)

abbrev pub joined : Option (Option ℕ) → Option ℕ
joined None = None
joined (Some edge) = edge

-- the edge on which a line stands
abbrev pub edge_of : Tokens → ℕ → Option ℕ
edge_of m line = joined (slice_get m.lines line)

-- the edge that is left for a node
abbrev pub left_for : Tokens → ℕ → Option ℕ
left_for m k = joined (slice_get m.edges k)

-- ---- which nodes are ready

abbrev pub leads_to : Graph → ℕ → Option ℕ → Bool
leads_to g piece None = false
leads_to g piece (Some edge) = to g edge == piece

-- the line stands on an edge to the piece
abbrev pub is_before : NetOf → Tokens → (piece line : ℕ) → Bool
is_before net m piece line = leads_to (graph_in net) piece (edge_of m line)

abbrev pub ready_as : NetOf → Tokens → ℕ → NodeName → Bool
ready_as net m k (Act piece) = list_all (is_before net m piece) (touched net piece) && list_all (λ switch. not (is_some (left_for m switch))) (switches net piece)
ready_as net m k (Switch piece line) = is_before net m piece line && is_some (left_for m k)
ready_as net m k (Merge piece line) = is_before net m piece line
ready_as net m k (Op piece i) = false

-- ---- what a piece does

-- The pass of a piece: the edge that it takes, the memory then, and the text that it writes; or its trap.
abbrev pub pass_at : NetOf → (piece : ℕ) → Memory → Passed
pass_at net piece m = pass_of net.program net.input m (out (graph_in net) piece) (piece_kind net.program piece) (exec_kind net.program piece)

-- the line of the source at which a piece stands
abbrev pub source_line : NetOf → ℕ → ℕ
source_line net piece = (piece_at (flow net.program.execs).pieces piece).line

-- ---- what firings do

-- these places have these values, and all others what they had
abbrev pub with_all : List (Option ℕ) → List ℕ → (ℕ → Option ℕ) → List (Option ℕ)
with_all values places value = fold (λ done place. slice_set done place (value place)) values places

-- the edge to which a line is led from this one
abbrev pub led_from : NetOf → (edge line : ℕ) → Option ℕ
led_from net edge line = Some (next_at net.routing line edge)

-- the lines that the piece touches are led along the edge, and the edge is left for its switches
abbrev pub gone : NetOf → Tokens → (piece edge : ℕ) → Memory → Tokens
gone net m piece edge memory = record {
  lines = with_all m.lines (touched net piece) (led_from net edge);
  edges = with_all m.edges (switches net piece) (λ switch. Some edge);
  memory = memory;
  trap = m.trap;
}

-- the lines that the piece touches vanish
abbrev pub stopped : NetOf → Tokens → (piece : ℕ) → Trap → Tokens
stopped net m piece trap = record m { lines = with_all m.lines (touched net piece) (λ line. None); trap = Some (trap, source_line net piece) }

-- A piece that doesn't touch the line of output can't stop the net. Where it would trap, it goes on by its first edge with no word
-- changed. No run of the program comes to that.
abbrev pub acted : NetOf → Tokens → (piece : ℕ) → Passed → Tokens
acted net m piece (Along edge memory text) = gone net m piece edge memory
acted net m piece (Traps trap) = if net.touches piece 0 then stopped net m piece trap else gone net m piece (out (graph_in net) piece 0) m.memory
acted net m piece Done = gone net m piece (out (graph_in net) piece 0) m.memory

-- the line is led along the edge that is left for the switch
abbrev pub switched : NetOf → Tokens → (k line : ℕ) → Option ℕ → Tokens
switched net m k line None = m
switched net m k line (Some edge) = record m { lines = slice_set m.lines line (led_from net edge line); edges = slice_set m.edges k None }

-- the line is led along the one edge that leaves the piece
abbrev pub merged : NetOf → Tokens → (piece line : ℕ) → Tokens
merged net m piece line = record m { lines = slice_set m.lines line (led_from net (out (graph_in net) piece 0) line) }

abbrev pub fired_as : NetOf → Tokens → ℕ → NodeName → Tokens
fired_as net m k (Act piece) = acted net m piece (pass_at net piece m.memory)
fired_as net m k (Switch piece line) = switched net m k line (left_for m k)
fired_as net m k (Merge piece line) = merged net m piece line
fired_as net m k (Op piece i) = m

-- ---- what firings write

-- a text, where there is one
abbrev pub written : List ℕ → Option (List ℕ)
written [] = None
written (byte ∷ more) = Some (byte ∷ more)

abbrev pub text_of : Passed → Option (List ℕ)
text_of (Along edge memory text) = written text
text_of (Traps trap) = None
text_of Done = None

abbrev pub line_as : NetOf → Tokens → NodeName → Option (List ℕ)
line_as net m (Act piece) = text_of (pass_at net piece m.memory)
line_as net m _ = None

-- ---- the moves

-- the node goes through the line of output
abbrev pub serial_as : NetOf → NodeName → Bool
serial_as net (Act piece) = net.touches piece 0
serial_as net (Switch piece line) = line == 0
serial_as net (Merge piece line) = line == 0
serial_as net (Op piece i) = false

abbrev pub net_moves : NetOf → Moves Tokens
net_moves net = record {
  nodes = length (nodes_of net);
  name = node_at net;
  serial = λ k. serial_as net (node_at net k);
  ready = λ m k. ready_as net m k (node_at net k);
  fired = λ m k. fired_as net m k (node_at net k);
  line = λ m k. line_as net m (node_at net k);
  trap = λ m. m.trap;
}

-- each line stands where it is led from the edge that leaves the start, nothing is left for any switch, and the words are the
-- initial ones
abbrev pub first_tokens : NetOf → Tokens
first_tokens net = record {
  lines = map (led_from net 1) (all_lines net);
  edges = replicate (length (nodes_of net)) None;
  memory = first_memory net.program;
  trap = None;
}
