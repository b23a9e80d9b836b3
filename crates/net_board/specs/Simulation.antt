-- What the laws say of a net beside the run of its program.
use Rattle.std.specs.Prelude.{◌≡◌, ◌<◌, ◌≤◌, ◌*◌, ℕ, List, length, Some, None}
use Rattle.closed_walks.specs.Graph.{edge_count}
use Rattle.region_tree.specs.Tree.{Tree}
use Rattle.f77_tree.specs.declared.programs.Program.{Program}
use Rattle.f77_tree.specs.Run.{Running, source}
use Rattle.f77_tree.specs.WellFormed.{AreExecs}
use Rattle.cfg_build.specs.declared.pieces.PieceKind.TheVariants as kind
use Rattle.cfg_build.specs.Chains.{passes_of}
use Rattle.cfg_build.specs.Degrees.{in_degree}
use Rattle.cfg_build.specs.Flow.{flow}
use Rattle.cfg_build.specs.Passes.{passes}
use Rattle.dep_routing.specs.Routing.{Routing, next_at}
use Rattle.firing.specs.Orders.{IsWhole, after}
use Rattle.firing.specs.Pacing.{IsSimulation}
use Rattle.firing.specs.SourceOrder.{IsDueOrder}
use Rattle.net_board.specs.NetLockstep.{IsBetween}
use Rattle.net_board.specs.ControlCourse.{first_control, net_course}
use Rattle.net_board.specs.Nodes.{NetOf, graph_in, kind_in}
use Rattle.net_board.specs.OwnOrder.{own_order}
use Rattle.net_board.specs.ProgramStages.{program_stage, program_text}
use Rattle.net_board.specs.Tokens.{Tokens, edge_of, left_for, first_tokens, net_moves}

-- the executables of the program are well formed
abbrev pub HasExecs : NetOf → Type 0
HasExecs net = AreExecs net.program.names net.program.execs net.program.loops

-- the piece is the end, and one edge leads to it
pub record IsLoneEnd (net : NetOf) (piece : ℕ) : Type 0 where
  pub exists : piece < (graph_in net).nodes
  pub is_end : kind_in net piece ≡ kind.End
  pub one : in_degree (graph_in net) piece ≡ 1

-- the marking after the firings of so many steps of the program
abbrev pub marking_after : NetOf → (steps : ℕ) → Tokens
marking_after net steps = after (net_moves net) (first_tokens net) (own_order net steps)

-- the edge on which control is after so many steps, while the run goes on
abbrev pub edge_after : NetOf → (steps : ℕ) → ℕ
edge_after net steps = (passes net.program net.input (passes_of net.program net.input steps)).edge

-- the source's own order stays in lockstep with the steps of the program
abbrev pub Simulates : NetOf → Type 0
Simulates net = IsSimulation (net_moves net) (first_tokens net) (program_text net) (program_stage net) (own_order net)

-- each firing of so many steps is due in its turn
abbrev pub IsDueInTurn : NetOf → (steps : ℕ) → Type 0
IsDueInTurn net steps = IsDueOrder (net_moves net) (net_course net) (first_tokens net) (first_control net) (own_order net steps)

-- there are five firings for each line and step at most
abbrev pub AreFew : NetOf → (steps : ℕ) → Type 0
AreFew net steps = length (own_order net steps) ≤ 5 * net.routing.lines * steps

-- the words, counts and steps are those of the program
abbrev pub HasMemoryAfter : NetOf → (steps : ℕ) → Type 0
HasMemoryAfter net steps = (marking_after net steps).memory ≡ (source net.program net.input steps).memory

-- While the run goes on, each token line stands in its place for the edge on which control is, and nothing is left for any switch.
abbrev pub StandsAfter : NetOf → Tree → (steps : ℕ) → Type 0
StandsAfter net t steps = (source net.program net.input steps).mark ≡ Running → IsBetween net t (marking_after net steps) (edge_after net steps) (source net.program net.input steps).memory

-- each token line is on edge 0, which leads from the end back to the start, and nothing is left for any switch
pub record IsAtEnd (net : NetOf) (m : Tokens) : Type 0 where
  pub lines : (line : ℕ) → line < net.routing.lines → edge_of m line ≡ Some 0
  pub edges : (k : ℕ) → left_for m k ≡ None

-- where no node may fire any more after firings in this order, and nothing has trapped, the net is at the end
abbrev pub RestsAtEnd : NetOf → (ks : List ℕ) → Type 0
RestsAtEnd net ks = IsWhole (net_moves net) (first_tokens net) ks → (after (net_moves net) (first_tokens net) ks).trap ≡ None → IsAtEnd net (after (net_moves net) (first_tokens net) ks)

-- each line is led to an edge of the graph
abbrev pub LeadsLines : Program → Routing → Type 0
LeadsLines p routing = (line edge : ℕ) → line < routing.lines → edge < edge_count (flow p.execs).graph → next_at routing line edge < edge_count (flow p.execs).graph
