-- Lines that the firing of a node which is no load has led on.
use Rattle.std.specs.Prelude.{◌≡◌, ◌<◌, ℕ, suc, true, false, Some}
use Rattle.closed_walks.specs.Graph.{to}
use Rattle.firing.specs.declared.system.NodeName.{NodeName}
use Rattle.firing.specs.declared.system.NodeName.TheVariants.{Op}
use Rattle.net_board.specs.Nodes.{graph_in}
use Rattle.net_board.specs.Tokens.{edge_of}
use Rattle.op_board.specs.OperationNets.{OperationNet, is_last_at, needing_before}
use Rattle.op_board.specs.OperationTokens.{OperationTokens, passed_by}
use Rattle.read_forks.specs.KeptLoads.{IsOpenForNone}
use Rattle.read_forks.specs.LoadChanges.{Loaded}

-- the operation has let the line pass: it stands before the next one of the piece that needs it, or it has left the piece
pub record HasPassed (x : OperationNet) (m : OperationTokens) (piece i line edge : ℕ) : Type 0 where
  pub within : is_last_at x piece i line ≡ false → to (graph_in x.net) edge ≡ piece
  pub after : is_last_at x piece i line ≡ false → passed_by m line ≡ suc (needing_before x piece i line)
  pub left : is_last_at x piece i line ≡ true → passed_by m line ≡ 0

-- where a line stands that the node has let pass, unless it has vanished
abbrev pub HasGoneOn : OperationNet → OperationTokens → NodeName → (line : ℕ) → Type 0
HasGoneOn x m (Op piece i) line = (edge : ℕ) → edge_of m.tokens line ≡ Some edge → HasPassed x m piece i line edge
HasGoneOn x m _ line = passed_by m line ≡ 0

-- the node has let the line pass, which is open for no load yet
pub record IsLedOn (x : OperationNet) (m : OperationTokens) (opened : Loaded) (name : NodeName) (line : ℕ) : Type 0 where
  pub exists : line < x.net.routing.lines
  pub gone : HasGoneOn x m name line
  pub none : IsOpenForNone opened line
