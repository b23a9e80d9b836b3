-- What is looked up of nodes, as it is made, node by node.
use Rattle.std.specs.Prelude.{◌≡◌, ◌<◌, ℕ, false, List, [], ◌∷◌, ◌++◌, length, filter, Some, slice_get}
use Rattle.op_board.specs.Operations.{Operand}
use Rattle.op_board.specs.OperationNets.{OperationNet, operation_node}
use Rattle.op_board.specs.OperationTokens.{givers}
use Rattle.fork_board.specs.ForkTokens.{is_load_node}
use Rattle.read_forks.specs.NodeLinks.{AreValueLoads, IsOwnLink, IsStep}
use Rattle.read_forks.specs.Ways.{IsWayOf}
use Rattle.read_forks.specs.declared.steps.Link.{Link}
use Rattle.read_forks.specs.declared.steps.Step.{Step}
use Rattle.read_forks.specs.declared.ways.Way.{Way}
use Rattle.read_forks.specs.declared.ways.Way.TheVariants.{Out}

-- the link of a node for a line before it is known where the line goes on: it leads out, and isn't open
abbrev pub new_link_of : (k line : ℕ) → Link
new_link_of k line = record { line = line; node = k; way = Out; «open» = false }

-- the loads whose values an operation takes
abbrev pub load_givers : OperationNet → (piece : ℕ) → List Operand → List ℕ
load_givers x piece operands = filter (λ k. is_load_node x (operation_node x k)) (givers x piece operands)

-- no link is open
abbrev pub AreShut : List Link → Type 0
AreShut links = (n : ℕ) (link : Link) → slice_get links n ≡ Some link → link.open ≡ false

-- the nodes below n have their steps and their links
pub record AreStepsBelow (x : OperationNet) (n : ℕ) (steps : List Step) (links : List Link) : Type 0 where
  pub all : length steps ≡ n
  pub each : (k : ℕ) (step : Step) → slice_get steps k ≡ Some step → IsStep x links k step
  pub own : (at : ℕ) (link : Link) → slice_get links at ≡ Some link → IsOwnLink x steps at link
  pub below : (at : ℕ) (link : Link) → slice_get links at ≡ Some link → link.node < n
  pub shut : AreShut links

-- and the loads whose values they take, and that take theirs
pub record AreTablesBelow (x : OperationNet) (n : ℕ) (steps : List Step) (links : List Link) (listed : List ℕ) : Type 0 where
  pub steps_made : AreStepsBelow x n steps links
  pub values : AreValueLoads x steps listed

-- it is known where lines go on from the nodes of the links below this one
abbrev pub AreWaysBelow : OperationNet → (n : ℕ) → List Link → Type 0
AreWaysBelow x n links = (at : ℕ) (link : Link) → at < n → slice_get links at ≡ Some link → IsWayOf x links (operation_node x link.node) link.line link.way

-- where the line goes on from the node of this link
abbrev pub IsWayAt : OperationNet → List Link → (at : ℕ) → Way → Type 0
IsWayAt x links at way = (link : Link) → slice_get links at ≡ Some link → ∥ IsWayOf x links (operation_node x link.node) link.line way ∥₁

-- the load whose value this operand is was appended, if there is one
abbrev pub AppendsGiver : OperationNet → (piece : ℕ) → List Operand → (j : ℕ) → (old new : List ℕ) → Type 0
AppendsGiver x piece operands j old new = (operand : Operand) → slice_get operands j ≡ Some operand → new ≡ old ++ load_givers x piece (operand ∷ [])
