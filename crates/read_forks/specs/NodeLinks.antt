-- What is looked up of each node: the lines that it needs, as links, if it is an operation, and the loads that wait for its firing.
use Rattle.std.specs.Prelude.{◌≡◌, ◌<◌, ◌≤◌, ◌+◌, ◌-◌, ◌^◌, ℕ, ◌==◌, ◌&&◌, Bool, true, false, List, [], ◌∷◌, length, Option, Some, None, slice_get}
use Rattle.std.specs.List.{list_any, range_with_len}
use Rattle.firing.specs.declared.system.NodeName.{NodeName}
use Rattle.firing.specs.declared.system.NodeName.TheVariants.{Act, Merge, Op, Switch}
use Rattle.op_board.specs.OperationNets.{OperationNet, needed, operation_node}
use Rattle.operation_tables.specs.Waits.{node_total, one_if, takes_from}
use Rattle.fork_board.specs.ForkTokens.{is_load_node}
use Rattle.read_forks.specs.Retests.{takes}
use Rattle.read_forks.specs.RisingLinks.{AreRising}
use Rattle.read_forks.specs.declared.steps.Link.{Link}
use Rattle.read_forks.specs.declared.steps.Step.{Step}

-- ---- links

-- the lines that a node moves
abbrev pub moved_lines : OperationNet → NodeName → List ℕ
moved_lines x (Op piece i) = needed x piece i
moved_lines x (Switch piece line) = line ∷ []
moved_lines x (Merge piece line) = line ∷ []
moved_lines x (Act piece) = 0 ∷ []

-- the node is a switch or a merge, or acts as a whole: it is no operation
abbrev pub is_turn : NodeName → Bool
is_turn (Op piece i) = false
is_turn _ = true

-- the lines for which a node has links, which operations have alone
abbrev pub linked_lines : OperationNet → NodeName → List ℕ
linked_lines x (Op piece i) = needed x piece i
linked_lines x _ = []

-- the node has a link for each of these lines, in their order
pub record HasLinks (x : OperationNet) (links : List Link) (k : ℕ) (step : Step) : Type 0 where
  pub count : step.count ≡ length (linked_lines x (operation_node x k))
  pub inside : step.first + step.count ≤ length links
  pub node : (j : ℕ) (link : Link) → j < step.count → slice_get links (step.first + j) ≡ Some link → link.node ≡ k
  pub line : (j : ℕ) (link : Link) → j < step.count → slice_get links (step.first + j) ≡ Some link → slice_get (linked_lines x (operation_node x k)) j ≡ Some link.line

-- the name is that of this operation
abbrev pub names_operation : NodeName → (piece number : ℕ) → Bool
names_operation (Op p i) piece number = (p == piece) && (i == number)
names_operation _ piece number = false

-- the line is open for the load, whose link this is
abbrev pub opens : OperationNet → (line piece number : ℕ) → Link → Bool
opens x line piece number link = names_operation (operation_node x link.node) piece number && ((link.line == line) && link.open)

abbrev pub opened_in : OperationNet → List Link → (line piece number : ℕ) → Bool
opened_in x links line piece number = list_any (opens x line piece number) links

-- ---- values

abbrev pub is_that : (giver : ℕ) → Option ℕ → Bool
is_that giver None = false
is_that giver (Some other) = other == giver

-- the node is listed there, from the first place on, among so many
abbrev pub is_listed : (giver : ℕ) → List ℕ → (first count : ℕ) → Bool
is_listed giver listed first count = list_any (λ n. is_that giver (slice_get listed n)) (range_with_len first count)

-- the loads whose values the node takes are listed
abbrev pub AreGivers : OperationNet → (givers : List ℕ) → (k : ℕ) → Step → Type 0
AreGivers x listed k step = (giver : ℕ) → giver < node_total x → is_load_node x (operation_node x giver) ≡ true → takes x (operation_node x k) giver ≡ true → is_listed giver listed step.giver step.givers ≡ true

-- this load takes the value of the node; no load does where no node has the number
abbrev pub IsLoadTaker : OperationNet → (k taker : ℕ) → Type 0
IsLoadTaker x k taker = (j : ℕ) → j < node_total x → is_load_node x (operation_node x j) ≡ true → takes_from x (operation_node x j) k ≡ one_if (j == taker)

-- ---- nodes

-- what is looked up of a node that is no operation: it has no links, and no value is taken from it or by it
abbrev pub turn_step : Step
turn_step = record { piece = 0; number = 0; first = 0; count = 0; giver = 0; givers = 0; taker = 2 ^ 32 - 1; loads = false; turns = true }

-- What is looked up of a node: what it is, and the lines for which it has links, in rising order.
pub record IsStep (x : OperationNet) (links : List Link) (k : ℕ) (step : Step) : Type 0 where
  pub named : (piece number : ℕ) → operation_node x k ≡ Op piece number → (step.piece ≡ piece) × (step.number ≡ number)
  pub loads : step.loads ≡ is_load_node x (operation_node x k)
  pub turns : step.turns ≡ is_turn (operation_node x k)
  pub has_links : HasLinks x links k step
  pub rise : AreRising links step

-- the link is one of those of its node
pub record IsOwnLink (x : OperationNet) (steps : List Step) (n : ℕ) (link : Link) : Type 0 where
  pub node : link.node < node_total x
  pub from : (step : Step) → slice_get steps link.node ≡ Some step → step.first ≤ n
  pub below : (step : Step) → slice_get steps link.node ≡ Some step → n < step.first + step.count

pub record AreSteps (x : OperationNet) (steps : List Step) (links : List Link) : Type 0 where
  pub all : length steps ≡ node_total x
  pub each : (k : ℕ) (step : Step) → slice_get steps k ≡ Some step → IsStep x links k step
  pub own : (n : ℕ) (link : Link) → slice_get links n ≡ Some link → IsOwnLink x steps n link

-- the loads whose values a node takes, and the load that takes its value
pub record AreValueLoads (x : OperationNet) (steps : List Step) (listed : List ℕ) : Type 0 where
  pub givers : (k : ℕ) (step : Step) → slice_get steps k ≡ Some step → AreGivers x listed k step
  pub taker : (k : ℕ) (step : Step) → slice_get steps k ≡ Some step → IsLoadTaker x k step.taker
  pub inside : (k : ℕ) (step : Step) → slice_get steps k ≡ Some step → step.giver + step.givers ≤ length listed
  pub loads : (n giver : ℕ) → slice_get listed n ≡ Some giver → is_load_node x (operation_node x giver) ≡ true
  pub exist : (n giver : ℕ) → slice_get listed n ≡ Some giver → giver < node_total x
  pub takers : (k : ℕ) (step : Step) → slice_get steps k ≡ Some step → step.taker < node_total x → is_load_node x (operation_node x step.taker) ≡ true
