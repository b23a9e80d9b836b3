-- What the nodes of a net of operations still wait for.
use Rattle.std.specs.Prelude.{◌≡◌, ◌<◌, ◌+◌, ◌==◌, ◌&&◌, ℕ, Bool, true, false, not, if◌then◌else◌, List, [], ◌∷◌, length, Option, is_some}
use Rattle.std.specs.List.{list_any}
use Rattle.firing.specs.ReadySet.{has}
use Rattle.firing.specs.declared.system.NodeName.{NodeName}
use Rattle.firing.specs.declared.system.NodeName.TheVariants.{Act, Merge, Op, Switch}
use Rattle.net_board.specs.Nodes.{graph_in, switches}
use Rattle.net_board.specs.Tokens.{is_before, leads_to, left_for}
use Rattle.net_board.specs.WokenNodes.{switch_number}
use Rattle.op_board.specs.Operations.{Work, is_decision}
use Rattle.op_board.specs.OperationNets.{OperationNet, all_operation_nodes, needed, needing_before, operation_at, operation_node}
use Rattle.op_board.specs.OperationTokens.{OperationTokens, givers, is_given, stands_before, value_at}

-- 1 where this holds
abbrev pub one_if : Bool → ℕ
one_if true = 1
one_if false = 0

-- how many of the list don't pass the test
abbrev pub failing : {A : Type 0} → (A → Bool) → List A → ℕ
failing passes [] = 0
failing passes (a ∷ more) = one_if (not (passes a)) + failing passes more

-- how many of the switches of its piece a decision waits for, since they haven't taken what was left for them
abbrev pub waits_for_room : OperationNet → OperationTokens → (piece : ℕ) → Work → ℕ
waits_for_room x m piece work = if is_decision work then failing (λ switch. not (is_some (left_for m.tokens switch))) (switches x.net piece) else 0

-- An operation waits for each line that it needs and that doesn't stand before it, for each operand that isn't there, and for its own
-- value to be taken; a switch for its line and for an edge that is left for it; a merge for its line.
abbrev pub waits_as : OperationNet → OperationTokens → (k : ℕ) → NodeName → ℕ
waits_as x m k (Op piece i) =
    failing (stands_before x m piece i) (needed x piece i)
    + (failing (is_given x m piece) (operation_at x piece i).operands
    + (one_if (is_some (value_at m k)) + waits_for_room x m piece (operation_at x piece i).work))
waits_as x m k (Switch piece line) = one_if (not (is_before x.net m.tokens piece line)) + one_if (not (is_some (left_for m.tokens (switch_number x.net piece line))))
waits_as x m k (Merge piece line) = one_if (not (is_before x.net m.tokens piece line))
waits_as x m k (Act piece) = 1

-- for how much the node waits
abbrev pub waits : OperationNet → OperationTokens → (k : ℕ) → ℕ
waits x m k = waits_as x m k (operation_node x k)

-- the same, where a node that another game leads waits for that game too
abbrev pub awaits : OperationNet → (apart : List Bool) → OperationTokens → (k : ℕ) → ℕ
awaits x apart m k = waits x m k + one_if (has apart k)

-- how many nodes there are; no node has this number
abbrev pub node_total : OperationNet → ℕ
node_total x = length (all_operation_nodes x)

-- ---- lines

abbrev pub goes_through : OperationNet → NodeName → (line : ℕ) → Bool
goes_through x (Op piece i) line = x.needs piece i line
goes_through x (Switch piece own) line = own == line
goes_through x (Merge piece own) line = own == line
goes_through x (Act piece) line = false

-- a line that stands on this edge, and has passed so many of the operations that need it, stands before the node
abbrev pub stands_at : OperationNet → (edge : Option ℕ) → (passed : ℕ) → NodeName → (line : ℕ) → Bool
stands_at x edge passed (Op piece i) line = leads_to (graph_in x.net) piece edge && (passed == needing_before x piece i line)
stands_at x edge passed (Switch piece own) line = leads_to (graph_in x.net) piece edge
stands_at x edge passed (Merge piece own) line = leads_to (graph_in x.net) piece edge
stands_at x edge passed (Act piece) line = false

-- A line that stands there stands before this node, and before no other one. Where k is the number of all nodes it stands before none.
abbrev pub IsNodeBefore : OperationNet → (line : ℕ) (edge : Option ℕ) (passed k : ℕ) → Type 0
IsNodeBefore x line edge passed k = (j : ℕ) → j < node_total x → (goes_through x (operation_node x j) line && stands_at x edge passed (operation_node x j) line) ≡ (j == k)

-- ---- values

-- how many of the operands are the value of node k
abbrev pub operands_from : List ℕ → (k : ℕ) → ℕ
operands_from [] k = 0
operands_from (giver ∷ more) k = one_if (giver == k) + operands_from more k

abbrev pub takes_from : OperationNet → NodeName → (k : ℕ) → ℕ
takes_from x (Op piece i) k = operands_from (givers x piece (operation_at x piece i).operands) k
takes_from x _ k = 0

-- this node takes the value of node k once, and no other one does
abbrev pub IsNodeAfter : OperationNet → (k taker : ℕ) → Type 0
IsNodeAfter x k taker = (j : ℕ) → j < node_total x → takes_from x (operation_node x j) k ≡ one_if (j == taker)

-- ---- switches

-- the node is the decision of the piece of this switch, which is told by its number in the net of statements
abbrev pub decides_for : OperationNet → NodeName → (switch : ℕ) → Bool
decides_for x (Op piece i) switch = is_decision (operation_at x piece i).work && list_any (λ n. n == switch) (switches x.net piece)
decides_for x _ switch = false

-- the node is this switch
abbrev pub is_switch_at : OperationNet → NodeName → (switch : ℕ) → Bool
is_switch_at x (Switch piece line) switch = switch_number x.net piece line == switch
is_switch_at x _ switch = false

-- the node is a switch of this piece
abbrev pub IsSwitchOf : NodeName → (piece : ℕ) → Type 0
IsSwitchOf (Switch other line) piece = other ≡ piece
IsSwitchOf _ piece = ⊥

-- of the switch with the first number these are the node and its decision
pub record AreSwitchNodes (x : OperationNet) (switch node decision : ℕ) : Type 0 where
  pub decided : (j : ℕ) → j < node_total x → decides_for x (operation_node x j) switch ≡ (j == decision)
  pub taken : (j : ℕ) → j < node_total x → is_switch_at x (operation_node x j) switch ≡ (j == node)
