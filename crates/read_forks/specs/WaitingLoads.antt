-- For what loads wait, as it is looked up, and the marks of those that wait for nothing.
use Rattle.std.specs.Prelude.{◌≡◌, ◌<◌, ℕ, ◌==◌, ◌&&◌, Bool, true, false, not, List, length, Option, Some, None, is_some, slice_get}
use Rattle.std.specs.List.{list_all}
use Rattle.firing.specs.ReadySet.{has}
use Rattle.firing.specs.declared.system.NodeName.{NodeName}
use Rattle.firing.specs.declared.system.NodeName.TheVariants.{Op}
use Rattle.op_board.specs.OperationNets.{OperationNet, operation_at, operation_node}
use Rattle.op_board.specs.OperationTokens.{OperationTokens, is_given, value_at}
use Rattle.op_net.specs.ApartLoads.{apart_of, flags_of}
use Rattle.op_net.specs.NetView.{marking_of, net_of}
use Rattle.operation_tables.specs.Waits.{node_total}
use Rattle.op_net.specs.declared.net.OpNet.{OpNet}
use Rattle.fork_board.specs.ForkTokens.{is_load_node}

-- the operands of the operation are there, and its own value was taken
abbrev pub has_values : OperationNet → OperationTokens → (k : ℕ) → NodeName → Bool
has_values x m k (Op piece i) = list_all (is_given x m piece) (operation_at x piece i).operands && not (is_some (value_at m k))
has_values x m k _ = false

-- the number there is 0
abbrev pub is_none_left : Option ℕ → Bool
is_none_left None = false
is_none_left (Some left) = left == 0

-- the load waits neither for a line nor for values
abbrev pub waits_for_nothing : OperationNet → OperationTokens → (closed : List ℕ) → (k : ℕ) → Bool
waits_for_nothing x m closed k = is_none_left (slice_get closed k) && has_values x m k (operation_node x k)

-- no mark of a load that told whether it waits for nothing has become wrong
pub record KeepsMarks (x : OperationNet) (m : OperationTokens) (old new : List ℕ) (before after : List Bool) : Type 0 where
  pub room : length after ≡ length before
  pub marks : (k : ℕ) → k < node_total x → k < length before → is_load_node x (operation_node x k) ≡ true → has before k ≡ waits_for_nothing x m old k → has after k ≡ waits_for_nothing x m new k

module _ {W : ℕ} where
  -- nothing but marks has changed
  pub record IsRemarked (old new : OpNet W) : Type 0 where
    pub net : net_of new ≡ net_of old
    pub marking : marking_of new ≡ marking_of old
    pub place : new.control ≡ old.control
    pub text : new.text.items ≡ old.text.items
    pub apart : apart_of new ≡ apart_of old
    pub counted : new.places.counted ≡ old.places.counted
    pub room : length (flags_of new) ≡ length (flags_of old)
