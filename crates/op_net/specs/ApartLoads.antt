-- Nets of which another game leads some nodes: what a load does but for the lines that it needs, and the operations that a line comes to.
use Rattle.std.specs.Prelude.{◌≡◌, ◌<◌, ℕ, Bool, true, false, List, filter, Option, None, Some}
use Rattle.std.specs.List.{range_with_len}
use Rattle.firing.specs.ReadySet.{has}
use Rattle.firing.specs.declared.system.NodeName.TheVariants.{Op}
use Rattle.op_board.specs.Operations.{Operand, Known, From}
use Rattle.op_board.specs.OperationNets.{OperationNet, operation_count}
use Rattle.op_board.specs.OperationTokens.{OperationTokens, fired_as, operation_moves}
use Rattle.op_net.specs.declared.net.OpNet.{OpNet}
use Rattle.operation_tables.specs.declared.telling.OpName.{OpName}
use Rattle.operation_tables.specs.declared.telling.OpName.TheVariants.{Load}
use Rattle.op_net.specs.NetView.{marking_of, net_of}
use Rattle.operation_places.specs.PlacesView.{KeepsCounts}
use Rattle.operation_tables.specs.Waits.{node_total}

module _ {W : ℕ} where
  -- it isn't counted for how much each node waits
  abbrev pub IsUncounted : OpNet W → Type 0
  IsUncounted s = s.places.counted ≡ false

  -- it is
  abbrev pub IsCounting : OpNet W → Type 0
  IsCounting s = s.places.counted ≡ true

  -- the nodes that another game leads
  abbrev pub apart_of : OpNet W → List Bool
  apart_of s = s.places.apart.items

  abbrev pub is_apart : OpNet W → ℕ → Bool
  is_apart s k = has (apart_of s) k

  -- the marks of nodes
  abbrev pub flags_of : OpNet W → List Bool
  flags_of s = s.places.set

  -- of the nodes that no other game leads those are marked that are ready
  abbrev pub MarksOthers : OpNet W → Type 0
  MarksOthers s = (k : ℕ) → k < node_total (net_of s) → is_apart s k ≡ false → has (flags_of s) k ≡ (operation_moves (net_of s)).ready (marking_of s) k

  -- the same nodes are led by another game, their marks are as they were, and it is counted as before
  abbrev pub KeepsApart : OpNet W → OpNet W → Type 0
  KeepsApart old new = KeepsCounts old.places new.places

-- the operands are taken and the value is given, and nothing else has changed
abbrev pub loaded_apart : OperationNet → OperationTokens → (k piece i : ℕ) → OperationTokens
loaded_apart x m k piece i = record m { values = (fired_as x m k (Op piece i)).values }

-- the operations of a piece that need a line
abbrev pub needing : OperationNet → (piece line : ℕ) → List ℕ
needing x piece line = filter (λ i. x.needs piece i line) (range_with_len 0 (operation_count x piece))

-- the operation of its piece that gives the operand, unless that is known
abbrev pub giver_of : Operand → Option ℕ
giver_of (Known z) = None
giver_of (From number) = Some number

abbrev pub is_load_name : OpName → Bool
is_load_name Load = true
is_load_name _ = false
