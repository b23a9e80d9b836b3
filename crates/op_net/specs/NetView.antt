-- What contracts see of a net of operations.
use Rattle.std.specs.Prelude.{◌≡◌, ℕ, true, []}
use Rattle.f77_meaning.specs.Storage.{memory_of}
use Rattle.op_board.specs.OperationNets.{OperationNet}
use Rattle.op_board.specs.OperationTokens.{OperationTokens}
use Rattle.op_net.specs.declared.net.OpNet.{OpNet}
use Rattle.operation_tables.specs.BoardView.{operation_net_on}

module _ {W : ℕ} where
  -- what firings never change
  abbrev pub net_of : OpNet W → OperationNet
  net_of s = operation_net_on s.board

  abbrev pub marking_of : OpNet W → OperationTokens
  marking_of s = record {
    tokens = record { lines = s.places.lines.items; edges = s.places.edges.items; memory = memory_of s.storage; trap = s.trapped };
    passed = s.places.passed.items;
    values = s.places.values.items;
  }

  -- it is counted for how much each node waits, and no other game leads a node
  pub record KeepsSet (s : OpNet W) : Type 0 where
    pub counted : s.places.counted ≡ true
    pub whole : s.places.apart.items ≡ []
