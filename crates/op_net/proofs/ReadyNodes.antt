-- Which nodes are ready, told by what they wait for.
use Rattle.std.proofs.Common.{◌≡◌, ◌<◌, ◌==◌, ℕ, Bool, true, false, List, Option, sym, ap, ◌∙◌, arith}
use Rattle.op_table.specs.declared.Trap.{Trap}
use Rattle.f77_tree.specs.Execution.{Memory}
use Rattle.f77_meaning.specs.Storage.{memory_of}
use Rattle.firing.specs.Marks.{AreMarks}
use Rattle.firing.specs.ReadySet.{has}
use Rattle.op_board.specs.OperationNets.{OperationNet, operation_node}
use Rattle.op_board.specs.OperationTokens.{OperationTokens, operation_moves}
use Rattle.op_net.specs.declared.net.OpNet.{OpNet}
use Rattle.operation_places.specs.declared.places.Places.{Places}
use Rattle.op_net.specs.NetView.{KeepsSet, marking_of, net_of}
use Rattle.operation_places.specs.PlacesView.{IsCounted, standing}
use Rattle.operation_tables.specs.Waits.{awaits, node_total, one_if, waits}
use Rattle.op_net.proofs.WaitCounts.{ready_alike}

-- a node that no other game leads waits for nothing else
awaited : (x : OperationNet) (apart : List Bool) (m : OperationTokens) (k : ℕ) → has apart k ≡ false → awaits x apart m k ≡ waits x m k
awaited x apart m k free = let none : one_if (has apart k) ≡ 0 = ap one_if free in omega (arith, none)

-- of those nodes the set tells which are ready, while that is asked for
pub others_marked : (x : OperationNet) (s : Places) (memory : Memory) (trap : Option (Trap × ℕ)) → IsCounted x s → s.counted ≡ true → (k : ℕ) → k < node_total x → has s.apart.items k ≡ false → has s.set k ≡ (operation_moves x).ready (record (standing s) { tokens = record (standing s).tokens { memory = memory; trap = trap } }) k
others_marked x s memory trap are counted k below free =
    (are.marks counted).right k below free
    ∙ ap (λ n. n == 0) (awaited x s.apart.items (standing s) k free)
    ∙ sym (ready_alike x (standing s) memory trap k (operation_node x k))

module _ {W : ℕ} (s : OpNet W) where
  pub node_ready : (k : ℕ) → (operation_moves (net_of s)).ready (marking_of s) k ≡ (waits (net_of s) (standing s.places) k == 0)
  node_ready k = ready_alike (net_of s) (standing s.places) (memory_of s.storage) s.trapped k (operation_node (net_of s) k)

  -- where no other game leads a node, the set tells all that are ready
  pub ready_marks : KeepsSet s → AreMarks ((operation_moves (net_of s)).nodes) ((operation_moves (net_of s)).ready (marking_of s)) s.places.set
  ready_marks keeps = record {
    room = (s.counted.marks keeps.counted).room;
    right = λ j below. others_marked (net_of s) s.places (memory_of s.storage) s.trapped s.counted keeps.counted j below (ap (λ (led : List Bool). has led j) keeps.whole);
  }
