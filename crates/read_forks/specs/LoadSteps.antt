-- What a load does to its lines, one after another.
use Rattle.std.specs.Prelude.{ℕ, ◌==◌, if◌then◌else◌, List, fold, slice_set, ◌≡◌, true, length, ◌<◌}
use Rattle.firing.specs.declared.system.NodeName.TheVariants.{Op}
use Rattle.op_board.specs.OperationNets.{OperationNet, needed, all_operation_nodes, operation_node, operation_at}
use Rattle.op_board.specs.OperationTokens.{fired_as}
use Rattle.fork_board.specs.ForkTokens.{ForkTokens, Standing, read_by, standing, fork_moves}
use Rattle.fork_board.specs.SoundForks.{ForksCanCome}
use Rattle.fork_board.specs.LoadGroups.{is_load}

-- the line stands there, and these loads of its group have fired
abbrev pub stood : ForkTokens → (line : ℕ) → Standing → ForkTokens
stood m line s = record {
  operations = record m.operations { tokens = record m.operations.tokens { lines = slice_set m.operations.tokens.lines line s.edge }; passed = slice_set m.operations.passed line s.passed };
  loaded = λ l. if l == line then s.loaded else m.loaded l;
}

-- a load has fired on the line
abbrev pub line_read : OperationNet → (piece i : ℕ) → ForkTokens → (line : ℕ) → ForkTokens
line_read x piece i m line = stood m line (read_by x line piece i (standing m line))

abbrev pub lines_read : OperationNet → (piece i : ℕ) → ForkTokens → List ℕ → ForkTokens
lines_read x piece i m lines = fold (line_read x piece i) m lines

-- its operands are taken, and its value is given
abbrev pub load_performed : OperationNet → ForkTokens → (k piece i : ℕ) → ForkTokens
load_performed x m k piece i = record m { operations = record m.operations { values = (fired_as x m.operations k (Op piece i)).values } }

-- and then its lines have gone on
abbrev pub load_fired : OperationNet → ForkTokens → (k piece i : ℕ) → ForkTokens
load_fired x m k piece i = lines_read x piece i (load_performed x m k piece i) (needed x piece i)

-- what the firing of a load comes to is what comes of it line by line
abbrev pub LoadsFireLineByLine : Type 0
LoadsFireLineByLine = (x : OperationNet) (m : ForkTokens) (k piece i : ℕ)
    → ForksCanCome x m → k < length (all_operation_nodes x) → operation_node x k ≡ Op piece i → is_load (operation_at x piece i).work ≡ true
    → (fork_moves x).fired m k ≡ load_fired x m k piece i
