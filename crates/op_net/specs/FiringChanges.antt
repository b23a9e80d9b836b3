-- What the parts of the firing of an operation change.
use Rattle.std.specs.Prelude.{◌≡◌, ℕ, ℤ, pos, true, false, if◌then◌else◌, Some}
use Rattle.op_table.specs.declared.Trap.{Trap}
use Rattle.cfg_build.specs.Passes.{out}
use Rattle.firing.specs.declared.system.Fired.{Fired}
use Rattle.firing.specs.declared.system.Fired.TheVariants.{Line, Moved, Trapped}
use Rattle.f77_tree.specs.Execution.{Memory}
use Rattle.net_board.specs.Nodes.{graph_in, switches}
use Rattle.net_board.specs.Tokens.{source_line, with_all}
use Rattle.op_board.specs.Operations.{is_decision}
use Rattle.op_board.specs.OperationNets.{OperationNet, operation_at}
use Rattle.op_board.specs.OperationTokens.{OperationTokens}
use Rattle.operation_places.specs.PlacesView.{value_put}
use Rattle.operation_places.specs.StandingChanges.{lines_dropped, lines_moved, values_taken}

-- the memory is this one
abbrev pub remembered : OperationTokens → Memory → OperationTokens
remembered m memory = record m { tokens = record m.tokens { memory = memory } }

-- the operands are taken, and the operation leaves this memory
abbrev pub worked_on : OperationNet → OperationTokens → (piece i : ℕ) → Memory → OperationTokens
worked_on x m piece i memory = let taken = values_taken x m piece i in record taken { tokens = record taken.tokens { memory = memory } }

-- the lines that the operation needs go on, along the edge with this number where they leave the piece
abbrev pub gone_on : OperationNet → OperationTokens → (piece i choice : ℕ) → OperationTokens
gone_on x m piece i choice = lines_moved x m piece i (out (graph_in x.net) piece choice)

-- a decision leaves an edge for the switches of its piece
abbrev pub room_left : OperationNet → OperationTokens → (piece i edge : ℕ) → OperationTokens
room_left x m piece i edge = record m { tokens = record m.tokens { edges = if is_decision (operation_at x piece i).work then with_all m.tokens.edges (switches x.net piece) (λ switch. Some edge) else m.tokens.edges } }

abbrev pub told_on : OperationNet → OperationTokens → (piece i choice : ℕ) → OperationTokens
told_on x m piece i choice = gone_on x (room_left x m piece i (out (graph_in x.net) piece choice)) piece i choice

-- the operation, which is node k, gives a value
abbrev pub given_on : OperationNet → OperationTokens → (k piece i : ℕ) → (z : ℤ) → OperationTokens
given_on x m k piece i z = gone_on x (value_put m k (Some z)) piece i 0

-- the net stops at its trap, and the lines that it needs vanish
abbrev pub stopped_on : OperationNet → OperationTokens → (piece i : ℕ) → Trap → OperationTokens
stopped_on x m piece i trap =
    let dropped = lines_dropped x m piece i in
    record dropped { tokens = record dropped.tokens { trap = Some (trap, source_line x.net piece) } }

-- what comes of a trap; where the operation doesn't need the line of output it gives 0
abbrev pub trapped_on : OperationNet → OperationTokens → (k piece i : ℕ) → Trap → OperationTokens
trapped_on x m k piece i trap = if x.needs piece i 0 then stopped_on x m piece i trap else given_on x m k piece i (pos 0)

-- what a firing that meets a trap answers
abbrev pub AnswersTrap : OperationNet → (piece i : ℕ) → Fired → Type 0
AnswersTrap x piece i Moved = x.needs piece i 0 ≡ false
AnswersTrap x piece i Line = ⊥
AnswersTrap x piece i Trapped = x.needs piece i 0 ≡ true
