-- The program's own order of firing operations, as a list of nodes: those of so many passes, and those of so many steps.
use Rattle.std.specs.Prelude.{ℕ, zero, suc, List, [], ◌++◌}
use Rattle.std.specs.List.{range_with_len}
use Rattle.closed_walks.specs.Graph.{to}
use Rattle.f77_tree.specs.Execution.{Memory}
use Rattle.f77_tree.specs.Run.{Mark, Running, Ended, Trapped}
use Rattle.cfg_build.specs.Passes.{Passed, Along, Traps, Done, PassState, pass, passes}
use Rattle.cfg_build.specs.Chains.{passes_of}
use Rattle.net_board.specs.Nodes.{graph_in}
use Rattle.op_board.specs.Effects.{Ran, All_done, Stopped, ran_all}
use Rattle.op_board.specs.OperationNets.{OperationNet, first_operation, operation_count, operation_node_count, operations_at}

-- what becomes of the operations of a piece in this memory
abbrev pub ran_at : OperationNet → (piece : ℕ) → Memory → Ran
ran_at x piece memory = ran_all x.net.program.names x.net.input memory (operations_at x piece)

-- how many of so many fire, up to one that traps
abbrev pub fired_of : (count : ℕ) → Ran → ℕ
fired_of count (All_done last) = count
fired_of count (Stopped at memory trap) = suc at

-- the firings of a pass: all nodes of the piece in the order of their numbers, or its operations up to the one that traps
abbrev pub operation_firings : OperationNet → (piece : ℕ) → Memory → Passed → List ℕ
operation_firings x piece memory (Along edge new text) = range_with_len (first_operation x piece) (operation_node_count x piece)
operation_firings x piece memory (Traps trap) = range_with_len (first_operation x piece) (fired_of (operation_count x piece) (ran_at x piece memory))
operation_firings x piece memory Done = range_with_len (first_operation x piece) (operation_node_count x piece)

-- the firings of the pass that comes next, where the run goes on
abbrev pub operation_firings_from : OperationNet → PassState → Mark → List ℕ
operation_firings_from x s Running = operation_firings x (to (graph_in x.net) s.edge) s.memory (pass x.net.program x.net.input s.edge s.memory)
operation_firings_from x s Ended = []
operation_firings_from x s (Trapped trap line) = []

-- the firings of so many passes
abbrev pub own_operation_passes : OperationNet → (passes_made : ℕ) → List ℕ
own_operation_passes x zero = []
own_operation_passes x (suc n) = own_operation_passes x n ++ operation_firings_from x (passes x.net.program x.net.input n) (passes x.net.program x.net.input n).mark

-- the firings of so many steps of the program
abbrev pub own_operations : OperationNet → (steps : ℕ) → List ℕ
own_operations x n = own_operation_passes x (passes_of x.net.program x.net.input n)
