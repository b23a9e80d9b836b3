-- The program's own order of firing, as a list of nodes: those of so many passes, and those of so many steps.
use Rattle.std.specs.Prelude.{ℕ, zero, suc, List, [], ◌∷◌, ◌++◌}
use Rattle.std.specs.List.{range_with_len}
use Rattle.closed_walks.specs.Graph.{to}
use Rattle.f77_tree.specs.Run.{Mark, Running, Ended, Trapped}
use Rattle.cfg_build.specs.Chains.{passes_of}
use Rattle.cfg_build.specs.Passes.{Passed, Along, Traps, Done, PassState, pass, passes}
use Rattle.net_board.specs.Nodes.{NetOf, graph_in, node_count, first_node}

-- the firings of a pass: all nodes of the piece in the order of their numbers, or the first one, which traps
abbrev pub firings_of : NetOf → (piece : ℕ) → Passed → List ℕ
firings_of net piece (Along edge memory text) = range_with_len (first_node net piece) (node_count net piece)
firings_of net piece (Traps trap) = first_node net piece ∷ []
firings_of net piece Done = range_with_len (first_node net piece) (node_count net piece)

-- the firings of the pass that comes next, where the run goes on
abbrev pub firings_from : NetOf → PassState → Mark → List ℕ
firings_from net x Running = firings_of net (to (graph_in net) x.edge) (pass net.program net.input x.edge x.memory)
firings_from net x Ended = []
firings_from net x (Trapped trap line) = []

-- the firings of so many passes
abbrev pub own_passes : NetOf → (passes_made : ℕ) → List ℕ
own_passes net zero = []
own_passes net (suc n) = own_passes net n ++ firings_from net (passes net.program net.input n) (passes net.program net.input n).mark

-- the firings of so many steps of the program
abbrev pub own_order : NetOf → (steps : ℕ) → List ℕ
own_order net n = own_passes net (passes_of net.program net.input n)
