-- The lines of firings, one after another.
use Rattle.std.proofs.Common.{◌≡◌, ℕ, suc, ◌+◌, ◌<◌, List, ◌++◌, length, get_or, Option, refl, subst, arith}
use Rattle.std.specs.Prelude.{slice_get}
use Rattle.std.proofs.lemmas.Option.{slice_get-get_or}
use Rattle.printed_graphs.specs.declared.dataflow.PrintedGraph.{PrintedGraph}
use Rattle.printed_graphs.specs.declared.flow.PrintedFlow.{PrintedFlow}
use Rattle.printed_graphs.specs.declared.trace.Firing.{Firing}
use Rattle.graph_json.specs.TraceLines.{first_lines, firing_line}
use Rattle.view_output.specs.Told.{Adds}
use Rattle.view_output.proofs.Pieces.{and_then}

-- one more
pub one_firing : (flow : Option PrintedFlow) (graph : Option PrintedGraph) (firings : List Firing) (rounds : List ℕ) (i : ℕ) (other : Firing) (round : Option ℕ) (a b d : Option (List ℕ)) → i < length firings → round ≡ slice_get rounds i → Adds a b (first_lines flow graph firings rounds i) → Adds b d (firing_line flow graph (get_or firings i other).node round) → Adds a d (first_lines flow graph firings rounds (i + 1))
one_firing flow graph firings rounds i other round a b d inside round_is before line =
    let next : i + 1 ≡ suc i = omega arith in
    let same : first_lines flow graph firings rounds i ++ firing_line flow graph (get_or firings i other).node round ≡ first_lines flow graph firings rounds (i + 1) = rw (next, slice_get-get_or firings i other inside, round_is) refl in
    subst (Adds a d) same (and_then before line)
