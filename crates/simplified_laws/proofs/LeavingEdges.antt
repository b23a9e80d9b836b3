-- What the pieces of a flow graph lead to, as lemmas on walks of live edges take it.
use Rattle.std.proofs.Common.{◌≡◌, ◌<◌, ℕ, List, length}
use Rattle.std.specs.Prelude.{slice_get}
use Rattle.closed_walks.specs.Graph.{to}
use Rattle.f77_tree.specs.declared.programs.Exec.{Exec}
use Rattle.f77_tree.specs.declared.programs.NameInfo.{NameInfo}
use Rattle.f77_tree.specs.WellFormed.{AreExecs}
use Rattle.cfg_build.specs.declared.pieces.PieceKind.TheVariants as piece
use Rattle.cfg_build.specs.Flow.{flow}
use Rattle.cfg_build.specs.Joined.{finish}
use Rattle.cfg_build.specs.Passes.{outs, out, kind_in}
use Rattle.cfg_build.specs.Shape.{kind_at}
use Rattle.cfg_build.specs.WaysOut.{ways_out}
use Rattle.cfg_build.specs.Zones.{exec_at}

-- so many leave each piece of a flow graph
abbrev pub WaysAreCounted : Type 0
WaysAreCounted = (names : List NameInfo) (execs : List Exec) (loops node : ℕ) → AreExecs names execs loops → node < (flow execs).graph.nodes
    → length (outs (flow execs).graph node) ≡ ways_out (kind_at (flow execs) node) (kind_in (slice_get execs (exec_at (flow execs) node)))

-- the second edge of a hold leads to the end
abbrev pub HoldsLeadToEnd : Type 0
HoldsLeadToEnd = (names : List NameInfo) (execs : List Exec) (loops node : ℕ) → AreExecs names execs loops → node < (flow execs).graph.nodes
    → kind_at (flow execs) node ≡ piece.Hold → to (flow execs).graph (out (flow execs).graph node 1) ≡ finish execs
