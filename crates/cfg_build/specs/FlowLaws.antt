-- Laws on flow graphs, on the passes of runs and on the ranges of DOs, as statements.
use Rattle.std.specs.Prelude.{◌≡◌, ℕ, Bool, List, ◌<◌, length, slice_get, true, Some, ◌≤◌, ℤ, suc, ◌≢◌}
use Rattle.f77_tree.specs.declared.programs.Exec.{Exec}
use Rattle.f77_tree.specs.declared.programs.ExecKind.{ExecKind}
use Rattle.cfg_build.specs.declared.pieces.PieceKind.{PieceKind}
use Rattle.cfg_build.specs.Flow.{flow}
use Rattle.f77_tree.specs.declared.programs.NameInfo.{NameInfo}
use Rattle.f77_tree.specs.WellFormed.{AreExecs}
use Rattle.cfg_build.specs.Shape.{kind_at}
use Rattle.cfg_build.specs.Runs.{IsPartOf}
use Rattle.cfg_build.specs.Passes.{kind_in, outs, out, IfAlong, pass, passes}
use Rattle.cfg_build.specs.Zones.{exec_at, IsInBody, IsPlain, IsWayIn, IsAtTest}
use Rattle.cfg_build.specs.WaysOut.{ways_out}
use Rattle.closed_walks.specs.Graph.{to, from, edge_count}
use Rattle.cfg_build.specs.declared.pieces.PieceKind.TheVariants.{Hold, Act}
use Rattle.cfg_build.specs.Joined.{finish}
use Rattle.cfg_build.specs.Control.{is_reached}
use Rattle.cfg_build.specs.Chains.{chain, entry, has_test}
use Rattle.cfg_build.specs.Routes.{AreChain, holds_in}
use Rattle.f77_tree.specs.declared.programs.Program.{Program}
use Rattle.f77_tree.specs.Execution.{Memory}
use Rattle.f77_tree.specs.Run.{Running}
use Rattle.f77_tree.specs.Loops.{Loop, incremented_at}
use Rattle.f77_tree.specs.declared.programs.ExecKind.TheVariants.{End}

-- each piece of the kind is a part of an executable of one of these kinds
abbrev pub PiecesRun : PieceKind → (ExecKind → Bool) → Type 0
PiecesRun kind runs = (names : List NameInfo) (execs : List Exec) (loops node : ℕ)
    → AreExecs names execs loops → node < (flow execs).graph.nodes → kind_at (flow execs) node ≡ kind → IsPartOf (flow execs) execs node runs

-- as many edges leave a piece as its kind and its executable say
abbrev pub PiecesHaveWaysOut : Type 0
PiecesHaveWaysOut = (names : List NameInfo) (execs : List Exec) (loops node : ℕ)
    → AreExecs names execs loops → node < (flow execs).graph.nodes
    → length (outs (flow execs).graph node) ≡ ways_out (kind_at (flow execs) node) (kind_in (slice_get execs (exec_at (flow execs) node)))

-- the second edge of a hold leads to the end
abbrev pub HoldsLeadToTheEnd : Type 0
HoldsLeadToTheEnd = (names : List NameInfo) (execs : List Exec) (loops node : ℕ)
    → AreExecs names execs loops → node < (flow execs).graph.nodes → kind_at (flow execs) node ≡ Hold
    → to (flow execs).graph (out (flow execs).graph node 1) ≡ finish execs

-- control goes along the chain of an executable to which it can come
abbrev pub ReachedExecutablesHaveChains : Type 0
ReachedExecutablesHaveChains = (names : List NameInfo) (execs : List Exec) (loops k : ℕ) (exec : Exec)
    → AreExecs names execs loops → is_reached execs k ≡ true → slice_get execs k ≡ Some exec
    → AreChain (flow execs) (entry execs) execs k (has_test exec.kind) exec.kind (chain execs k)

-- one hold at most stands in a chain
abbrev pub ChainsHaveOneHold : Type 0
ChainsHaveOneHold = (names : List NameInfo) (execs : List Exec) (loops k : ℕ) (exec : Exec)
    → AreExecs names execs loops → is_reached execs k ≡ true → slice_get execs k ≡ Some exec → holds_in (flow execs) (chain execs k) ≤ 1

-- a pass from an edge goes along one that leaves the piece at which that edge ends, or along none
abbrev pub PassesGoAlongEdges : Type 0
PassesGoAlongEdges = (p : Program) (input : List ℤ) (edge : ℕ) (m : Memory)
    → AreExecs p.names p.execs p.loops → edge < edge_count (flow p.execs).graph
    → IfAlong (pass p input edge m) (λ next new text. (next < edge_count (flow p.execs).graph) × (from (flow p.execs).graph next ≡ to (flow p.execs).graph edge))

-- each edge of a run begins where the one before it ends
abbrev pub PassesLeadOn : Type 0
PassesLeadOn = (p : Program) (input : List ℤ) (n : ℕ)
    → AreExecs p.names p.execs p.loops → (passes p input (suc n)).mark ≡ Running
    → from (flow p.execs).graph (passes p input (suc n)).edge ≡ to (flow p.execs).graph (passes p input n).edge

-- a run that goes on doesn't come back to the start
abbrev pub RunsLeaveTheStart : Type 0
RunsLeaveTheStart = (p : Program) (input : List ℤ) (n : ℕ)
    → AreExecs p.names p.execs p.loops → (passes p input n).mark ≡ Running → to (flow p.execs).graph (passes p input n).edge ≢ 0

-- a plain edge from outside the range of a DO into it leaves the test of the DO
abbrev pub RangesAreEnteredByTests : Type 0
RangesAreEnteredByTests = (names : List NameInfo) (execs : List Exec) (loops n e : ℕ)
    → AreExecs names execs loops → n < loops → IsPlain (flow execs) e → (IsInBody execs n (from (flow execs).graph e) → ⊥)
    → IsInBody execs n (to (flow execs).graph e) → IsWayIn execs n e

-- a plain edge that leaves the increment of a DO leads to its test
abbrev pub IncrementsLeadToTests : Type 0
IncrementsLeadToTests = (names : List NameInfo) (execs : List Exec) (loops e : ℕ) (loop : Loop)
    → AreExecs names execs loops → IsPlain (flow execs) e → kind_at (flow execs) (from (flow execs).graph e) ≡ Act
    → incremented_at execs (exec_at (flow execs) (from (flow execs).graph e)) ≡ Some loop
    → IsAtTest execs loop.number (to (flow execs).graph e)

-- no act is made for END
abbrev pub NoActIsAnEnd : Type 0
NoActIsAnEnd = (names : List NameInfo) (execs : List Exec) (loops node : ℕ)
    → AreExecs names execs loops → node < (flow execs).graph.nodes → kind_at (flow execs) node ≡ Act
    → kind_in (slice_get execs (exec_at (flow execs) node)) ≢ End
