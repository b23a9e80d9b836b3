-- Where the ranges of DOs lie in a flow graph: which pieces stand for the executables of a range, and by which edges control comes to
-- them.
use Rattle.std.specs.Prelude.{◌≡◌, ◌≢◌, ℕ, ◌+◌, ◌<◌, ◌⊎◌, nat_lt, if◌then◌else◌, List}
use Rattle.closed_walks.specs.Graph.{edge_count, from, to}
use Rattle.f77_tree.specs.declared.programs.Exec.{Exec}
use Rattle.f77_tree.specs.Loops.{InRange, do_start}
use Rattle.cfg_build.specs.declared.parts.Target.TheVariants.{Test}
use Rattle.cfg_build.specs.declared.pieces.PieceKind.TheVariants.{Branch, Join, Hold}
use Rattle.cfg_build.specs.Parts.{parts}
use Rattle.cfg_build.specs.Joined.{FlowGraph, ways_to, number}
use Rattle.cfg_build.specs.Flow.{flow, piece_at}
use Rattle.cfg_build.specs.Passes.{out}
use Rattle.cfg_build.specs.Shape.{kind_at}

-- the executable that the piece is made for
abbrev pub exec_at : FlowGraph → ℕ → ℕ
exec_at f node = (piece_at f.pieces node).exec

-- the piece is made for an executable in the range of the DO n
abbrev pub IsInBody : List Exec → (n node : ℕ) → Type 0
IsInBody execs n node = InRange execs n (exec_at (flow execs) node)

-- the piece that tests the count of the DO n: after its join, where more than one way leads to it
abbrev pub test_of : List Exec → ℕ → ℕ
test_of execs n =
    let target = Test (do_start execs n) in
    number (parts execs) target + (if nat_lt 1 (ways_to (parts execs) target) then 1 else 0)

-- the node is the test of the DO n
pub record IsTest (execs : List Exec) (n node : ℕ) : Type 0 where
  pub at : node ≡ test_of execs n
  pub kind : kind_at (flow execs) node ≡ Branch
  pub exec : exec_at (flow execs) node ≡ do_start execs n

-- an edge that neither leaves a hold nor leads to one
pub record IsPlain (f : FlowGraph) (e : ℕ) : Type 0 where
  pub exists : e < edge_count f.graph
  pub leaves : kind_at f (from f.graph e) ≢ Hold
  pub leads : kind_at f (to f.graph e) ≢ Hold

-- the edge leaves the test of the DO n, and not for the exit
pub record IsWayIn (execs : List Exec) (n e : ℕ) : Type 0 where
  pub test : IsTest execs n (from (flow execs).graph e)
  pub not_exit : e ≢ out (flow execs).graph (from (flow execs).graph e) 1

-- a join that leads to the test of the DO n, or to a hold
pub record IsJoinOfTest (execs : List Exec) (n node : ℕ) : Type 0 where
  pub kind : kind_at (flow execs) node ≡ Join
  pub leads : (e : ℕ) → IsPlain (flow execs) e → from (flow execs).graph e ≡ node → IsTest execs n (to (flow execs).graph e)

-- the test of the DO n, or the join before it
abbrev pub IsAtTest : List Exec → (n node : ℕ) → Type 0
IsAtTest execs n node = IsTest execs n node ⊎ IsJoinOfTest execs n node
