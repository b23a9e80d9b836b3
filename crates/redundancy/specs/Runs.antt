-- What runs find of the values of expressions.
use Rattle.std.specs.Prelude.{◌≡◌, ℕ, ◌<◌, ◌≤◌, ℤ, List, Ok}
use Rattle.closed_walks.specs.Graph.{to}
use Rattle.f77_tree.specs.declared.expressions.Expr.{Expr}
use Rattle.f77_tree.specs.declared.programs.Program.{Program}
use Rattle.f77_tree.specs.Execution.{value_in}
use Rattle.cfg_build.specs.Flow.{flow}
use Rattle.cfg_build.specs.Passes.{passes}
use Rattle.redundancy.specs.Computed.{Computes}

-- the piece to which a run comes with the pass that follows so many passes
abbrev pub comes_to : Program → List ℤ → (n : ℕ) → ℕ
comes_to p input n = to (flow p.execs).graph (passes p input n).edge

-- an earlier pass computed the expression, and from that pass on it has one value
pub record KeepsValue (p : Program) (input : List ℤ) (n : ℕ) (e : Expr) : Type 0 where
  pub pass : ℕ
  pub earlier : pass < n
  pub computes : Computes p (flow p.execs) e (comes_to p input pass)
  pub value : ℤ
  pub stays : (k : ℕ) → pass ≤ k → k ≤ n → value_in p.names (passes p input k).memory e ≡ Ok value
