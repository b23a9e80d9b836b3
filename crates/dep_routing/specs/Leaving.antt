-- What the line of output has to mark so that runs leave the regions that are quiet for it, whatever table tells the lines.
use Rattle.std.specs.Prelude.{◌≡◌, ◌≢◌, ◌<◌, ◌+◌, ◌⊎◌, ℕ, ℤ, Bool, true, List, All}
use Rattle.op_table.specs.Words.{IsWord}
use Rattle.closed_walks.specs.Cycling.{IsOnCycle}
use Rattle.f77_tree.specs.declared.programs.Program.{Program}
use Rattle.f77_tree.specs.Run.{Running}
use Rattle.cfg_build.specs.declared.pieces.PieceKind.TheVariants.{Branch, Hold}
use Rattle.cfg_build.specs.Flow.{flow}
use Rattle.cfg_build.specs.Passes.{pass, passes}
use Rattle.region_tree.specs.Tree.{Tree}
use Rattle.dep_routing.specs.Quiet.{IsFree}
use Rattle.dep_routing.specs.Sound.{comes_to, DoesTrap}
use Rattle.dep_routing.specs.Touches.{piece_kind, ends_rounds}

-- where a run over words traps, the piece touches the line of output
abbrev pub MarksTraps : Program → (touches : ℕ → ℕ → Bool) → Type 0
MarksTraps p touches = (input : List ℤ) (n : ℕ) → All IsWord input → (passes p input n).mark ≡ Running → DoesTrap (pass p input (passes p input n).edge (passes p input n).memory) → touches (comes_to p input n) 0 ≡ true

-- The line of output is touched wherever a run may stay for ever, or traps: at a hold, and at a branch on a cycle that lowers no
-- count.
pub record MarksStays (p : Program) (touches : ℕ → ℕ → Bool) : Type 0 where
  pub holds : (node : ℕ) → node < (flow p.execs).graph.nodes → piece_kind p node ≡ Hold → touches node 0 ≡ true
  pub branches : (node : ℕ) → node < (flow p.execs).graph.nodes → piece_kind p node ≡ Branch → IsOnCycle (flow p.execs).graph (ends_rounds p) node → touches node 0 ≡ true
  pub traps : MarksTraps p touches

-- some passes after n the run has ended or trapped, or it comes to a node other than the start that is free for the line of output
pub record KeepsMoving (p : Program) (t : Tree) (touches : ℕ → ℕ → Bool) (input : List ℤ) (n : ℕ) : Type 0 where
  pub later : ℕ
  pub moves : ((passes p input (n + later)).mark ≢ Running) ⊎ ((comes_to p input (n + later) ≢ 0) × IsFree (flow p.execs).graph t touches 0 (comes_to p input (n + later)))
