-- The passes of a run are a walk.
use Rattle.std.proofs.Common.{◌≡◌, ◌≢◌, ℕ, zero, suc, ◌<◌, ℤ, List, length, Result, Ok, Err, slice_get, refl, sym, ◌∙◌}
use Rattle.closed_walks.specs.Graph.{edge_count, from, to}
use Rattle.op_table.specs.declared.Trap.{Trap}
use Rattle.f77_tree.specs.declared.programs.ExecKind.{ExecKind}
use Rattle.f77_tree.specs.declared.programs.Program.{Program}
use Rattle.f77_tree.specs.Execution.{Memory, Outcome}
use Rattle.f77_tree.specs.Run.{Mark, Running, Ended, Trapped}
use Rattle.f77_tree.specs.WellFormed.{AreExecs}
use Rattle.cfg_build.specs.declared.pieces.PieceKind.{PieceKind}
use Rattle.cfg_build.specs.declared.pieces.PieceKind.TheVariants as piece
use Rattle.cfg_build.specs.Joined.{finish}
use Rattle.cfg_build.specs.Flow.{flow, piece_at}
use Rattle.cfg_build.specs.Passes.{outs, out, Passed, IfAlong, acted, branched, choice, pass_of, pass, kind_in, PassState, after_pass, line_at, passed_from, passes}
use Rattle.cfg_build.specs.Shape.{IsShaped}
use Rattle.cfg_build.proofs.ReachedNodes.{IsTold}
use Rattle.cfg_build.proofs.Lowest.{IsMet}
use Rattle.cfg_build.proofs.Strong.{holding}
use Rattle.cfg_build.proofs.Shaped.{shaped}
use Rattle.cfg_build.proofs.BranchChoices.{IsBelow}
use Rattle.cfg_build.proofs.EdgesTaken.{out_leaves, some_out, one_chosen}
use Rattle.std.proofs.Common.{arith}

trapped_runs : (trap : Trap) (line : ℕ) → Trapped trap line ≡ Running → ⊥
trapped_runs trap line h = absurd cc

ended_runs : Ended ≡ Running → ⊥
ended_runs h = absurd cc

module _ (told : IsTold) (met : IsMet) (p : Program) (input : List ℤ) (well : AreExecs p.names p.execs p.loops) where
  -- the edge that a pass takes leaves the piece
  abbrev Leaves : ℕ → Passed → Type 0
  Leaves x passed = IfAlong passed (λ next new text. (next < edge_count (flow p.execs).graph) × (from (flow p.execs).graph next ≡ x))

  acted_leaves : (x edge : ℕ) (o : Outcome) → (edge < edge_count (flow p.execs).graph) × (from (flow p.execs).graph edge ≡ x) → Leaves x (acted edge o)
  acted_leaves x edge h leaves = grind arith

  branched_leaves : (x : ℕ) (m : Memory) (r : Result ℕ Trap) → IsBelow (length (outs (flow p.execs).graph x)) r → Leaves x (branched m (out (flow p.execs).graph x) r)
  branched_leaves x m (Ok i) below = out_leaves (flow p.execs).graph x i below
  branched_leaves x m (Err trap) below = tt

  kind_leaves : (x : ℕ) (m : Memory) (kind : PieceKind) (exec : ExecKind) → (kind ≢ piece.End → 0 < length (outs (flow p.execs).graph x)) → (kind ≡ piece.Branch → IsBelow (length (outs (flow p.execs).graph x)) (choice p.names m exec)) → Leaves x (pass_of p input m (out (flow p.execs).graph x) kind exec)
  kind_leaves x m h exec some chosen = grind (arith, out_leaves, acted_leaves, branched_leaves)

  shape : IsShaped (flow p.execs) (finish p.execs)
  shape = shaped told met p.names p.execs p.loops well

  pub pass_leaves : (edge : ℕ) (m : Memory) → edge < edge_count (flow p.execs).graph → IfAlong (pass p input edge m) (λ next new text. (next < edge_count (flow p.execs).graph) × (from (flow p.execs).graph next ≡ to (flow p.execs).graph edge))
  pass_leaves edge m exists =
      let x : ℕ = to (flow p.execs).graph edge in
      let kind : PieceKind = (piece_at (flow p.execs).pieces x).kind in
      let node : x < (flow p.execs).graph.nodes = (holding told met p.names p.execs p.loops well).sound.ends edge exists in
      let s : IsShaped (flow p.execs) (finish p.execs) = shape in
      kind_leaves x m kind (kind_in (slice_get p.execs (piece_at (flow p.execs).pieces x).exec))
      (λ (h : kind ≢ piece.End). some_out told met p.names p.execs p.loops well x node (λ (is : x ≡ finish p.execs). h ((s.end x node).1 is)))
      (λ (h : kind ≡ piece.Branch). one_chosen told met p.names p.execs p.loops well x node (λ (is : x ≡ finish p.execs). branch_or_end kind h ((s.end x node).1 is)) h m)
    where
      branch_or_end : (kind : PieceKind) → kind ≡ piece.Branch → kind ≡ piece.End → ⊥
      branch_or_end kind a b = cc

  -- the next state of a run of passes
  record Walks (x y : PassState) : Type 0 where
    exists : y.edge < edge_count (flow p.execs).graph
    leaves : y.mark ≡ Running → from (flow p.execs).graph y.edge ≡ to (flow p.execs).graph x.edge

  after_walks : (x : PassState) (line : ℕ) (passed : Passed) → x.edge < edge_count (flow p.execs).graph → Leaves (to (flow p.execs).graph x.edge) passed → Walks x (after_pass x line passed)
  after_walks x line h exists leaves = grind (arith, trapped_runs, ended_runs)

  next_walks : (x : PassState) (mark : Mark) → x.mark ≡ mark → x.edge < edge_count (flow p.execs).graph → Walks x (passed_from p input x mark)
  next_walks x Running is exists = after_walks x (line_at p x.edge) (pass p input x.edge x.memory) exists (pass_leaves x.edge x.memory exists)
  next_walks x Ended is exists = record { exists = exists; leaves = λ h. absurd (ended_runs (sym is ∙ h)) }
  next_walks x (Trapped trap line) is exists = record { exists = exists; leaves = λ h. absurd (trapped_runs trap line (sym is ∙ h)) }

  pub from_start : from (flow p.execs).graph (passes p input 0).edge ≡ 0
  from_start = let s : IsShaped (flow p.execs) (finish p.execs) = shape in (s.leaves_start 1 s.two_edges).1 refl

  pub edges_exist : (n : ℕ) → (passes p input n).edge < edge_count (flow p.execs).graph
  edges_exist zero = let s : IsShaped (flow p.execs) (finish p.execs) = shape in s.two_edges
  edges_exist (suc n) = (next_walks (passes p input n) (passes p input n).mark refl (edges_exist n)).exists

  pub lead_on : (n : ℕ) → (passes p input (suc n)).mark ≡ Running → from (flow p.execs).graph (passes p input (suc n)).edge ≡ to (flow p.execs).graph (passes p input n).edge
  lead_on n runs = (next_walks (passes p input n) (passes p input n).mark refl (edges_exist n)).leaves runs
