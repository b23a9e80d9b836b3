-- A run ends at the end, so it never comes back to the start.
use Rattle.std.proofs.Common.{◌≡◌, ◌≢◌, ℕ, zero, suc, ℤ, List, slice_get, refl, sym, ap, ◌∙◌}
use Rattle.closed_walks.specs.Graph.{from, to}
use Rattle.op_table.specs.declared.Trap.{Trap}
use Rattle.f77_tree.specs.declared.programs.Program.{Program}
use Rattle.f77_tree.specs.Run.{Mark, Running, Ended, Trapped}
use Rattle.f77_tree.specs.WellFormed.{AreExecs}
use Rattle.cfg_build.specs.declared.pieces.PieceKind.TheVariants as piece
use Rattle.cfg_build.specs.Joined.{finish}
use Rattle.cfg_build.specs.Flow.{flow, piece_at}
use Rattle.cfg_build.specs.Passes.{out, pass_of, kind_in, PassState, after_pass, passed_from, passes}
use Rattle.cfg_build.specs.Shape.{IsShaped}
use Rattle.cfg_build.proofs.ReachedNodes.{IsTold}
use Rattle.cfg_build.proofs.Lowest.{IsMet}
use Rattle.cfg_build.proofs.Shaped.{shaped}
use Rattle.cfg_build.proofs.Strong.{flow_graph}
use Rattle.cfg_build.proofs.PassWalks.{edges_exist, lead_on}

module _ (told : IsTold) (met : IsMet) (p : Program) (input : List ℤ) (well : AreExecs p.names p.execs p.loops) where
  shape : IsShaped (flow p.execs) (finish p.execs)
  shape = shaped told met p.names p.execs p.loops well

  ended_runs : Ended ≡ Running → ⊥
  ended_runs h = cc

  trapped_runs : (trap : Trap) (line : ℕ) → Trapped trap line ≡ Running → ⊥
  trapped_runs trap line h = cc

  -- the pass at the end
  ends : (x : PassState) (mark : Mark) → x.mark ≡ mark → to (flow p.execs).graph x.edge ≡ finish p.execs → (passed_from p input x mark).mark ≡ Running → ⊥
  ends x Running is at running =
      let kind : (piece_at (flow p.execs).pieces (to (flow p.execs).graph x.edge)).kind ≡ piece.End =
      ap (λ y. (piece_at (flow p.execs).pieces y).kind) at ∙ (shape.end (finish p.execs) shape.end_exists).1 refl in
      ended_runs (sym (pass_ends x kind) ∙ running)
    where
      pass_ends : (x : PassState) → (piece_at (flow p.execs).pieces (to (flow p.execs).graph x.edge)).kind ≡ piece.End → (passed_from p input x Running).mark ≡ Ended
      pass_ends x kind =
          ap (λ k. (after_pass x (piece_at (flow p.execs).pieces (to (flow p.execs).graph x.edge)).line (pass_of p input x.memory (out (flow p.execs).graph (to (flow p.execs).graph x.edge)) k (kind_in (slice_get p.execs (piece_at (flow p.execs).pieces (to (flow p.execs).graph x.edge)).exec)))).mark) kind
  ends x Ended is at running = ended_runs (sym is ∙ running)
  ends x (Trapped trap line) is at running = trapped_runs trap line (sym is ∙ running)

  edge_not_zero : (n : ℕ) → (passes p input n).mark ≡ Running → (passes p input n).edge ≢ 0
  edge_not_zero zero running = λ h. cc
  edge_not_zero (suc n) running = λ (is : (passes p input (suc n)).edge ≡ 0).
      let begins : from (flow p.execs).graph (passes p input (suc n)).edge ≡ to (flow p.execs).graph (passes p input n).edge = lead_on told met p input well n running in
      let at_end : from (flow p.execs).graph 0 ≡ finish p.execs = (shape.leaves_end 0 (flow_graph told met p.names p.execs p.loops well).some).1 refl in
      ends (passes p input n) (passes p input n).mark refl (sym begins ∙ ap (λ e. from (flow p.execs).graph e) is ∙ at_end) running

  pub no_return : (n : ℕ) → (passes p input n).mark ≡ Running → to (flow p.execs).graph (passes p input n).edge ≢ 0
  no_return n running = λ (at : to (flow p.execs).graph (passes p input n).edge ≡ 0).
      edge_not_zero n running ((shape.comes_to_start (passes p input n).edge (edges_exist told met p input well n)).0 at)
