-- Passes in any flow graph: joins and holds lead on with the memory and the text as they are.
use Rattle.std.proofs.Common.{◌≡◌, ℕ, zero, suc, ◌+◌, ℤ, true, List, [], ◌∷◌, ◌++◌, length, slice_get, refl, ap, ◌∙◌, append-nil, arith}
use Rattle.closed_walks.specs.Graph.{to}
use Rattle.op_table.specs.declared.Trap.{Trap}
use Rattle.f77_tree.specs.declared.programs.ExecKind.{ExecKind}
use Rattle.f77_tree.specs.declared.programs.Program.{Program}
use Rattle.f77_tree.specs.Execution.{Memory}
use Rattle.f77_tree.specs.Run.{Mark, Running, Ended, Trapped}
use Rattle.cfg_build.specs.declared.pieces.PieceKind.{PieceKind}
use Rattle.cfg_build.specs.Joined.{FlowGraph}
use Rattle.cfg_build.specs.Flow.{piece_at}
use Rattle.cfg_build.specs.Passes.{out, Passed, Along, pass_of, kind_in, PassState, after_pass}
use Rattle.cfg_build.specs.Routes.{leads_on, IsRoute}

module _ (f : FlowGraph) (p : Program) (input : List ℤ) where
  -- the pass of a piece
  abbrev pub pass_at : (node : ℕ) → Memory → Passed
  pass_at node m = let piece = piece_at f.pieces node in pass_of p input m (out f.graph node) piece.kind (kind_in (slice_get p.execs piece.exec))

  abbrev pub passed_in : PassState → Mark → PassState
  passed_in x Running = after_pass x (piece_at f.pieces (to f.graph x.edge)).line (pass_at (to f.graph x.edge) x.memory)
  passed_in x Ended = x
  passed_in x (Trapped trap line) = x

  -- so many passes from a state
  abbrev pub go : ℕ → PassState → PassState
  go zero x = x
  go (suc n) x = let y = go n x in passed_in y y.mark

  pub go_first : (n : ℕ) (x : PassState) → go (suc n) x ≡ go n (passed_in x x.mark)
  go_first zero x = refl
  go_first (suc n) x = ap (λ (y : PassState). passed_in y y.mark) (go_first n x)

  pub go_more : (a b : ℕ) (x : PassState) → go (a + b) x ≡ go b (go a x)
  go_more a zero x = let e : a + 0 ≡ a = omega arith in ap (λ n. go n x) e
  go_more a (suc b) x =
      let e : a + suc b ≡ suc (a + b) = omega arith in
      ap (λ n. go n x) e ∙ ap (λ (y : PassState). passed_in y y.mark) (go_more a b x)

  pub go_ended : (n : ℕ) (x : PassState) → x.mark ≡ Ended → go n x ≡ x
  go_ended zero x h = refl
  go_ended (suc n) x h = ap (λ (y : PassState). passed_in y y.mark) (go_ended n x h) ∙ ap (λ mark. passed_in x mark) h

  pub go_trapped : (n : ℕ) (x : PassState) (trap : Trap) (line : ℕ) → x.mark ≡ Trapped trap line → go n x ≡ x
  go_trapped zero x trap line h = refl
  go_trapped (suc n) x trap line h = ap (λ (y : PassState). passed_in y y.mark) (go_trapped n x trap line h) ∙ ap (λ mark. passed_in x mark) h

  -- a run goes on, and its edge ends at this piece
  pub record IsAt (x : PassState) (memory : Memory) (out : List ℕ) (node : ℕ) : Type 0 where
    pub runs : x.mark ≡ Running
    pub memory_is : x.memory ≡ memory
    pub out_is : x.out ≡ out
    pub ends : to f.graph x.edge ≡ node

  -- the pass of the piece at which it is
  pub passed_is : (x : PassState) (memory : Memory) (out : List ℕ) (node : ℕ) → IsAt x memory out node → passed_in x x.mark ≡ after_pass x (piece_at f.pieces node).line (pass_at node memory)
  passed_is x memory out node h = cc

  led_on : (m : Memory) (out : ℕ → ℕ) (kind : PieceKind) (exec : ExecKind) → leads_on kind ≡ true → pass_of p input m out kind exec ≡ Along (out 0) m []
  led_on m out h exec h2 = grind arith

  -- a run that goes along an edge
  pub along_edge : (x : PassState) (memory : Memory) (written : List ℕ) (node line edge next : ℕ) (new : Memory) (text : List ℕ) → IsAt x memory written node → to f.graph edge ≡ next → IsAt (after_pass x line (Along edge new text)) new (written ++ text) next
  along_edge x memory written node line edge next new text h ends = record { runs = h.runs; memory_is = refl; out_is = ap (λ o. o ++ text) h.out_is; ends = ends }

  pub led_once : (x : PassState) (memory : Memory) (written : List ℕ) (node : ℕ) → IsAt x memory written node → leads_on (piece_at f.pieces node).kind ≡ true → IsAt (passed_in x x.mark) memory written (to f.graph (out f.graph node 0))
  led_once x memory written node h leads =
      grind (arith, passed_is x memory written node h, led_on memory (out f.graph node), append-nil written, along_edge x memory written node)

  -- along joins and holds
  pub along_route : (prefix : List ℕ) (x : PassState) (memory : Memory) (written : List ℕ) (node last : ℕ) → IsAt x memory written node → IsRoute f node prefix last → IsAt (go (length prefix) x) memory written last
  along_route [] x memory written node last h route = record { runs = h.runs; memory_is = h.memory_is; out_is = h.out_is; ends = h.ends ∙ route }
  along_route (first ∷ rest) x memory written node last h route =
      grind (arith, go_first (length rest) x, along_route rest (passed_in x x.mark) memory written (to f.graph (out f.graph first 0)) last, led_once x memory written first)
