-- The step of a DO that begins or is incremented is its chain: an act, and the test.
use Rattle.std.proofs.Common.{◌≡◌, ℕ, suc, ◌+◌, ℤ, Bool, true, false, cond, if◌then◌else◌, nat_lt, List, [], ◌∷◌, ◌++◌, length, Some, Ok, slice_get, slice_index, refl, sym, ap, subst, append-nil, arith}
use Rattle.std.proofs.lemmas.List.{length-append}
use Rattle.closed_walks.specs.Graph.{to}
use Rattle.f77_tree.specs.declared.programs.Exec.{Exec}
use Rattle.f77_tree.specs.declared.programs.Program.{Program}
use Rattle.f77_tree.specs.Execution.{Memory, Outcome, Goes, Stops, Ends, outcome}
use Rattle.f77_tree.specs.Run.{State, Running, Trapped, after, step}
use Rattle.cfg_build.specs.declared.pieces.PieceKind.TheVariants as piece
use Rattle.cfg_build.specs.Joined.{FlowGraph}
use Rattle.cfg_build.specs.Flow.{piece_at}
use Rattle.cfg_build.specs.Passes.{out, Along, acted, choice, pass_of, kind_in, PassState, after_pass}
use Rattle.cfg_build.specs.Routes.{IsRoute, IsTwoParts}
use Rattle.cfg_build.proofs.PassSteps.{pass_at, go, go_more, go_trapped, IsAt, passed_is, along_edge, along_route}
use Rattle.cfg_build.proofs.PassOutcomes.{Tested}
use Rattle.cfg_build.proofs.ChainSteps.{trapped_runs, Agrees, step_is, begins, made_pass, made_line}

-- a piece tests the count of a DO and leads to the one or the other
pub record IsTest (f : FlowGraph) (entry : ℕ → ℕ) (p : Program) (node loop_no body exit : ℕ) : Type 0 where
  pub branches : (piece_at f.pieces node).kind ≡ piece.Branch
  pub chooses : (m : Memory) → choice p.names m (kind_in (slice_get p.execs (piece_at f.pieces node).exec)) ≡ Ok (if nat_lt 0 (slice_index m.counts loop_no) then 0 else 1)
  pub leads : to f.graph (out f.graph node 0) ≡ entry body
  pub leaves : to f.graph (out f.graph node 1) ≡ entry exit

module _ (f : FlowGraph) (entry : ℕ → ℕ) (p : Program) (input : List ℤ) (loop_no body exit : ℕ) where
  module _ (test : ℕ) (tests : IsTest f entry p test loop_no body exit) where
    test_pass : (m : Memory) → pass_at f p input test m ≡ Along (out f.graph test (if nat_lt 0 (slice_index m.counts loop_no) then 0 else 1)) m []
    test_pass m = grind arith

    test_leads : (b : Bool) → to f.graph (out f.graph test (cond b 0 1)) ≡ entry (cond b body exit)
    test_leads true = tests.leads
    test_leads false = tests.leaves

    tested : (z : PassState) (m : Memory) (written : List ℕ) (x : State) → IsAt f p input z m written test → x.mark ≡ Running → x.memory ≡ m → x.out ≡ written → x.position ≡ (if nat_lt 0 (slice_index m.counts loop_no) then body else exit) → Agrees f entry p input (go f p input 1 z) x
    tested z m written x at runs memory_is out_is next =
        grind (arith, slice_index m.counts loop_no, go, passed_is f p input z m written test, test_pass m, append-nil z.out, test_leads)

    module _ (act : ℕ) (middle : List ℕ) (on : IsRoute f (to f.graph (out f.graph act 0)) middle test) where
      -- what follows the act
      after_act : (x : State) (z : PassState) (line act_line : ℕ) (o : Outcome) → Tested loop_no body exit o → x.mark ≡ Running → IsAt f p input z x.memory x.out act → act_line ≡ line → Agrees f entry p input (go f p input (length middle + 1) (after_pass z act_line (acted (out f.graph act 0) o))) (after x line o)
      after_act x z line act_line (Goes next m text) tells runs at lines =
          let a : PassState = after_pass z act_line (Along (out f.graph act 0) m text) in
          let here : IsAt f p input a m (x.out ++ text) (to f.graph (out f.graph act 0)) = along_edge f p input z x.memory x.out act act_line (out f.graph act 0) (to f.graph (out f.graph act 0)) m text at refl in
          let there : IsAt f p input (go f p input (length middle) a) m (x.out ++ text) test = along_route f p input middle a m (x.out ++ text) (to f.graph (out f.graph act 0)) test here on in
          subst (λ (b : PassState). Agrees f entry p input b (after x line (Goes next m text))) (sym (go_more f p input (length middle) 1 a))
          (tested (go f p input (length middle) a) m (x.out ++ text) (after x line (Goes next m text)) there runs refl refl tells.1)
      after_act x z line act_line (Stops trap) tells runs at lines =
          subst (λ (b : PassState). Agrees f entry p input b (after x line (Stops trap))) (sym (go_trapped f p input (length middle + 1) (record z { mark = Trapped trap act_line }) trap act_line refl)) (record {
            memory_is = at.memory_is;
            out_is = at.out_is;
            mark_is = ap (λ n. Trapped trap n) lines;
            enters = λ h. absurd (trapped_runs trap line h);
          })
      after_act x z line act_line Ends tells runs at lines = absurd tells

  -- the step of such a DO
  pub two_parts : (x : State) (exec : Exec) (found : slice_get p.execs x.position ≡ Some exec) (x_runs : x.mark ≡ Running) (y : PassState) (agrees : Agrees f entry p input y x) (pieces : List ℕ) (c : IsTwoParts f entry p.execs x.position exec.kind pieces) → ((m : Memory) → pass_of p input m (out f.graph c.act) piece.Act exec.kind ≡ acted (out f.graph c.act 0) (outcome p.names input m exec.kind)) → Tested loop_no body exit (outcome p.names input x.memory exec.kind) → IsTest f entry p c.test loop_no body exit → Agrees f entry p input (go f p input (length pieces) y) (step p input x)
  two_parts x exec found x_runs y agrees pieces c acts tells tests =
      grind (arith, go f p input (length c.prefix) y, along_route f p input c.prefix y x.memory x.out (entry x.position) c.act (begins f entry p input x exec found x_runs y agrees pieces) c.route, begins f entry p input x exec found x_runs y agrees pieces, length-append c.prefix, length-append c.middle (c.test ∷ []), go, passed_is f p input, made_pass f entry p input c.act piece.Act x.position exec x.memory c.acts found, go f p input (length c.middle + 1), go f p input, go_more f p input (suc (length c.prefix)) (length c.middle + 1) y, step_is f entry p input x exec found x_runs, after_act c.test tests c.act c.middle c.on x, made_line f entry p input c.act piece.Act x.position exec c.acts found)
