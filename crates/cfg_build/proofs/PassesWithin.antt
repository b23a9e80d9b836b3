-- Where the passes of a step lie, as far as chains are as they are said to be.
use Rattle.std.proofs.Common.{◌≡◌, ℕ, zero, suc, ◌<◌, ◌≤◌, ℤ, true, false, List, [], ◌∷◌, ◌++◌, length, Some, slice_get, slice_index, refl, sym, ap, ◌∙◌, subst, ⊎_elim, arith}
use Rattle.std.proofs.lemmas.Bool.{cases_Bool}
use Rattle.closed_walks.specs.Graph.{to}
use Rattle.f77_tree.specs.declared.programs.Exec.{Exec}
use Rattle.f77_tree.specs.declared.programs.Program.{Program}
use Rattle.f77_tree.specs.Execution.{Memory, Outcome, Goes, Stops, Ends, outcome}
use Rattle.f77_tree.specs.Loops.{begun_in, incremented_in, AreLoops}
use Rattle.f77_tree.specs.Control.{SuccessorsExist}
use Rattle.f77_tree.specs.Run.{State, Mark, Running, Ended, Trapped, after, step_from, step}
use Rattle.cfg_build.specs.Control.{is_reached}
use Rattle.cfg_build.specs.declared.pieces.PieceKind.TheVariants as piece
use Rattle.cfg_build.specs.Joined.{FlowGraph}
use Rattle.cfg_build.specs.Flow.{piece_at}
use Rattle.cfg_build.specs.Passes.{out, acted, pass_of, PassState, after_pass}
use Rattle.cfg_build.specs.Chains.{has_test}
use Rattle.cfg_build.specs.Routes.{leads_on, IsRoute, IsOnePart, IsTwoParts, AreChain}
use Rattle.cfg_build.specs.Steps.{led_in, ComesTo, IsWithin}
use Rattle.cfg_build.proofs.ControlGraph.{exec_at}
use Rattle.cfg_build.proofs.ReachedNodes.{IsTold}
use Rattle.cfg_build.proofs.PassSteps.{passed_in, go, go_first, go_more, go_ended, go_trapped, IsAt, passed_is, led_once, along_edge, along_route}
use Rattle.cfg_build.proofs.PassOutcomes.{Tested}
use Rattle.cfg_build.proofs.ChainSteps.{trapped_runs, ended_runs, Agrees, step_is, begins, made_pass, made_line}
use Rattle.cfg_build.proofs.DoTests.{IsDoStep, do_step}
use Rattle.cfg_build.proofs.RunPasses.{LeadOn, IsInside}
use Rattle.cfg_build.proofs.OwnPieces.{led_along, last_runs, none_past, past_act}

module _ (f : FlowGraph) (entry : ℕ → ℕ) (p : Program) (input : List ℤ) where
  -- while joins and holds lead on, each pass comes to the next piece
  pub along_pieces : (prefix rest : List ℕ) (x : PassState) (memory : Memory) (written : List ℕ) (node last i : ℕ) → i ≤ length prefix → IsAt f p input x memory written node → IsRoute f node prefix last → IsAt f p input (go f p input i x) memory written (slice_index (prefix ++ last ∷ rest) i)
  along_pieces [] rest x memory written node last zero le h route = record { runs = h.runs; memory_is = h.memory_is; out_is = h.out_is; ends = h.ends ∙ route }
  along_pieces [] rest x memory written node last (suc i) le h route = absurd (omega (arith, le))
  along_pieces (first ∷ more) rest x memory written node last zero le h route = record { runs = h.runs; memory_is = h.memory_is; out_is = h.out_is; ends = h.ends ∙ route.0 }
  along_pieces (first ∷ more) rest x memory written node last (suc i) le h route =
      grind (arith, slice_index (more ++ last ∷ rest) i, go_first f p input i x, along_pieces more rest (passed_in f p input x x.mark) memory written (to f.graph (out f.graph first 0)) last i, passed_in f p input x x.mark, led_once f p input x memory written first)

  at_comes : (x : State) (y : PassState) (node : ℕ) → x.mark ≡ Running → IsAt f p input y x.memory x.out node → ComesTo f.graph node x y
  at_comes x y node runs at = record { memory_is = at.memory_is; out_is = at.out_is; mark_is = at.runs ∙ sym runs; comes = λ h. at.ends }

  -- a run that has stopped comes nowhere
  pub stopped : (x : State) (y : PassState) (node : ℕ) → (x.mark ≡ Running → ⊥) → Agrees f entry p input y x → ComesTo f.graph node x y
  stopped x y node stops agrees = record { memory_is = agrees.memory_is; out_is = agrees.out_is; mark_is = agrees.mark_is; comes = λ h. absurd (stops h) }

  -- the passes after an act, on the way to the test
  after_act : (loop_no body exit test act : ℕ) (middle : List ℕ) → IsRoute f (to f.graph (out f.graph act 0)) middle test → (x : State) (z : PassState) (line act_line j : ℕ) (o : Outcome) → Tested loop_no body exit o → x.mark ≡ Running → IsAt f p input z x.memory x.out act → act_line ≡ line → j ≤ length middle → ComesTo f.graph (slice_index (middle ++ test ∷ []) j) (after x line o) (go f p input j (after_pass z act_line (acted (out f.graph act 0) o)))
  after_act loop_no body exit test act middle on x z line act_line j (Goes next m text) tells runs at lines le =
      search (along_edge, at_comes, go, slice_index, along_pieces, arith)
  after_act loop_no body exit test act middle on x z line act_line j (Stops trap) tells runs at lines le =
      subst (λ (b : PassState). ComesTo f.graph (slice_index (middle ++ test ∷ []) j) (after x line (Stops trap)) b) (sym (go_trapped f p input j (record z { mark = Trapped trap act_line }) trap act_line refl)) (record {
        memory_is = at.memory_is;
        out_is = at.out_is;
        mark_is = ap (λ n. Trapped trap n) lines;
        comes = λ h. absurd (trapped_runs trap line h);
      })
  after_act loop_no body exit test act middle on x z line act_line j Ends tells runs at lines le = absurd tells

  module _ (x : State) (exec : Exec) (found : slice_get p.execs x.position ≡ Some exec) (x_runs : x.mark ≡ Running) (y : PassState) (agrees : Agrees f entry p input y x) (pieces : List ℕ) where
    -- up to the own piece
    up_to_own : (prefix : List ℕ) (own : ℕ) (rest : List ℕ) (i : ℕ) → pieces ≡ prefix ++ own ∷ rest → IsRoute f (entry x.position) prefix own → leads_on (piece_at f.pieces own).kind ≡ false → i ≤ led_in f pieces → ComesTo f.graph (slice_index pieces i) x (go f p input i y)
    up_to_own prefix own rest i are route own_runs le =
        grind (arith, led_along f prefix (entry x.position) own rest route own_runs, slice_index, go f p input i y, at_comes x (go f p input i y) (slice_index (prefix ++ own ∷ rest) i) x_runs, slice_index (prefix ++ own ∷ rest) i, along_pieces prefix rest y x.memory x.out (entry x.position) own i, begins f entry p input x exec found x_runs y agrees pieces)

    pub within_one : IsOnePart f entry p.execs x.position exec.kind pieces → (i : ℕ) → i < length pieces → IsWithin f pieces i x (step p input x) (go f p input i y)
    within_one c i exists =
        grind (arith, up_to_own, up_to_own c.prefix c.last, last_runs exec.kind, none_past f entry p.execs x.position exec.kind pieces c i)

    past_own : (loop_no body exit : ℕ) (c : IsTwoParts f entry p.execs x.position exec.kind pieces) → ((m : Memory) → pass_of p input m (out f.graph c.act) piece.Act exec.kind ≡ acted (out f.graph c.act 0) (outcome p.names input m exec.kind)) → Tested loop_no body exit (outcome p.names input x.memory exec.kind) → (i : ℕ) → i < length pieces → led_in f pieces < i → ComesTo f.graph (slice_index pieces i) (step p input x) (go f p input i y)
    past_own loop_no body exit c acts tells i exists past =
        grind (arith, go f p input (length c.prefix) y, along_route f p input c.prefix y x.memory x.out (entry x.position) c.act (begins f entry p input x exec found x_runs y agrees pieces) c.route, begins f entry p input x exec found x_runs y agrees pieces, past_act f entry p.execs x.position exec.kind pieces c i past exists, go, passed_is f p input, made_pass f entry p input c.act piece.Act x.position exec x.memory c.acts found, go f p input, go_more f p input (suc (length c.prefix)), go f p input i y, slice_index, step_is f entry p input x exec found x_runs, after_act loop_no body exit c.test c.act c.middle c.on x, made_line f entry p input c.act piece.Act x.position exec c.acts found)

    pub within_two : (loop_no body exit : ℕ) (c : IsTwoParts f entry p.execs x.position exec.kind pieces) → ((m : Memory) → pass_of p input m (out f.graph c.act) piece.Act exec.kind ≡ acted (out f.graph c.act 0) (outcome p.names input m exec.kind)) → Tested loop_no body exit (outcome p.names input x.memory exec.kind) → (i : ℕ) → i < length pieces → IsWithin f pieces i x (step p input x) (go f p input i y)
    within_two loop_no body exit c acts tells i exists =
        grind (arith, up_to_own, up_to_own c.prefix c.act (c.middle ++ c.test ∷ []) i c.are c.route, past_own, past_own loop_no body exit c acts tells i exists)

module _ (told : IsTold) (lead_on : LeadOn) (p : Program) (input : List ℤ) (exist : SuccessorsExist p.execs) (some : 0 < length p.execs) (loops : AreLoops p.execs p.loops) where
  module _ (f : FlowGraph) (entry : ℕ → ℕ) (chain_of : ℕ → List ℕ) (chains : (k : ℕ) (exec : Exec) → is_reached p.execs k ≡ true → slice_get p.execs k ≡ Some exec → AreChain f entry p.execs k (has_test exec.kind) exec.kind (chain_of k)) where
    runs_within : (x : State) (y : PassState) (i : ℕ) → IsInside told lead_on p input exist some loops x → x.mark ≡ Running → Agrees f entry p input y x → i < length (chain_of x.position) → IsWithin f (chain_of x.position) i x (step p input x) (go f p input i y)
    runs_within x y i h runs agrees exists =
        let e = exec_at p.execs x.position h.below in
        let exec : Exec = e.0 in
        let pieces : List ℕ = chain_of x.position in
        let c : AreChain f entry p.execs x.position (has_test exec.kind) exec.kind pieces = chains x.position exec h.reached e.1 in
        ⊎_elim
        (λ (two : has_test exec.kind ≡ true).
        let d : IsDoStep p input x.position exec.kind =
        do_step p input loops x.position exec.kind (λ loop begins. ap (λ o. begun_in o) e.1 ∙ begins) (λ loop increments. ap (λ o. incremented_in o) e.1 ∙ increments) two in
        within_two f entry p input x exec e.1 runs y agrees pieces d.loop_no d.body d.exit
        (subst (λ b. AreChain f entry p.execs x.position b exec.kind pieces) two c) (λ m. refl) (d.tells x.memory (omega (arith, h.counts, d.few))) i exists)
        (λ (single : has_test exec.kind ≡ false).
        within_one f entry p input x exec e.1 runs y agrees pieces (subst (λ b. AreChain f entry p.execs x.position b exec.kind pieces) single c) i exists)
        (cases_Bool (has_test exec.kind))

    -- a run that has stopped stays in both
    stopped_within : (x : State) (y : PassState) (pieces : List ℕ) (i : ℕ) → (x.mark ≡ Running → ⊥) → Agrees f entry p input y x → go f p input i y ≡ y → step p input x ≡ x → IsWithin f pieces i x (step p input x) (go f p input i y)
    stopped_within x y pieces i stops agrees same stays =
        grind (arith, slice_index pieces i, go f p input i y, stopped f entry p input x y (slice_index pieces i) stops agrees, up_to_own, past_own)

    pub within : (x : State) (y : PassState) (i : ℕ) (mark : Mark) → x.mark ≡ mark → IsInside told lead_on p input exist some loops x → Agrees f entry p input y x → i < length (chain_of x.position) → IsWithin f (chain_of x.position) i x (step p input x) (go f p input i y)
    within x y i Running is h agrees exists = runs_within x y i h is agrees exists
    within x y i Ended is h agrees exists = grind (arith, stopped_within x y (chain_of x.position) i, ended_runs, go_ended f p input i y)
    within x y i (Trapped trap line) is h agrees exists =
        stopped_within x y (chain_of x.position) i (λ (r : x.mark ≡ Running). trapped_runs trap line (sym is ∙ r)) agrees (go_trapped f p input i y trap line (agrees.mark_is ∙ is)) (ap (λ mark. step_from p input x mark) is)
