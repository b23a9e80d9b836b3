-- A run of steps is a run of passes, chain by chain, as far as chains are as they are said to be.
use Rattle.std.proofs.Common.{◌≡◌, ℕ, zero, suc, ◌+◌, ◌<◌, ℤ, true, false, List, length, Contains, Some, slice_get, refl, sym, ap, ◌∙◌, subst, ⊎_elim, arith}
use Rattle.std.proofs.lemmas.Bool.{cases_Bool}
use Rattle.std.proofs.lemmas.List.{length-replicate}
use Rattle.f77_tree.specs.declared.programs.Exec.{Exec}
use Rattle.f77_tree.specs.declared.programs.ExecKind.{ExecKind}
use Rattle.f77_tree.specs.declared.programs.NameInfo.{NameInfo}
use Rattle.f77_tree.specs.declared.programs.Program.{Program}
use Rattle.f77_tree.specs.Control.{successors, SuccessorsExist}
use Rattle.f77_tree.specs.Execution.{Memory, Outcome, Goes, Stops, Ends, outcome}
use Rattle.f77_tree.specs.Loops.{begun_in, incremented_in, AreLoops}
use Rattle.f77_tree.specs.Run.{State, Mark, Running, Ended, Trapped, after, step_from, step, source}
use Rattle.f77_tree.specs.Steps.{IfGoes}
use Rattle.cfg_build.specs.Control.{is_reached}
use Rattle.cfg_build.specs.Joined.{FlowGraph}
use Rattle.cfg_build.specs.Passes.{PassState}
use Rattle.cfg_build.specs.Chains.{has_test}
use Rattle.cfg_build.specs.Routes.{AreChain, IsTwoParts}
use Rattle.cfg_build.proofs.ControlGraph.{exec_at, lead_below, reached_first, reached_next}
use Rattle.cfg_build.proofs.CountsKept.{counts_kept}
use Rattle.cfg_build.proofs.ReachedNodes.{IsTold}
use Rattle.cfg_build.proofs.PassSteps.{go, go_more, go_ended, go_trapped}
use Rattle.cfg_build.proofs.ChainSteps.{Agrees, one_part}
use Rattle.cfg_build.proofs.TestSteps.{two_parts}
use Rattle.cfg_build.proofs.DoTests.{IsDoStep, do_step, test_of}

-- what the law on successors says
abbrev pub LeadOn : Type 0
LeadOn = (names : List NameInfo) (input : List ℤ) (m : Memory) (kind : ExecKind) → IfGoes (outcome names input m kind) (λ next new text. Contains (successors kind) next)

module _ (told : IsTold) (lead_on : LeadOn) (p : Program) (input : List ℤ) (exist : SuccessorsExist p.execs) (some : 0 < length p.execs) (loops : AreLoops p.execs p.loops) where
  -- a run stands at an executable that control can come to, with as many counts as there are DOs
  pub record IsInside (x : State) : Type 0 where
    pub below : x.position < length p.execs
    pub reached : is_reached p.execs x.position ≡ true
    pub counts : length x.memory.counts ≡ p.loops

  inside_after : (x : State) (exec : Exec) (o : Outcome) → IsInside x → slice_get p.execs x.position ≡ Some exec → IfGoes o (λ next new text. Contains (successors exec.kind) next) → IfGoes o (λ next new text. length new.counts ≡ length x.memory.counts) → IsInside (after x exec.line o)
  inside_after x exec (Goes next new text) h found leads counts =
      grind (arith, lead_below p.execs exist x.position next, reached_next p.execs exist told some x.position next h.below h.reached)
  inside_after x exec (Stops trap) h found leads counts = record { below = h.below; reached = h.reached; counts = h.counts }
  inside_after x exec Ends h found leads counts = record { below = h.below; reached = h.reached; counts = h.counts }

  inside_next : (x : State) (mark : Mark) → x.mark ≡ mark → IsInside x → IsInside (step p input x)
  inside_next x Running runs h = grind (arith, exec_at p.execs x.position h.below, inside_after x, counts_kept p.names input x.memory)
  inside_next x Ended is h = subst (λ (s : State). IsInside s) (sym (ap (λ mark. step_from p input x mark) is)) h
  inside_next x (Trapped trap line) is h = subst (λ (s : State). IsInside s) (sym (ap (λ mark. step_from p input x mark) is)) h

  pub inside : (n : ℕ) → IsInside (source p input n)
  inside zero = record { below = some; reached = reached_first p.execs exist told some; counts = length-replicate p.loops 0 }
  inside (suc n) = inside_next (source p input n) (source p input n).mark refl (inside n)

  module _ (f : FlowGraph) (entry : ℕ → ℕ) (chain_of : ℕ → List ℕ) (chains : (k : ℕ) (exec : Exec) → is_reached p.execs k ≡ true → slice_get p.execs k ≡ Some exec → AreChain f entry p.execs k (has_test exec.kind) exec.kind (chain_of k)) where
    runs_on : (x : State) (y : PassState) → IsInside x → x.mark ≡ Running → Agrees f entry p input y x → Agrees f entry p input (go f p input (length (chain_of x.position)) y) (step p input x)
    runs_on x y h runs agrees =
        let e = exec_at p.execs x.position h.below in
        let exec : Exec = e.0 in
        let pieces : List ℕ = chain_of x.position in
        let c : AreChain f entry p.execs x.position (has_test exec.kind) exec.kind pieces = chains x.position exec h.reached e.1 in
        ⊎_elim
        (λ (two : has_test exec.kind ≡ true).
        let parts : IsTwoParts f entry p.execs x.position exec.kind pieces = subst (λ b. AreChain f entry p.execs x.position b exec.kind pieces) two c in
        let d : IsDoStep p input x.position exec.kind =
        do_step p input loops x.position exec.kind (λ loop begins. ap (λ o. begun_in o) e.1 ∙ begins) (λ loop increments. ap (λ o. incremented_in o) e.1 ∙ increments) two in
        two_parts f entry p input d.loop_no d.body d.exit x exec e.1 runs y agrees pieces parts (λ m. refl)
        (d.tells x.memory (omega (arith, h.counts, d.few)))
        (test_of p input loops f entry x.position exec.kind parts.test two d parts.ends))
        (λ (single : has_test exec.kind ≡ false).
        one_part f entry p input x exec e.1 runs y agrees pieces single (subst (λ b. AreChain f entry p.execs x.position b exec.kind pieces) single c))
        (cases_Bool (has_test exec.kind))

    -- a run that has stopped stays in both
    next_agrees : (x : State) (y : PassState) (mark : Mark) → x.mark ≡ mark → IsInside x → Agrees f entry p input y x → Agrees f entry p input (go f p input (length (chain_of x.position)) y) (step p input x)
    next_agrees x y Running runs h agrees = runs_on x y h runs agrees
    next_agrees x y Ended is h agrees =
        grind (arith, go f p input (length (chain_of x.position)) y, go_ended f p input (length (chain_of x.position)) y)
    next_agrees x y (Trapped trap line) is h agrees =
        grind (arith, go f p input (length (chain_of x.position)) y, go_trapped f p input (length (chain_of x.position)) y trap line)

    -- how many passes make so many steps
    abbrev pub passes_in : ℕ → ℕ
    passes_in zero = 0
    passes_in (suc n) = passes_in n + length (chain_of (source p input n).position)

    pub all_agree : (y : PassState) → Agrees f entry p input y (source p input 0) → (n : ℕ) → Agrees f entry p input (go f p input (passes_in n) y) (source p input n)
    all_agree y first zero = first
    all_agree y first (suc n) =
        grind (arith, go_more f p input (passes_in n), next_agrees, go f p input (passes_in n) y, inside n, all_agree y first n)
