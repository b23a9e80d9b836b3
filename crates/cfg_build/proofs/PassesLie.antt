-- Each pass of a run lies within a step.
use Rattle.std.proofs.Common.{◌≡◌, ℕ, zero, suc, ◌+◌, ◌<◌, ◌≤◌, ℤ, true, List, length, Some, slice_get, refl, sym, ap, ◌∙◌, subst, ⊎_elim, arith}
use Rattle.std.proofs.lemmas.Bool.{cases_lt}
use Rattle.f77_tree.specs.declared.programs.Exec.{Exec}
use Rattle.f77_tree.specs.declared.programs.NameInfo.{NameInfo}
use Rattle.f77_tree.specs.declared.programs.Program.{Program}
use Rattle.f77_tree.specs.Run.{State, Running, source}
use Rattle.f77_tree.specs.WellFormed.{AreExecs}
use Rattle.cfg_build.specs.Control.{IsReachedExec, is_reached}
use Rattle.cfg_build.specs.Flow.{flow}
use Rattle.cfg_build.specs.Passes.{PassState, passes}
use Rattle.cfg_build.specs.Chains.{entry, has_test, chain, passes_of, StandsAt}
use Rattle.cfg_build.specs.Routes.{AreChain}
use Rattle.cfg_build.specs.Steps.{HasOwnPiece, IsWithin, IsWithinStep, LiesInStep}
use Rattle.cfg_build.proofs.ReachedNodes.{IsTold}
use Rattle.cfg_build.proofs.Lowest.{IsMet}
use Rattle.cfg_build.proofs.ChainsFound.{chain_found}
use Rattle.cfg_build.proofs.ChainSteps.{trapped_runs, ended_runs, Agrees}
use Rattle.cfg_build.proofs.PassSteps.{go, go_more}
use Rattle.cfg_build.proofs.RunPasses.{LeadOn, IsInside, inside}
use Rattle.cfg_build.proofs.PassesFollow.{same_run, passes_follow}
use Rattle.cfg_build.proofs.OwnPieces.{own_piece_of}
use Rattle.cfg_build.proofs.PassesWithin.{within}
use Rattle.std.proofs.lemmas.Grind.{elements}

-- a chain has a piece
pub chain_some : (execs : List Exec) (k : ℕ) → 0 < length (chain execs k)
chain_some execs k = grind arith

-- a run that goes on went on before
pub ran_before : (p : Program) (input : List ℤ) (n : ℕ) → (passes p input (suc n)).mark ≡ Running → (passes p input n).mark ≡ Running
ran_before p input n runs = grind (arith, elements, ended_runs, trapped_runs)

module _ (told : IsTold) (met : IsMet) where
  pub own_piece : (names : List NameInfo) (execs : List Exec) (loops k : ℕ) (exec : Exec) → IsReachedExec names execs loops k exec → HasOwnPiece execs k exec.kind
  own_piece names execs loops k exec is =
      grind (arith, own_piece_of (flow execs) (entry execs) execs k exec.kind (chain execs k) (chain_found told met names execs loops is.well k exec is.found is.reached).are, chain_found told met names execs loops is.well k exec is.found is.reached)

  module _ (lead_on : LeadOn) (p : Program) (input : List ℤ) (well : AreExecs p.names p.execs p.loops) where
    chains : (k : ℕ) (exec : Exec) → is_reached p.execs k ≡ true → slice_get p.execs k ≡ Some exec → AreChain (flow p.execs) (entry p.execs) p.execs k (has_test exec.kind) exec.kind (chain p.execs k)
    chains k exec reached found = (chain_found told met p.names p.execs p.loops well k exec found reached).are

    pub in_program : (n : ℕ) → IsInside told lead_on p input well.successors well.end.some well.loops_nest (source p input n)
    in_program n = inside told lead_on p input well.successors well.end.some well.loops_nest n

    pub follows : (n : ℕ) → StandsAt p (source p input n) (passes p input (passes_of p input n))
    follows n = passes_follow told met lead_on p input well n

    pub within_step : (n i : ℕ) → i < length (chain p.execs (source p input n).position) → IsWithinStep p input n i
    within_step n i exists =
        let f = flow p.execs in
        let x : State = source p input n in
        let y : PassState = passes p input (passes_of p input n) in
        let s : StandsAt p x y = follows n in
        let agrees : Agrees f (entry p.execs) p input y x = record { memory_is = s.memory_is; out_is = s.out_is; mark_is = s.mark_is; enters = s.enters } in
        let same : go f p input i y ≡ passes p input (passes_of p input n + i) =
        ap (λ (a : PassState). go f p input i a) (sym (same_run p input (passes_of p input n)))
        ∙ sym (go_more f p input (passes_of p input n) i (passes p input 0))
        ∙ same_run p input (passes_of p input n + i) in
        subst (λ (a : PassState). IsWithin f (chain p.execs x.position) i x (source p input (suc n)) a) same
        (within told lead_on p input well.successors well.end.some well.loops_nest f (entry p.execs) (chain p.execs) chains x y i x.mark refl (in_program n) agrees exists)

    pub lies : (passed : ℕ) → (passes p input passed).mark ≡ Running → LiesInStep p input passed
    lies zero runs = record { step = 0; place = 0; runs = refl; exists = chain_some p.execs 0; count = omega arith }
    lies (suc passed) runs =
        let before : LiesInStep p input passed = lies passed (ran_before p input passed runs) in
        let count : ℕ = length (chain p.execs (source p input before.step).position) in
        ⊎_elim
        (λ (more : suc before.place < count). record { step = before.step; place = suc before.place; runs = before.runs; exists = more; count = omega (arith, before.count) })
        (λ (last : count ≤ suc before.place).
        let all : passes_of p input (suc before.step) ≡ suc passed = omega (arith, before.count, before.exists, last) in
        record {
          step = suc before.step;
          place = 0;
          runs = sym (follows (suc before.step)).mark_is ∙ ap (λ n. (passes p input n).mark) all ∙ runs;
          exists = chain_some p.execs (source p input (suc before.step)).position;
          count = omega (arith, all);
        })
        (cases_lt (suc before.place) count)
