-- Where runs of programs come to: executables that control can come to, and the ranges of DOs by their beginnings.
use Rattle.std.proofs.Common.{◌≡◌, ℕ, zero, suc, ◌<◌, ◌≤◌, ◌⊎◌, ℤ, true, List, Contains, Option, Some, None, refl, sym, ap, subst, ◌∙◌, inl, inr, ⊎_elim, arith}
use Rattle.std.specs.Prelude.{slice_get, slice_index}
use Rattle.std.proofs.lemmas.Bool.{cases_lt}
use Rattle.std.proofs.lemmas.List.{get_or_default}
use Rattle.std.proofs.lemmas.Option.{slice_get_cases}
use Rattle.f77_tree.specs.declared.programs.Exec.{Exec}
use Rattle.f77_tree.specs.declared.programs.ExecKind.{ExecKind}
use Rattle.f77_tree.specs.declared.programs.NameInfo.{NameInfo}
use Rattle.f77_tree.specs.declared.programs.Program.{Program}
use Rattle.f77_tree.specs.Control.{successors, successors_in, LeadsTo}
use Rattle.f77_tree.specs.Execution.{Memory, Outcome, Goes, Stops, Ends, outcome}
use Rattle.f77_tree.specs.Loops.{InRange, do_start, do_next}
use Rattle.f77_tree.specs.Run.{State, Mark, Running, Ended, Trapped, after, executed_at, source, step_from}
use Rattle.f77_tree.specs.Steps.{IfGoes}
use Rattle.f77_tree.specs.WellFormed.{AreExecs}
use Rattle.cfg_build.specs.Control.{is_reached}
use Rattle.simplified_laws.proofs.ControlWays.{ReachingIsTold, reached-first, reached-next}

-- what the law on successors says
abbrev pub LeadOn : Type 0
LeadOn = (names : List NameInfo) (input : List ℤ) (m : Memory) (kind : ExecKind) → IfGoes (outcome names input m kind) (λ next new text. Contains (successors kind) next)

module _ (p : Program) (input : List ℤ) (lead : LeadOn) where
  abbrev at : ℕ → ℕ
  at n = (source p input n).position

  -- the run goes on from here, to a successor
  pub record GoesOn (n : ℕ) : Type 0 where
    pub runs : (source p input n).mark ≡ Running
    pub leads : LeadsTo p.execs (at n) (at (suc n))

  after-outcome : (x : State) (line : ℕ) (kind : ExecKind) (o : Outcome) → IfGoes o (λ next new text. Contains (successors kind) next) → ((after x line o).position ≡ x.position) ⊎ Contains (successors kind) (after x line o).position
  after-outcome x line kind (Goes next memory text) leads = inr leads
  after-outcome x line kind (Stops trap) leads = inl refl
  after-outcome x line kind Ends leads = inl refl

  after-step : (x : State) (o : Option Exec) → ((executed_at p input x o).position ≡ x.position) ⊎ Contains (successors_in o) (executed_at p input x o).position
  after-step x None = inl refl
  after-step x (Some exec) = after-outcome x exec.line exec.kind (outcome p.names input x.memory exec.kind) (lead p.names input x.memory exec.kind)

  -- a step leads to a successor, or the position stays
  stepped : (n : ℕ) → (at (suc n) ≡ at n) ⊎ GoesOn n
  stepped n = by (source p input n).mark refl
    where
      x : State
      x = source p input n

      by : (mark : Mark) → (source p input n).mark ≡ mark → (at (suc n) ≡ at n) ⊎ GoesOn n
      by Running is =
          let same : at (suc n) ≡ (executed_at p input (source p input n) (slice_get p.execs (at n))).position = ap (λ (mark : Mark). (step_from p input (source p input n) mark).position) is in
          ⊎_elim
          (λ stays. inl (same ∙ stays))
          (λ (leads : Contains (successors_in (slice_get p.execs (at n))) (executed_at p input (source p input n) (slice_get p.execs (at n))).position).
          inr (record { runs = is; leads = subst (λ s. LeadsTo p.execs (at n) s) (sym same) leads }))
          (after-step (source p input n) (slice_get p.execs (at n)))
      by Ended is = inl (ap (λ (mark : Mark). (step_from p input (source p input n) mark).position) is)
      by (Trapped trap line) is = inl (ap (λ (mark : Mark). (step_from p input (source p input n) mark).position) is)

  module _ (well : AreExecs p.names p.execs p.loops) where
    reached-successor : ReachingIsTold → (k s : ℕ) → is_reached p.execs k ≡ true → LeadsTo p.execs k s → is_reached p.execs s ≡ true
    reached-successor told k s reached leads =
        ⊎_elim
        (λ there.
        let exec : Exec = there.0 in
        let among : Contains (successors exec.kind) s = subst (λ (o : Option Exec). Contains (successors_in o) s) there.2 leads in
        let is : slice_index (successors exec.kind) among.0 ≡ s = get_or_default (successors exec.kind) among.0 0 s among.1 ∙ among.2 in
        subst (λ n. is_reached p.execs n ≡ true) is (reached-next p.execs well.successors told k exec among.0 there.2 among.1 reached))
        (λ past.
        let among : Contains (successors_in None) s = subst (λ (o : Option Exec). Contains (successors_in o) s) past.1 leads in
        absurd (omega (arith, among.1)))
        (slice_get_cases p.execs k).1

    -- a run stands at an executable that control can come to
    pub reached-at : ReachingIsTold → (n : ℕ) → is_reached p.execs (at n) ≡ true
    reached-at told zero = reached-first p.execs well.successors told well.end.some
    reached-at told (suc n) = ⊎_elim
        (λ (stays : at (suc n) ≡ at n). subst (λ k. is_reached p.execs k ≡ true) (sym stays) (reached-at told n))
        (λ (goes : GoesOn n). reached-successor told (at n) (at (suc n)) (reached-at told n) goes.leads)
        (stepped n)

    -- a run came to the range of a DO from the beginning of the DO
    pub record Began (d : ℕ) : Type 0 where
      pub step : ℕ
      pub runs : (source p input step).mark ≡ Running
      pub is : at step ≡ do_start p.execs d

    pub began : (d : ℕ) → d < p.loops → (n : ℕ) → InRange p.execs d (at n) → Began d
    began d less zero inside = let after = inside.after_start in absurd (omega (arith, after))
    began d less (suc n) inside = ⊎_elim
        (λ (stays : at (suc n) ≡ at n). began d less n (subst (λ k. InRange p.execs d k) stays inside))
        (λ (goes : GoesOn n).
        ⊎_elim
        (λ (before : at n ≤ do_start p.execs d). comes goes (λ within. let after = within.after_start in omega (arith, after, before)))
        (λ (past : do_start p.execs d < at n).
        ⊎_elim
        (λ (beyond : do_next p.execs d < at n). comes goes (λ within. let up_to = within.up_to_next in omega (arith, up_to, beyond)))
        (λ up_to. began d less n (record { after_start = past; up_to_next = up_to }))
        (cases_lt (do_next p.execs d) (at n)))
        (flip (cases_lt (do_start p.execs d) (at n))))
        (stepped n)
      where
        flip : {A B : Type 0} → A ⊎ B → B ⊎ A
        flip (inl a) = inr a
        flip (inr b) = inl b

        comes : GoesOn n → (InRange p.execs d (at n) → ⊥) → Began d
        comes goes outside = record { step = n; runs = goes.runs; is = (well.loops_nest.entered d less (at n) (at (suc n)) outside goes.leads inside).0 }
