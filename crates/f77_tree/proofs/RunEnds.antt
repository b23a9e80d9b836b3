-- Where a run has ended or trapped, there is a first step at which it did.
use Rattle.std.proofs.Common.{◌≡◌, ◌≢◌, ℕ, zero, suc, ◌+◌, ◌-◌, ◌≤◌, ℤ, List, refl, sym, ap, ◌∙◌, arith}
use Rattle.f77_tree.specs.declared.programs.Program.{Program}
use Rattle.f77_tree.specs.Run.{Mark, Running, Ended, Trapped, State, source}
use Rattle.f77_tree.specs.Steps.{StopsWithin}
use Rattle.f77_tree.proofs.RunLaws.{step-ended, step-trapped, source-ended, source-trapped}

module _ (p : Program) (input : List ℤ) where
  -- a run that goes on after n steps went on before
  pub running-before : (n m : ℕ) → m ≤ n → (source p input n).mark ≡ Running → (source p input m).mark ≡ Running
  running-before n m le is = by (source p input m).mark refl
    where
      back : (n - m) + m ≡ n
      back = omega (arith, le)

      kept : source p input ((n - m) + m) ≡ source p input m → (source p input m).mark ≡ Running
      kept same = ap (λ (x : State). x.mark) (sym same) ∙ ap (λ k. (source p input k).mark) back ∙ is

      by : (mark : Mark) → (source p input m).mark ≡ mark → (source p input m).mark ≡ Running
      by Running at = at
      by Ended at = kept (source-ended p input m (n - m) at)
      by (Trapped trap line) at = kept (source-trapped p input m (n - m) trap line at)

  -- a run that has stopped after n steps stopped first at one of them
  pub stops-within : (n : ℕ) (mark : Mark) → mark ≢ Running → (source p input n).mark ≡ mark → StopsWithin p input n mark
  stops-within zero mark other is = record { count = 0; within = omega arith; stops = record { reached = is; before = λ m lt. absurd (omega (arith, lt)) } }
  stops-within (suc n) mark other is = by (source p input n).mark refl (λ at. stops-within n mark other at)
    where
      wider : StopsWithin p input n mark → StopsWithin p input (suc n) mark
      wider found = let within = found.within in record { count = found.count; within = omega (arith, within); stops = found.stops }

      by : (now : Mark) → (source p input n).mark ≡ now → ((source p input n).mark ≡ mark → StopsWithin p input n mark) → StopsWithin p input (suc n) mark
      by Running at more = record { count = suc n; within = omega arith; stops = record { reached = is; before = λ m lt. running-before n m (omega (arith, lt)) at } }
      by Ended at more = wider (more (ap (λ (x : State). x.mark) (sym (step-ended p input (source p input n) at)) ∙ is))
      by (Trapped trap line) at more = wider (more (ap (λ (x : State). x.mark) (sym (step-trapped p input (source p input n) trap line at)) ∙ is))
