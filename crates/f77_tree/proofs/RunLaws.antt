-- Laws of runs: what a step reads and changes, and how runs end.
use Rattle.std.proofs.Common.{◌≡◌, ℕ, zero, suc, ◌+◌, ℤ, List, [], ◌++◌, Option, Some, None, slice_get, refl, sym, ap, ◌∙◌, append_assoc, append-nil, subst, arith}
use Rattle.op_table.specs.declared.Trap.{Trap}
use Rattle.f77_tree.specs.declared.programs.Exec.{Exec}
use Rattle.f77_tree.specs.declared.programs.Program.{Program}
use Rattle.f77_tree.specs.Execution.{Outcome, Goes, Stops, Ends, outcome}
use Rattle.f77_tree.specs.Prefixes.{IsPrefix}
use Rattle.f77_tree.specs.Run.{Mark, Running, Ended, Trapped, State, after, executed_at, step_from, step, source, out}

-- ---- more was written

pub grows_not : (old : List ℕ) → IsPrefix old old
grows_not old = record { more = []; is = sym (append-nil old) }

pub grows_on : (a b c : List ℕ) → IsPrefix a b → IsPrefix b c → IsPrefix a c
grows_on a b c first then' = record { more = first.more ++ then'.more; is = then'.is ∙ ap (λ xs. xs ++ then'.more) first.is ∙ append_assoc a first.more then'.more }

after-out : (x : State) (line : ℕ) (o : Outcome) → IsPrefix x.out (after x line o).out
after-out x line (Goes next memory text) = record { more = text; is = refl }
after-out x line (Stops trap) = grows_not x.out
after-out x line Ends = grows_not x.out

module _ (p : Program) (input : List ℤ) where
  -- ---- a run that has ended or trapped stays as it is

  pub step-ended : (x : State) → x.mark ≡ Ended → step p input x ≡ x
  step-ended x is = ap (step_from p input x) is

  pub step-trapped : (x : State) (trap : Trap) (line : ℕ) → x.mark ≡ Trapped trap line → step p input x ≡ x
  step-trapped x trap line is = ap (step_from p input x) is

  -- a running state at an executable
  pub step-running : (x : State) (exec : Exec) → x.mark ≡ Running → slice_get p.execs x.position ≡ Some exec → step p input x ≡ after x exec.line (outcome p.names input x.memory exec.kind)
  step-running x exec is at = ap (step_from p input x) is ∙ ap (executed_at p input x) at

  pub source-stays : (n k : ℕ) → step p input (source p input n) ≡ source p input n → source p input (k + n) ≡ source p input n
  source-stays n zero same = let e : zero + n ≡ n = omega arith in ap (source p input) e
  source-stays n (suc k) same =
      let e : suc k + n ≡ suc (k + n) = omega arith in
      ap (source p input) e ∙ ap (step p input) (source-stays n k same) ∙ same

  pub source-ended : (n k : ℕ) → (source p input n).mark ≡ Ended → source p input (k + n) ≡ source p input n
  source-ended n k is = source-stays n k (step-ended (source p input n) is)

  pub source-trapped : (n k : ℕ) (trap : Trap) (line : ℕ) → (source p input n).mark ≡ Trapped trap line → source p input (k + n) ≡ source p input n
  source-trapped n k trap line is = source-stays n k (step-trapped (source p input n) trap line is)

  -- ---- the output only grows, and no step reads it

  executed-out : (x : State) (exec : Option Exec) → IsPrefix x.out (executed_at p input x exec).out
  executed-out x None = grows_not x.out
  executed-out x (Some exec) = after-out x exec.line (outcome p.names input x.memory exec.kind)

  step_from-out : (x : State) (mark : Mark) → IsPrefix x.out (step_from p input x mark).out
  step_from-out x Running = executed-out x (slice_get p.execs x.position)
  step_from-out x Ended = grows_not x.out
  step_from-out x (Trapped trap line) = grows_not x.out

  pub step-out : (x : State) → IsPrefix x.out (step p input x).out
  step-out x = step_from-out x x.mark

  pub out-grows : (n k : ℕ) → IsPrefix (out p input n) (out p input (k + n))
  out-grows n zero = let e : n ≡ zero + n = omega arith in subst (λ m. IsPrefix (out p input n) (out p input m)) e (grows_not (out p input n))
  out-grows n (suc k) =
      let e : suc (k + n) ≡ suc k + n = omega arith in
      subst (λ m. IsPrefix (out p input n) (out p input m)) e (grows_on _ _ _ (out-grows n k) (step-out (source p input (k + n))))
