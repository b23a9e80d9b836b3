-- Runs of a program and of its simplified form, in step from the beginning, print alike.
use Rattle.std.proofs.Common.{◌≡◌, ◌≢◌, ℕ, zero, suc, ◌+◌, ◌-◌, ◌<◌, ◌≤◌, ◌⊎◌, ℤ, pos, Bool, List, [], length, replicate, Some, refl, sym, ap, subst, ◌∙◌, ⊎_elim, inl, inr, arith, append-nil}
use Rattle.std.specs.Prelude.{slice_get, slice_index}
use Rattle.std.proofs.lemmas.Bool.{cases_eq, cases_lt}
use Rattle.std.proofs.lemmas.List.{length-replicate}
use Rattle.std.proofs.lemmas.Option.{slice_get_within}
use Rattle.op_table.specs.declared.Trap.{Trap}
use Rattle.f77_tree.specs.declared.programs.Exec.{Exec}
use Rattle.f77_tree.specs.declared.programs.Program.{Program}
use Rattle.f77_tree.specs.Run.{HasEnded, HasTrapped, Mark, PrintAlike, Reaches, State, Running, Ended, Trapped, source, step}
use Rattle.f77_tree.specs.Value.{word_at}
use Rattle.f77_tree.proofs.RunLaws.{out-grows, source-ended, source-trapped, step-ended, step-trapped}
use Rattle.alias_classes.specs.Classes.{ClassTable}
use Rattle.const_prop.specs.Table.{Knowns}
use Rattle.flat_programs.specs.Marks.{loop_count}
use Rattle.simplified_laws.specs.InStep.{new_number, AreInStep, KeepsStep}
use Rattle.simplified_laws.proofs.FlatItems.{all as form}
use Rattle.simplified_laws.proofs.EntriesLed.{new_form}
use Rattle.simplified_laws.proofs.KindsInStep.{step-follows, HasForm, IsRightIn}
use Rattle.simplified_laws.proofs.Stepping.{run-taken, source-more, steps_on}
use Rattle.simplified_laws.proofs.StepsMet.{Follows}

-- ---- at the beginning

counts-first : (n k : ℕ) → slice_index (replicate n 0) k ≡ 0
counts-first zero k = refl
counts-first (suc n) zero = refl
counts-first (suc n) (suc k) = counts-first n k

words-first : (n k : ℕ) → word_at (replicate n (pos 0)) k ≡ pos 0
words-first zero k = refl
words-first (suc n) zero = refl
words-first (suc n) (suc k) = words-first n k

-- ---- what has stopped

pub record Stays (p : Program) (input : List ℤ) (n : ℕ) : Type 0 where
  pub stays : (k : ℕ) → source p input (k + n) ≡ source p input n

module _ (p : Program) (input : List ℤ) where
  stays-by : (n : ℕ) (mark : Mark) → (source p input n).mark ≡ mark → mark ≢ Running → Stays p input n
  stays-by n Running is stopped = absurd (stopped refl)
  stays-by n Ended is stopped = record { stays = λ k. source-ended p input n k is }
  stays-by n (Trapped trap line) is stopped = record { stays = λ k. source-trapped p input n k trap line is }

  pub stopped-stays : (n : ℕ) → (source p input n).mark ≢ Running → Stays p input n
  stopped-stays n stopped = stays-by n (source p input n).mark refl stopped

  -- two times at which a run has stopped
  pub stopped-same : (m n : ℕ) → (source p input m).mark ≢ Running → (source p input n).mark ≢ Running → source p input m ≡ source p input n
  stopped-same m n first second =
      ⊎_elim
      (λ (less : m < n). let d = n - m in let e : d + m ≡ n = omega (arith, less) in sym (ap (source p input) (sym e) ∙ (stopped-stays m first).stays d))
      (λ (le : n ≤ m). let d = m - n in let e : d + n ≡ m = omega (arith, le) in ap (source p input) (sym e) ∙ (stopped-stays n second).stays d)
      (cases_lt m n)

  -- what has stopped is so later
  pub later-same : (m n : ℕ) → m ≤ n → (source p input m).mark ≢ Running → source p input n ≡ source p input m
  later-same m n le stopped = let d = n - m in let e : d + m ≡ n = omega (arith, le) in ap (source p input) (sym e) ∙ (stopped-stays m stopped).stays d

  step-stays : (x : State) (mark : Mark) → x.mark ≡ mark → mark ≢ Running → step p input x ≡ x
  step-stays x Running is stopped = absurd (stopped refl)
  step-stays x Ended is stopped = step-ended p input x is
  step-stays x (Trapped trap line) is stopped = step-trapped p input x trap line is

running-or-not : (mark : Mark) → (mark ≡ Running) ⊎ (mark ≢ Running)
running-or-not Running = inl refl
running-or-not Ended = inr (λ h. let no : Ended ≡ Running = h in cc)
running-or-not (Trapped trap line) = inr (λ h. let no : Trapped trap line ≡ Running = h in cc)

-- an executable that comes next, of which what is told is so
pub record ComesNext (p : Program) (c : ClassTable) (t : Knowns) (checked : Bool) (is_item : ℕ → Bool) (input : List ℤ) (x : State) : Type 0 where
  pub exec : Exec
  pub found : slice_get p.execs x.position ≡ Some exec
  pub right : IsRightIn p c t checked is_item input x.position x.memory

module _ (p : Program) (c : ClassTable) (t : Knowns) (checked : Bool) (is_item : ℕ → Bool) (input : List ℤ) (has : HasForm p c t checked is_item)
    (next : (n : ℕ) → (source p input n).mark ≡ Running → ComesNext p c t checked is_item input (source p input n)) where
  abbrev q : Program
  q = new_form p c t checked is_item input

  abbrev InStepAt : ℕ → ℕ → Type 0
  InStepAt n m = AreInStep p c t checked is_item (source p input n) (source q input m)

  first-in-step : InStepAt 0 0
  first-in-step = record {
    position = λ h. refl;
    memory = record {
      store = refl;
      taken = refl;
      count_room = length-replicate (loop_count (form p c t checked is_item)) 0;
      step_room = length-replicate (loop_count (form p c t checked is_item)) (pos 0);
      counts = λ n few item. counts-first (loop_count (form p c t checked is_item)) (new_number p c t checked is_item n) ∙ sym (counts-first p.loops n);
      steps = λ n few item. words-first (loop_count (form p c t checked is_item)) (new_number p c t checked is_item n) ∙ sym (words-first p.loops n);
    };
    out = refl;
    mark = refl;
  }

  -- ---- one step more

  follows-at : (n m : ℕ) → InStepAt n m → (source p input n).mark ≡ Running → Follows p c t checked is_item input (source p input n) (source q input m)
  follows-at n m in_step runs =
      let o = next n runs in
      step-follows p c t checked is_item input has (source p input n) (source q input m) in_step runs o.exec o.found o.right

  after-follows : (n m count : ℕ) → AreInStep p c t checked is_item (step p input (source p input n)) (steps_on q input count (source q input m)) → InStepAt (suc n) (count + m)
  after-follows n m count in_step = subst (AreInStep p c t checked is_item (step p input (source p input n))) (sym (source-more q input count m)) in_step

  after-stop : (n m : ℕ) → InStepAt n m → (source p input n).mark ≢ Running → InStepAt (suc n) m
  after-stop n m in_step stopped = subst (λ (x : State). AreInStep p c t checked is_item x (source q input m)) (sym (step-stays p input (source p input n) (source p input n).mark refl stopped)) in_step

  one-more : (n : ℕ) → KeepsStep p c t checked is_item input n → KeepsStep p c t checked is_item input (suc n)
  one-more n s =
      ⊎_elim
      (λ (runs : (source p input n).mark ≡ Running).
      let f = follows-at n s.steps s.in_step runs in
      let sum = run-taken q input f.count s.steps in
      record {
        steps = f.count + s.steps;
        most = let a = s.most in let b = f.most in omega (arith, a, b);
        operations = let a = s.operations in let b = f.operations in omega (arith, a, b, sum);
        in_step = after-follows n s.steps f.count f.in_step;
      })
      (λ (stopped : (source p input n).mark ≢ Running). record { steps = s.steps; most = let a = s.most in omega (arith, a); operations = let a = s.operations in omega (arith, a); in_step = after-stop n s.steps s.in_step stopped })
      (running-or-not (source p input n).mark)

  pub keeps-step : (n : ℕ) → KeepsStep p c t checked is_item input n
  keeps-step zero = record { steps = 0; most = omega arith; operations = omega arith; in_step = first-in-step }
  keeps-step (suc n) = one-more n (keeps-step n)

  -- ---- every step of the simplified form is reached

  record Advances (m : ℕ) : Type 0 where
    steps : ℕ
    new_steps : ℕ
    in_step : InStepAt steps new_steps
    enough : (m < new_steps) ⊎ ((source p input steps).mark ≢ Running)

  advance-by : (fuel n m : ℕ) → InStepAt n m → (source p input n).mark ≡ Running → length p.execs ≤ (source p input n).position + fuel → Advances m
  advance-by zero n m in_step runs enough =
      let o = next n runs in
      let within = slice_get_within p.execs (source p input n).position o.exec o.found in
      absurd (omega (arith, enough, within))
  advance-by (suc fuel) n m in_step runs enough =
      let f = follows-at n m in_step runs in
      let more = after-follows n m f.count f.in_step in
      ⊎_elim
      (λ (none : f.count ≡ 0).
      let same : f.count + m ≡ m = omega (arith, none) in
      let there : InStepAt (suc n) m = subst (InStepAt (suc n)) same more in
      ⊎_elim
      (λ (on : (source p input (suc n)).mark ≡ Running).
      let later = f.later none on in
      advance-by fuel (suc n) m there on (omega (arith, enough, later)))
      (λ (stopped : (source p input (suc n)).mark ≢ Running). record { steps = suc n; new_steps = m; in_step = there; enough = inr stopped })
      (running-or-not (source p input (suc n)).mark))
      (λ (some : f.count ≢ 0). record { steps = suc n; new_steps = f.count + m; in_step = more; enough = inl (omega (arith, some)) })
      (cases_eq f.count 0)

  record ReachesTo (count : ℕ) : Type 0 where
    steps : ℕ
    new_steps : ℕ
    in_step : InStepAt steps new_steps
    enough : (count ≤ new_steps) ⊎ ((source p input steps).mark ≢ Running)

  reach-more : (count : ℕ) → ReachesTo count → ReachesTo (suc count)
  reach-more count r =
      ⊎_elim
      (λ (runs : (source p input r.steps).mark ≡ Running).
      let a = advance-by (length p.execs) r.steps r.new_steps r.in_step runs (omega arith) in
      ⊎_elim
      (λ (at_least : count ≤ r.new_steps).
      record { steps = a.steps; new_steps = a.new_steps; in_step = a.in_step; enough = ⊎_elim (λ less. inl (omega (arith, less, at_least))) (λ stopped. inr stopped) a.enough })
      (λ (stopped : (source p input r.steps).mark ≢ Running). absurd (stopped runs))
      r.enough)
      (λ (stopped : (source p input r.steps).mark ≢ Running). record { steps = r.steps; new_steps = r.new_steps; in_step = r.in_step; enough = inr stopped })
      (running-or-not (source p input r.steps).mark)

  reach : (count : ℕ) → ReachesTo count
  reach zero = record { steps = 0; new_steps = 0; in_step = first-in-step; enough = inl (omega arith) }
  reach (suc count) = reach-more count (reach count)

  -- ---- what is printed

  in-step-stops : (n m : ℕ) → InStepAt n m → (source p input n).mark ≢ Running → (source q input m).mark ≢ Running
  in-step-stops n m in_step stopped h = stopped (sym in_step.mark ∙ h)

  -- where the simplified form has stopped, so has the program
  record IsStopOf (m : ℕ) : Type 0 where
    steps : ℕ
    mark : (source p input steps).mark ≡ (source q input m).mark
    out : (source p input steps).out ≡ (source q input m).out

  stop-at : (n m k : ℕ) → InStepAt n k → source q input k ≡ source q input m → IsStopOf m
  stop-at n m k in_step same = record { steps = n; mark = sym in_step.mark ∙ ap (λ (s : State). s.mark) same; out = sym in_step.out ∙ ap (λ (s : State). s.out) same }

  stop-of : (m : ℕ) → (source q input m).mark ≢ Running → IsStopOf m
  stop-of m stopped =
      let r = reach m in
      ⊎_elim
      (λ (at_least : m ≤ r.new_steps). stop-at r.steps m r.new_steps r.in_step (later-same q input m r.new_steps at_least stopped))
      (λ (also : (source p input r.steps).mark ≢ Running). stop-at r.steps m r.new_steps r.in_step (stopped-same q input r.new_steps m (in-step-stops r.steps r.new_steps r.in_step also) stopped))
      r.enough

  abbrev old_run : ℕ → State
  old_run = source p input

  abbrev new_run : ℕ → State
  new_run = source q input

  reaches-on : (n : ℕ) → Reaches new_run (source p input n).out
  reaches-on n = let s = keeps-step n in record { steps = s.steps; rest = []; is = s.in_step.out ∙ sym (append-nil (source p input n).out) }

  reaches-by : (m k n : ℕ) → InStepAt n k → m ≤ k → Reaches old_run (source q input m).out
  reaches-by m k n in_step le =
      let d = k - m in
      let e : d + m ≡ k = omega (arith, le) in
      let grows = out-grows q input m d in
      record { steps = n; rest = grows.more; is = sym in_step.out ∙ ap (λ i. (source q input i).out) (sym e) ∙ grows.is }

  reaches-back : (m : ℕ) → Reaches old_run (source q input m).out
  reaches-back m =
      let r = reach m in
      ⊎_elim
      (λ (at_least : m ≤ r.new_steps). reaches-by m r.new_steps r.steps r.in_step at_least)
      (λ (stopped : (source p input r.steps).mark ≢ Running).
      ⊎_elim
      (λ (less : r.new_steps < m).
      let same = later-same q input r.new_steps m (omega (arith, less)) (in-step-stops r.steps r.new_steps r.in_step stopped) in
      record { steps = r.steps; rest = []; is = sym r.in_step.out ∙ ap (λ (s : State). s.out) (sym same) ∙ sym (append-nil (source q input m).out) })
      (λ (le : m ≤ r.new_steps). reaches-by m r.new_steps r.steps r.in_step le)
      (cases_lt r.new_steps m))
      r.enough

  not-running : (mark other : Mark) → mark ≡ other → other ≢ Running → mark ≢ Running
  not-running mark other same stopped h = stopped (sym same ∙ h)

  ended-on : HasEnded old_run → HasEnded new_run
  ended-on h = let s = keeps-step h.steps in record { steps = s.steps; ended = s.in_step.mark ∙ h.ended }

  ended-back : HasEnded new_run → HasEnded old_run
  ended-back h =
      let s = stop-of h.steps (not-running (source q input h.steps).mark Ended h.ended (λ e. let no : Ended ≡ Running = e in cc)) in
      record { steps = s.steps; ended = s.mark ∙ h.ended }

  trapped-on : (trap : Trap) (text : List ℕ) → HasTrapped old_run trap text → HasTrapped new_run trap text
  trapped-on trap text h = let s = keeps-step h.steps in record { steps = s.steps; line = h.line; trapped = s.in_step.mark ∙ h.trapped; whole = s.in_step.out ∙ h.whole }

  trapped-back : (trap : Trap) (text : List ℕ) → HasTrapped new_run trap text → HasTrapped old_run trap text
  trapped-back trap text h =
      let s = stop-of h.steps (not-running (source q input h.steps).mark (Trapped trap h.line) h.trapped (λ e. let no : Trapped trap h.line ≡ Running = e in cc)) in
      record { steps = s.steps; line = h.line; trapped = s.mark ∙ h.trapped; whole = s.out ∙ h.whole }

  pub print-alike : PrintAlike old_run new_run
  print-alike = record {
    prefix = reaches-on;
    back = reaches-back;
    ends = (ended-on, ended-back);
    traps = λ trap text. (trapped-on trap text, trapped-back trap text);
  }

  -- where both have ended, they have the same words
  pub same-words : (m n : ℕ) → (source p input m).mark ≡ Ended → (source q input n).mark ≡ Ended → (source q input n).memory.store ≡ (source p input m).memory.store
  same-words m n ended new_ended =
      let s = keeps-step m in
      let stopped = not-running (source q input n).mark Ended new_ended (λ e. let no : Ended ≡ Running = e in cc) in
      let also = not-running (source q input s.steps).mark Ended (s.in_step.mark ∙ ended) (λ e. let no : Ended ≡ Running = e in cc) in
      ap (λ (x : State). x.memory.store) (stopped-same q input n s.steps stopped also) ∙ s.in_step.memory.store
