-- The run of units and that of a program, of which the second keeps up with the first, are alike.
use Rattle.std.proofs.Common.{◌≡◌, ◌≢◌, ℕ, zero, suc, ◌+◌, ◌<◌, ◌≤◌, ◌⊎◌, ℤ, Bool, List, [], ◌∷◌, Option, Some, None, refl, sym, ap, subst, ◌∙◌, inl, inr, arith}
use Rattle.std.specs.Prelude.{slice_get}
use Rattle.op_table.specs.declared.Trap.{Trap}
use Rattle.f77_tree.specs.declared.programs.Exec.{Exec}
use Rattle.f77_tree.specs.declared.programs.Program.{Program}
use Rattle.f77_tree.specs.declared.statements.Labelled.{Labelled}
use Rattle.f77_tree.specs.Execution.{Outcome, Goes, Stops, Ends, outcome}
use Rattle.f77_tree.specs.Prefixes.{IsPrefix}
use Rattle.f77_tree.specs.Run.{Mark, Running, Ended, Trapped, State, source, step}
use Rattle.f77_tree.specs.Value.{word_at}
use Rattle.f77_tree.proofs.RunLaws.{grows_not, step-ended, step-out, step-trapped}
use Rattle.program_units.specs.Calls.{Act, Calls, CallState, Does, Frame, Halts, Returns, RunsAlike, act, acted, after, called, executed, memory_of, on_top, step_from}
use Rattle.program_units.specs.declared.entity.Entity.{Entity}
use Rattle.program_units.specs.Layouts.{own_program}
use Rattle.program_units.specs.Storage.{placed}
use Rattle.program_units.specs.Units.{unit_at}
use Rattle.called_runs.proofs.KeptUp.{HaveStopped, IsRun, KeepsUp, Paces, back, front, paces, stops, stops-back}

-- the state of a program after some steps more
abbrev pub steps_on : Program → List ℤ → (count : ℕ) → State → State
steps_on p input zero y = y
steps_on p input (suc count) y = step p input (steps_on p input count y)

source-on : (p : Program) (input : List ℤ) (count m : ℕ) → source p input (count + m) ≡ steps_on p input count (source p input m)
source-on p input zero m = let e : zero + m ≡ m = omega arith in ap (source p input) e
source-on p input (suc count) m = let e : suc count + m ≡ suc (count + m) = omega arith in ap (source p input) e ∙ ap (step p input) (source-on p input count m)

-- ---- a run of a program

module _ (p : Program) (input : List ℤ) where
  step-stays : (y : State) (mark : Mark) → y.mark ≡ mark → mark ≢ Running → step p input y ≡ y
  step-stays y Running is stopped = absurd (stopped refl)
  step-stays y Ended is stopped = step-ended p input y is
  step-stays y (Trapped trap line) is stopped = step-trapped p input y trap line is

  source-run : IsRun (λ n. (source p input n).mark) (λ n. (source p input n).out)
  source-run = record {
    grows = λ n. step-out p input (source p input n);
    mark_stays = λ n stopped. ap (λ (y : State). y.mark) (step-stays (source p input n) (source p input n).mark refl stopped);
    out_stays = λ n stopped. ap (λ (y : State). y.out) (step-stays (source p input n) (source p input n).mark refl stopped);
  }

-- ---- a run of units

module _ (us : List (List Labelled)) (checked : Bool) (spot : Entity → ℕ) (input : List ℤ) where
  abbrev pub call_step : CallState → CallState
  call_step x = step_from us checked spot input x x.mark

  after-out : (x : CallState) (f : Frame) (rest : List Frame) (line : ℕ) (o : Outcome) → IsPrefix x.out (after us checked spot input x f rest line o).out
  after-out x f rest line (Goes next memory text) = record { more = text; is = refl }
  after-out x f rest line (Stops trap) = grows_not x.out
  after-out x f rest line Ends = grows_not x.out

  acted-out : (x : CallState) (f : Frame) (rest : List Frame) (exec : Exec) (a : Act) → IsPrefix x.out (acted us checked spot input x f rest exec a).out
  acted-out x f rest exec (Calls name arguments next) = grows_not x.out
  acted-out x f rest exec Returns = grows_not x.out
  acted-out x f rest exec Halts = grows_not x.out
  acted-out x f rest exec Does = after-out x f rest exec.line (outcome (placed us spot f.unit f.arguments (own_program (unit_at us f.unit) checked).names) input (memory_of us checked spot input x f) exec.kind)

  executed-out : (x : CallState) (f : Frame) (rest : List Frame) (exec : Option Exec) → IsPrefix x.out (executed us checked spot input x f rest exec).out
  executed-out x f rest None = grows_not x.out
  executed-out x f rest (Some exec) = acted-out x f rest exec (act us f.unit exec)

  on_top-out : (x : CallState) (frames : List Frame) → IsPrefix x.out (on_top us checked spot input x frames).out
  on_top-out x [] = grows_not x.out
  on_top-out x (f ∷ rest) = executed-out x f rest (slice_get (own_program (unit_at us f.unit) checked).execs f.position)

  step_from-out : (x : CallState) (mark : Mark) → IsPrefix x.out (step_from us checked spot input x mark).out
  step_from-out x Running = on_top-out x x.frames
  step_from-out x Ended = grows_not x.out
  step_from-out x (Trapped trap line) = grows_not x.out

  call-stays : (x : CallState) (mark : Mark) → x.mark ≡ mark → mark ≢ Running → call_step x ≡ x
  call-stays x Running is stopped = absurd (stopped refl)
  call-stays x Ended is stopped = ap (step_from us checked spot input x) is
  call-stays x (Trapped trap line) is stopped = ap (step_from us checked spot input x) is

  module _ (opening : List ℤ) where
    abbrev run : ℕ → CallState
    run = called us checked spot input opening

    called-run : IsRun (λ n. (run n).mark) (λ n. (run n).out)
    called-run = record {
      grows = λ n. step_from-out (run n) (run n).mark;
      mark_stays = λ n stopped. ap (λ (x : CallState). x.mark) (call-stays (run n) (run n).mark refl stopped);
      out_stays = λ n stopped. ap (λ (x : CallState). x.out) (call-stays (run n) (run n).mark refl stopped);
    }

    -- ---- both

    module _ (p : Program) (rank : CallState → ℕ) (Paired : ℕ → ℕ → Type 0) (R : CallState → State → Type 0) where
      -- paired words are the same
      abbrev pub HoldAlike : CallState → State → Type 0
      HoldAlike x y = (v w : ℕ) → Paired v w → word_at x.store v ≡ word_at y.memory.store w

      -- both have stopped, in one way, with the same whole output and the same words
      pub record StopAlike (x : CallState) (y : State) : Type 0 where
        pub stopped : x.mark ≢ Running
        pub marks : x.mark ≡ y.mark
        pub outs : x.out ≡ y.out
        pub store : HoldAlike x y

      -- a step of the units is matched by some of the program
      pub record IsFollowed (x : CallState) (y : State) : Type 0 where
        pub count : ℕ
        pub few : count ≤ 4
        pub come : R (call_step x) (steps_on p input count y) ⊎ StopAlike (call_step x) (steps_on p input count y)
        pub later : count ≡ 0 → rank (call_step x) < rank x

      -- Of what the relation says of two states, what follows of their runs.
      pub record Matches : Type 0 where
        pub begin : R (run 0) (source p input 0)
        pub runs : (x : CallState) (y : State) → R x y → x.mark ≡ Running
        pub other_runs : (x : CallState) (y : State) → R x y → y.mark ≡ Running
        pub same : (x : CallState) (y : State) → R x y → x.out ≡ y.out
        pub store : (x : CallState) (y : State) → R x y → HoldAlike x y
        pub follows : (x : CallState) (y : State) → R x y → IsFollowed x y

      abbrev InStep : ℕ → ℕ → Type 0
      InStep n m = R (run n) (source p input m)

      abbrev Kept : ℕ → ℕ → Type 0
      Kept n m = HoldAlike (run n) (source p input m)

      abbrev Stopped : ℕ → ℕ → Type 0
      Stopped n m = HaveStopped (λ i. (run i).mark) (λ i. (source p input i).mark) (λ i. (run i).out) (λ i. (source p input i).out) Kept n m

      -- after few steps the program is where the units have come to
      abbrev pub HasPace : ℕ → Type 0
      HasPace n = Paces (λ i. (run i).mark) (λ i. (source p input i).mark) (λ i. (run i).out) (λ i. (source p input i).out) Kept n

      module _ (matches : Matches) where
        come-on : (n m count : ℕ) → R (call_step (run n)) (steps_on p input count (source p input m)) ⊎ StopAlike (call_step (run n)) (steps_on p input count (source p input m)) → InStep (suc n) (count + m) ⊎ Stopped (suc n) (count + m)
        come-on n m count (inl next) = inl (subst (λ (y : State). R (run (suc n)) y) (sym (source-on p input count m)) next)
        come-on n m count (inr s) =
            let e = source-on p input count m in
            inr (record { stopped = s.stopped; marks = s.marks ∙ sym (ap (λ (y : State). y.mark) e); outs = s.outs ∙ sym (ap (λ (y : State). y.out) e); kept = subst (λ (y : State). HoldAlike (run (suc n)) y) (sym e) s.store })

        abbrev marks : ℕ → Mark
        marks n = (run n).mark

        abbrev other_marks : ℕ → Mark
        other_marks m = (source p input m).mark

        abbrev outs : ℕ → List ℕ
        outs n = (run n).out

        abbrev other_outs : ℕ → List ℕ
        other_outs m = (source p input m).out

        abbrev ranks : ℕ → ℕ
        ranks n = rank (run n)

        keeps-up : KeepsUp marks other_marks outs other_outs Kept ranks InStep
        keeps-up = record {
          first_run = called-run;
          second_run = source-run p input;
          begin = matches.begin;
          runs = λ n m r. matches.runs (run n) (source p input m) r;
          other_runs = λ n m r. matches.other_runs (run n) (source p input m) r;
          same = λ n m r. matches.same (run n) (source p input m) r;
          kept = λ n m r. matches.store (run n) (source p input m) r;
          kept_on = λ n m stopped kept. subst (λ (x : CallState). HoldAlike x (source p input m)) (sym (call-stays (run n) (run n).mark refl stopped)) kept;
          follows = λ n m r. let f = matches.follows (run n) (source p input m) r in record { count = f.count; few = f.few; come = come-on n m f.count f.come; later = f.later };
        }

        ends-stop : Ended ≢ Running
        ends-stop h = let e : Ended ≡ Running = h in cc

        traps-stop : (trap : Trap) (line : ℕ) → Trapped trap line ≢ Running
        traps-stop trap line h = let e : Trapped trap line ≡ Running = h in cc

        pub runs-alike : RunsAlike run (source p input)
        runs-alike = record {
          front = front marks other_marks outs other_outs Kept ranks InStep keeps-up;
          back = back marks other_marks outs other_outs Kept ranks InStep keeps-up;
          ends = λ text. (stops marks other_marks outs other_outs Kept ranks InStep keeps-up Ended text, stops-back marks other_marks outs other_outs Kept ranks InStep keeps-up Ended text ends-stop);
          traps = λ trap line text. (stops marks other_marks outs other_outs Kept ranks InStep keeps-up (Trapped trap line) text, stops-back marks other_marks outs other_outs Kept ranks InStep keeps-up (Trapped trap line) text (traps-stop trap line));
        }

        pub run-paces : (n : ℕ) → HasPace n
        run-paces = paces marks other_marks outs other_outs Kept ranks InStep keeps-up
