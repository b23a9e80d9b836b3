-- Steps of units and of the program, as what they come to.
use Rattle.std.proofs.Common.{◌≡◌, ℕ, ◌+◌, ◌<◌, ◌≤◌, ◌==◌, ◌⊎◌, ℤ, Bool, List, ◌∷◌, Some, find, slice_get, refl, sym, ap, subst, ◌∙◌, arith}
use Rattle.f77_tree.specs.declared.programs.Exec.{Exec}
use Rattle.f77_tree.specs.declared.programs.ExecKind.TheVariants.{Pass, Test}
use Rattle.f77_tree.specs.declared.programs.Program.{Program}
use Rattle.f77_tree.specs.declared.statements.Labelled.{Labelled}
use Rattle.f77_tree.specs.declared.statements.RawExpr.{RawExpr}
use Rattle.f77_tree.specs.declared.statements.Stmt.TheVariants.{BlockIf, Continue, EndIf}
use Rattle.f77_tree.specs.Run.{Running, State, step}
use Rattle.layout_rules.specs.Executables.{beyond, first_of, met, when_false}
use Rattle.layout_rules.specs.Resolved.{resolved}
use Rattle.program_units.specs.declared.entity.Entity.{Entity}
use Rattle.program_units.specs.Calls.{Act, CallState, Frame, act, act_of_pass, acted, executed, on_top, pass_on, step_from}
use Rattle.program_units.specs.Copies.{Context, bare}
use Rattle.program_units.specs.Expansion.{whole_list}
use Rattle.program_units.specs.Layouts.{own_program}
use Rattle.program_units.specs.Units.{inner, unit_at}
use Rattle.called_runs.specs.FramesInStep.{AreInStep, frame_in, innermost}
use Rattle.called_runs.proofs.AlikeRuns.{IsFollowed, StopAlike, call_step, steps_on}
use Rattle.called_runs.proofs.FramesBeside.{Beside, moved, passes}
use Rattle.called_runs.proofs.RunGrounds.{StandInOrder}

module _ (us : List (List Labelled)) (checked : Bool) (spot : Entity → ℕ) (input opening : List ℤ) (p : Program) (words : ℕ) (Paired : ℕ → ℕ → Type 0) where
  abbrev list : List Labelled
  list = whole_list us

  abbrev InStep : CallState → State → Type 0
  InStep = AreInStep us checked p input words Paired

  abbrev Stopped : CallState → State → Type 0
  Stopped = StopAlike us checked spot input opening p innermost Paired InStep

  abbrev pub Followed : CallState → State → Type 0
  Followed = IsFollowed us checked spot input opening p innermost Paired InStep

  pub followed : (x : CallState) (y : State) (x' : CallState) (y' : State) (count : ℕ) → count ≤ 4 → call_step us checked spot input x ≡ x' → steps_on p input count y ≡ y' → InStep x' y' ⊎ Stopped x' y' → (count ≡ 0 → innermost x' < innermost x) → Followed x y
  followed x y x' y' count few first second come later = record {
    count = count;
    few = few;
    come = subst (λ (z : CallState). InStep z (steps_on p input count y) ⊎ Stopped z (steps_on p input count y)) (sym first) (subst (λ (z : State). InStep x' z ⊎ Stopped x' z) (sym second) come);
    later = λ none. subst (λ (z : CallState). innermost z < innermost x) (sym first) (later none);
  }

  -- ---- the units

  pub executes : (x : CallState) (f : Frame) (rest : List Frame) (e : Exec) (a : Act) → x.mark ≡ Running → x.frames ≡ f ∷ rest → slice_get (own_program (unit_at us f.unit) checked).execs f.position ≡ Some e → act us f.unit e ≡ a → call_step us checked spot input x ≡ acted us checked spot input x f rest e a
  executes x f rest e a going frames found is =
      ap (step_from us checked spot input x) going
      ∙ ap (on_top us checked spot input x) frames
      ∙ ap (executed us checked spot input x f rest) found
      ∙ ap (acted us checked spot input x f rest e) is

  -- what a frame of a context comes to
  pub frame-executes : (c : Context) (at : ℕ → ℕ) (N : ℕ → ℕ → Type 0) (x : CallState) (y : State) (b : Beside us checked p input words Paired c at N x y) (position : ℕ) → b.position ≡ position → (e : Exec) (a : Act) → slice_get (own_program (unit_at us c.unit) checked).execs position ≡ Some e → act us c.unit e ≡ a
      → call_step us checked spot input x ≡ acted us checked spot input x (frame_in c b.position b.counts b.steps) b.rest e a
  frame-executes c at N x y b position here e a found is = executes x (frame_in c b.position b.counts b.steps) b.rest e a b.going b.frames (ap (slice_get (own_program (unit_at us c.unit) checked).execs) here ∙ found) is

  -- what is done where control only goes on is told by the statement
  pub pass-acts : (k line next : ℕ) (s : Labelled) → find (λ t. t.line == line) (unit_at us k) ≡ Some s → act us k (record { line = line; kind = Pass next }) ≡ act_of_pass next (inner s.stmt)
  pass-acts k line next s found = ap (pass_on next) found

  -- ---- the program

  module _ (execs : StandInOrder list p.names checked p.execs) where
    -- it comes by a label, by an END IF and by a GO TO
    passes-by : (y : State) (place : ℕ) (s : Labelled) (next : ℕ) → y.mark ≡ Running → slice_get list place ≡ Some s → y.position ≡ first_of list place → slice_get p.execs (first_of list place + 0) ≡ Some (record { line = s.line; kind = Pass next }) → step p input y ≡ moved y next
    passes-by y place s next going is here found = passes p input y s.line next going (ap (slice_get p.execs) (let e = here in let z : y.position ≡ first_of list place + 0 = omega (arith, e) in z) ∙ found)

    pub by-label : (y : State) (place label line : ℕ) → y.mark ≡ Running → slice_get list place ≡ Some (bare label line Continue) → y.position ≡ first_of list place → step p input y ≡ moved y (beyond list place (bare label line Continue))
    by-label y place label line going is here = let s = bare label line Continue in passes-by y place s (beyond list place s) going is here (execs.own place 0 s (Pass (beyond list place s)) is refl)

    pub by-end-if : (y : State) (place line : ℕ) → y.mark ≡ Running → slice_get list place ≡ Some (bare 0 line EndIf) → y.position ≡ first_of list place → step p input y ≡ moved y (beyond list place (bare 0 line EndIf))
    by-end-if y place line going is here = let s = bare 0 line EndIf in passes-by y place s (beyond list place s) going is here (execs.own place 0 s (Pass (beyond list place s)) is refl)

    -- an IF THEN that was put in
    pub test-found : (place line : ℕ) (condition : RawExpr) → slice_get list place ≡ Some (bare 0 line (BlockIf condition)) → slice_get p.execs (first_of list place) ≡ Some (record { line = line; kind = Test (resolved p.names checked condition) (met list (place + 1)) (when_false list place) })
    test-found place line condition is =
        ap (slice_get p.execs) (let e : first_of list place ≡ first_of list place + 0 = omega arith in e)
        ∙ execs.own place 0 (bare 0 line (BlockIf condition)) (Test (resolved p.names checked condition) (met list (place + 1)) (when_false list place)) is refl
