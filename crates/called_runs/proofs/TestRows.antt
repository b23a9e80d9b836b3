-- The test before a CALL: the program comes to the copy, or passes it over.
use Rattle.std.proofs.Common.{◌≡◌, ℕ, ◌+◌, ◌⊎◌, inl, inr, ℤ, Bool, true, List, Some, None, slice_get, refl, sym, ap, subst, ◌∙◌, arith}
use Rattle.f77_tree.specs.declared.programs.Exec.{Exec}
use Rattle.f77_tree.specs.declared.programs.ExecKind.TheVariants.{Test, DoNext}
use Rattle.f77_tree.specs.declared.programs.NameInfo.{NameInfo}
use Rattle.f77_tree.specs.declared.programs.Program.{Program}
use Rattle.f77_tree.specs.declared.statements.Labelled.{Labelled}
use Rattle.f77_tree.specs.declared.statements.RawExpr.{RawExpr}
use Rattle.f77_tree.specs.declared.statements.Stmt.{Stmt, more_of-Stmt}
use Rattle.f77_tree.specs.declared.statements.Stmt.TheVariants.{Continue, ThenIf'}
use Rattle.f77_tree.specs.Execution.{Outcome, outcome}
use Rattle.f77_tree.specs.Run.{State, step, after as program_after}
use Rattle.f77_tree.proofs.RunLaws.{step-running}
use Rattle.layout_rules.specs.Executables.{beyond, first_of, met, own_kinds, when_false}
use Rattle.layout_rules.specs.Labels.{is_executable}
use Rattle.layout_rules.specs.Resolved.{resolved}
use Rattle.program_units.specs.declared.entity.Entity.{Entity}
use Rattle.program_units.specs.Calls.{CallState, Does, after}
use Rattle.program_units.specs.Contexts.{IsReached, called}
use Rattle.program_units.specs.Copies.{Context, bare, changed, changes, number_at}
use Rattle.program_units.specs.Expansion.{whole_list}
use Rattle.program_units.specs.Layouts.{own_program}
use Rattle.program_units.specs.Units.{Call, call_in, guard_of, stand_in, standing_in, unit_at, unit_of}
use Rattle.program_units.specs.Widths.{body_labels}
use Rattle.copied_values.specs.SideBySide.{GoAlike}
use Rattle.called_runs.specs.CopiedKinds.{test_alike}
use Rattle.called_runs.specs.CopiedPositions.{AreCopiedLoops, Stands, at_guarded, last_place, standing}
use Rattle.called_runs.specs.FramesInStep.{AreInStep, AreLive, frame_in, innermost, inside, inside_at}
use Rattle.called_runs.proofs.AlikeRuns.{StopAlike, call_step}
use Rattle.called_runs.proofs.CopiedOutcomes.{Held, IsTiedTest, copied-goes}
use Rattle.called_runs.proofs.FramesBeside.{Beside, move, moved, stand}
use Rattle.called_runs.proofs.Grounds.{IsCopied}
use Rattle.called_runs.proofs.ReturnRows.{unit-found}
use Rattle.called_runs.proofs.RunGrounds.{AreRunGrounds, IsGrounded, table_of}
use Rattle.called_runs.proofs.RunSteps.{Followed, by-end-if, by-label, followed, frame-executes, test-found}
use Rattle.called_runs.proofs.StandingCalls.{enters-true, label-at, label-tests, test-at}
use Rattle.called_runs.proofs.StandingLists.{standing-first}
use Rattle.called_runs.proofs.StandingNexts.{standing-beyond}
use Rattle.called_runs.proofs.StandingReturns.{e, end-if-at, end-if-leads, false-goes, has-label}
use Rattle.called_runs.proofs.SteppedFrames.{come, memory, side}
use Rattle.called_runs.proofs.TiedParts.{guard-condition, test-tied}

pub guard-kinds : (names : List NameInfo) (checked : Bool) (whole : List Labelled) (place index next : ℕ) (t : Stmt) (condition : RawExpr) → guard_of t ≡ Some condition → slice_get (own_kinds names checked whole place index next (stand_in t)) 0 ≡ Some (Test (resolved names checked condition) (index + 1) next)
unfolding Rattle.f77_tree.specs.declared.statements.Stmt.TheBlock.hidden-the_row-Stmt-0 denote.Hole.Carrier.hidden
guard-kinds names checked whole place index next (ThenIf' first shape (more_of-Stmt stmt rest)) condition is = let h : Some first ≡ Some condition = is in let same : first ≡ condition = cc in ap (λ (x : RawExpr). Some (Test (resolved names checked x) (index + 1) next)) same
guard-kinds names checked whole place index next _ condition is = let h : None ≡ Some condition = is in absurd cc

pub guard-does : (t : Stmt) (condition : RawExpr) → guard_of t ≡ Some condition → is_executable t ≡ true
guard-does (ThenIf' first shape row) condition is = refl
guard-does _ condition is = let h : None ≡ Some condition = is in absurd cc

module _ (us : List (List Labelled)) (checked : Bool) (spot : Entity → ℕ) (input opening : List ℤ) (p : Program) (words : ℕ) (Paired : ℕ → ℕ → Type 0) (g : AreRunGrounds us checked spot p words Paired) where
  abbrev list : List Labelled
  list = whole_list us

  abbrev InStep : CallState → State → Type 0
  InStep = AreInStep us checked p input words Paired

  abbrev Stopped : CallState → State → Type 0
  Stopped = StopAlike us checked spot input opening p innermost Paired InStep

  module _ (c : Context) (at : ℕ → ℕ) (reached : IsReached us c at) (place : ℕ) (s : Labelled) (call : Call) (condition : RawExpr) (is : slice_get (unit_at us c.unit) place ≡ Some s) (calls : call_in s.stmt ≡ Some call) (guarded : guard_of s.stmt ≡ Some condition) where
    abbrev unit : List Labelled
    unit = unit_at us c.unit

    abbrev own : Program
    own = own_program unit checked

    abbrev table : List NameInfo
    table = table_of us checked spot c

    grounds : IsGrounded us checked spot p words Paired c at
    grounds = g.contexts c at reached

    held : IsCopied us list c at
    held = g.laid.copied c at reached

    abbrev Loops : ℕ → ℕ → Type 0
    Loops = AreCopiedLoops us list c at

    -- where the test leads in both: to the CALL and into the copy, or behind the CALL and to the END IF
    abbrev Leads : ℕ → ℕ → Type 0
    Leads n m = ((n ≡ first_of unit place + 1) × (m ≡ met list (at place + 1 + 1))) ⊎ ((n ≡ beyond unit place s) × (m ≡ when_false list (at place + 1)))

    abbrev r : Exec
    r = record { line = s.line; kind = Test (resolved table checked condition) (first_of unit place + 1) (beyond unit place s) }

    abbrev r' : Exec
    r' = record { line = s.line; kind = Test (resolved p.names checked (changed (changes us c) condition)) (met list (at place + 1 + 1)) (when_false list (at place + 1)) }

    test-is : slice_get own.execs (first_of unit place) ≡ Some r
    test-is =
        ap (slice_get own.execs) (let z : first_of unit place ≡ first_of unit place + 0 = omega arith in z)
        ∙ unit-found us checked spot input opening p words Paired g c at reached place 0 s (Test (resolved table checked condition) (first_of (standing_in unit) place + 1) (beyond (standing_in unit) place (standing s))) is
        (guard-kinds table checked (standing_in unit) place (first_of (standing_in unit) place) (beyond (standing_in unit) place (standing s)) s.stmt condition guarded)
        ∙ ap (λ (n : ℕ). let z : Exec = record { line = s.line; kind = Test (resolved table checked condition) (n + 1) (beyond (standing_in unit) place (standing s)) } in Some z) (standing-first unit place)
        ∙ ap (λ (n : ℕ). let z : Exec = record { line = s.line; kind = Test (resolved table checked condition) (first_of unit place + 1) n } in Some z) (standing-beyond us list g.laid c at held place s)

    tests : IsTiedTest Paired table p.names (changes us c) condition
    tests = test-tied Paired table p.names (changes us c) s.stmt condition (guard-condition s.stmt condition guarded) (grounds.tied place s is (guard-does s.stmt condition guarded))

    module _ (N : ℕ → ℕ → Type 0) (x : CallState) (y : State) (b : Beside us checked p input words Paired c at N x y) (here : b.position ≡ first_of unit place) (there : y.position ≡ first_of list (at place)) where
      -- at the IF THEN
      abbrev y1 : State
      y1 = moved y (first_of list (at place + 1))

      first-step : step p input y ≡ y1
      first-step =
          by-label us checked spot input opening p words Paired g.execs y (at place) (number_at us c.depth c.unit c.base place) s.line b.other_going (label-at us list g.laid c at held place s call is calls) there
          ∙ ap (λ (n : ℕ). moved y n) (label-tests us list g.laid c at held place s call is calls (g.laid.copied _ _ (called place s call reached is calls)) condition guarded)

      abbrev Any : ℕ → ℕ → Type 0
      Any n m = n ≡ first_of unit place

      abbrev b1 : Beside us checked p input words Paired c at Any x y1
      b1 = move us checked p input words Paired c at N Any x y (first_of list (at place + 1)) b here

      test-there : slice_get p.execs (first_of list (at place + 1)) ≡ Some r'
      test-there = test-found us checked spot input opening p words Paired g.execs (at place + 1) s.line (changed (changes us c) condition) (test-at us list g.laid c at held place s call is calls (g.laid.copied _ _ (called place s call reached is calls)) condition guarded)

      abbrev o : Outcome
      o = outcome table input (memory us checked spot input opening p words Paired g x b.counts b.steps) r.kind

      abbrev o' : Outcome
      o' = outcome p.names input y.memory r'.kind

      abbrev x' : CallState
      x' = after us checked spot input x (frame_in c b.position b.counts b.steps) b.rest s.line o

      abbrev y2 : State
      y2 = program_after y1 s.line o'

      units-step : call_step us checked spot input x ≡ x'
      units-step = frame-executes us checked spot input opening p words Paired c at N x y b (first_of unit place) here r Does test-is refl

      second-step : step p input (step p input y) ≡ y2
      second-step = ap (step p input) first-step ∙ step-running p input y1 r' b.other_going test-there

      goes : GoAlike Paired (Held r.kind (AreLive us checked c at b.position) Loops) Leads o o'
      goes = copied-goes Paired (AreLive us checked c at b.position) Loops Leads table p.names (changes us c) checked input (memory us checked spot input opening p words Paired g x b.counts b.steps) y.memory
          (side us checked spot input opening p words Paired g c at Any Leads x y1 b1) r.kind r'.kind
          (test_alike condition (first_of unit place + 1) (beyond unit place s) (met list (at place + 1 + 1)) (when_false list (at place + 1)) tests (inl (refl, refl)) (inr (refl, refl)))
          (λ i j variable body exit same. absurd (let h : r.kind ≡ DoNext i variable body exit = same in cc))

      comes : Beside us checked p input words Paired c at Leads x' y2 ⊎ Stopped x' y2
      comes = come us checked spot input opening p words Paired g c at Any Leads x y1 b1 r r' (ap (slice_get own.execs) here ∙ test-is) refl (λ j sets. by j sets) goes
        where
          by : (j : ℕ) → (⊥ ⊎ ⊥) → (k : ℕ) × Loops k j
          by j (inl none) = absurd none
          by j (inr none) = absurd none

      -- the condition is false: END IF, and the label behind the copy
      passed-over : (b2 : Beside us checked p input words Paired c at Leads x' y2) → b2.position ≡ beyond unit place s → y2.position ≡ when_false list (at place + 1) → InStep x' (step p input (step p input y2))
      passed-over b2 at_next at_end =
          let end = e us list g.laid c at held place s call is calls condition guarded in
          let last = last_place us c at place s in
          let label = number_at us c.depth c.unit c.base place + body_labels us c.depth (unit_of us call.name) + 1 in
          let has = has-label us list g.laid c at held place s call is calls in
          let n = beyond list last (bare label s.line Continue) in
          let third : step p input y2 ≡ moved y2 (first_of list last) =
          by-end-if us checked spot input opening p words Paired g.execs y2 end s.line b2.other_going (end-if-at us list g.laid c at held place s call is calls condition guarded) (at_end ∙ false-goes us list g.laid c at held place s call is calls condition guarded)
          ∙ ap (λ (k : ℕ). moved y2 k) (end-if-leads us list g.laid c at held place s call is calls condition guarded) in
          let fourth : step p input (step p input y2) ≡ moved y2 n = ap (step p input) third ∙ by-label us checked spot input opening p words Paired g.execs (moved y2 (first_of list last)) last label s.line b2.other_going has.stands refl in
          let stands : Stands us list c at b2.position n = subst (λ (k : ℕ). Stands us list c at k n) (sym at_next) has.goes in
          subst (λ (z : State). InStep x' z) (sym fourth) (stand us checked p input words Paired c at x' (moved y2 n) (move us checked p input words Paired c at Leads (Stands us list c at) x' y2 n b2 stands))

      -- it is true
      come-in : (b2 : Beside us checked p input words Paired c at Leads x' y2) → b2.position ≡ first_of unit place + 1 → y2.position ≡ met list (at place + 1 + 1) → InStep x' y2
      come-in b2 at_call at_copy =
          let within = enters-true us list g.laid c at held place s call is calls (g.laid.copied _ _ (called place s call reached is calls)) condition guarded in
          let stands : Stands us list c at b2.position y2.position = at_guarded place s call condition is calls guarded at_call (subst (λ (k : ℕ). Stands us list (inside us c place call) (inside_at us c at place s call) 0 k) (sym at_copy) within) in
          stand us checked p input words Paired c at x' y2 (move us checked p input words Paired c at Leads (Stands us list c at) x' y2 y2.position b2 stands)

      pub at-test : Followed us checked spot input opening p words Paired x y
      at-test = by comes
        where
          two : InStep x' y2 ⊎ Stopped x' y2 → Followed us checked spot input opening p words Paired x y
          two come_to = followed us checked spot input opening p words Paired x y x' y2 2 (omega arith) units-step second-step come_to (λ none. absurd cc)

          by-leads : (b2 : Beside us checked p input words Paired c at Leads x' y2) → Leads b2.position y2.position → Followed us checked spot input opening p words Paired x y
          by-leads b2 (inl true') = two (inl (come-in b2 true'.0 true'.1))
          by-leads b2 (inr false') = followed us checked spot input opening p words Paired x y x' (step p input (step p input y2)) 4 (omega arith) units-step (ap (λ (z : State). step p input (step p input z)) second-step) (inl (passed-over b2 false'.0 false'.1)) (λ none. absurd cc)

          by : Beside us checked p input words Paired c at Leads x' y2 ⊎ Stopped x' y2 → Followed us checked spot input opening p words Paired x y
          by (inl b2) = by-leads b2 b2.follows
          by (inr stopped) = two (inr stopped)
