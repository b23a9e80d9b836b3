-- Each step of units is matched by some of the program, whatever the executable is.
use Rattle.std.proofs.Common.{◌≡◌, ℕ, ◌+◌, ◌<◌, ℤ, Bool, true, false, List, Option, Some, None, slice_get, refl, sym, subst, ◌∙◌}
use Rattle.f77_tree.specs.declared.programs.Program.{Program}
use Rattle.f77_tree.specs.declared.statements.Labelled.{Labelled}
use Rattle.f77_tree.specs.declared.statements.RawExpr.{RawExpr}
use Rattle.f77_tree.specs.Run.{State}
use Rattle.layout_rules.specs.Executables.{first_of, own_executables}
use Rattle.program_units.specs.declared.entity.Entity.{Entity}
use Rattle.program_units.specs.Calls.{CallState}
use Rattle.program_units.specs.Contexts.{IsReached}
use Rattle.program_units.specs.Copies.{Context}
use Rattle.program_units.specs.Expansion.{whole_list}
use Rattle.program_units.specs.Units.{Call, call_in, guard_of, inner, unit_at}
use Rattle.program_units.specs.Widths.{is_kept}
use Rattle.called_runs.specs.CopiedPositions.{Stands, at_call, at_copy, at_end, at_guarded, at_increment, at_jump, leaves}
use Rattle.called_runs.specs.FramesInStep.{AreInStep, inside, inside_at}
use Rattle.called_runs.proofs.CallRows.{at-call, at-guarded}
use Rattle.called_runs.proofs.FramesBeside.{Beside}
use Rattle.called_runs.proofs.IncrementRows.{at-increment}
use Rattle.called_runs.proofs.LeaveRows.{at-leave}
use Rattle.called_runs.proofs.OwnRows.{at-own}
use Rattle.called_runs.proofs.ReturnRows.{at-end, at-label}
use Rattle.called_runs.proofs.RunGrounds.{AreRunGrounds}
use Rattle.called_runs.proofs.RunSteps.{Followed}
use Rattle.called_runs.proofs.TestRows.{at-test}
use Rattle.called_runs.proofs.WaitingFrames.{wait-reached}

module _ (us : List (List Labelled)) (checked : Bool) (spot : Entity → ℕ) (input opening : List ℤ) (p : Program) (words : ℕ) (Paired : ℕ → ℕ → Type 0) (g : AreRunGrounds us checked spot p words Paired) where
  abbrev list : List Labelled
  list = whole_list us

  abbrev Follows : CallState → State → Type 0
  Follows = Followed us checked spot input opening p words Paired

  module _ (c : Context) (at : ℕ → ℕ) (reached : IsReached us c at) (x : CallState) (y : State) (b : Beside us checked p input words Paired c at (Stands us (whole_list us) c at) x y) where
    own-row : (place j : ℕ) (s : Labelled) → slice_get (unit_at us c.unit) place ≡ Some s → is_kept c.unit s.stmt ≡ true → call_in s.stmt ≡ None → j < own_executables s.stmt → b.position ≡ first_of (unit_at us c.unit) place + j → y.position ≡ first_of list (at place) + j → Follows x y
    own-row place j s is kept none within here there = by (leaves (inner s.stmt)) refl
      where
        by : (goes : Bool) → leaves (inner s.stmt) ≡ goes → Follows x y
        by true goes = at-leave us checked spot input opening p words Paired g c at reached place s is (record { kept = kept; none = none }) goes x y b j within here there
        by false stays = at-own us checked spot input opening p words Paired g c at reached place s is (record { kept = kept; none = none }) x y b stays j within here there

    call-row : (place : ℕ) (s : Labelled) (call : Call) → slice_get (unit_at us c.unit) place ≡ Some s → call_in s.stmt ≡ Some call → b.position ≡ first_of (unit_at us c.unit) place → y.position ≡ first_of list (at place) → Follows x y
    call-row place s call is calls here there = by (guard_of s.stmt) refl
      where
        by : (guard : Option RawExpr) → guard_of s.stmt ≡ guard → Follows x y
        by None none = at-call us checked spot input opening p words Paired g c at reached (Stands us list c at) x y b place s call is calls none here there
        by (Some condition) guarded = at-test us checked spot input opening p words Paired g c at reached place s call condition is calls guarded (Stands us list c at) x y b here there

  row : (c : Context) (at : ℕ → ℕ) (position r : ℕ) → Stands us list c at position r → IsReached us c at → (x : CallState) (y : State) (b : Beside us checked p input words Paired c at (Stands us (whole_list us) c at) x y) → b.position ≡ position → y.position ≡ r → Follows x y
  row c at position r (at_copy place j s is kept none within here there) reached x y b at_it at_there = own-row c at reached x y b place j s is kept none within (at_it ∙ here) (at_there ∙ there)
  row c at position r (at_call place s call is calls here there) reached x y b at_it at_there = call-row c at reached x y b place s call is calls (at_it ∙ here) (at_there ∙ there)
  row c at position r (at_guarded place s call condition is calls guarded here within) reached x y b at_it at_there =
      at-guarded us checked spot input opening p words Paired g c at reached (Stands us list c at) x y b place s call is calls condition guarded (at_it ∙ here) (subst (λ (n : ℕ). Stands us list (inside us c place call) (inside_at us c at place s call) 0 n) (sym at_there) within)
  row c at position r (at_increment place i s is kept within here there) reached x y b at_it at_there = at-increment us checked spot input opening p words Paired g c at reached place s is kept x y b i (at_it ∙ here) (at_there ∙ there) within
  row c at position r (at_end place s is left ends here there) reached x y b at_it at_there = at-end us checked spot input opening p words Paired g c at reached (Stands us list c at) x y b place s is left ends (at_it ∙ here) (at_there ∙ there)
  row c at position r (at_jump place s is left ends here there) reached x y b at_it at_there = at-label us checked spot input opening p words Paired g c at reached (Stands us list c at) x y b place s is left ends (at_it ∙ here) (at_there ∙ there)

  pub follows : (x : CallState) (y : State) → AreInStep us checked p input words Paired x y → Follows x y
  follows x y s =
      let b : Beside us checked p input words Paired s.context s.at (Stands us (whole_list us) s.context s.at) x y = record {
        going = s.going;
        other_going = s.other_going;
        position = s.position;
        counts = s.counts;
        steps = s.steps;
        rest = s.rest;
        frames = s.frames;
        follows = s.stands;
        counted = s.counted;
        waits = s.waits;
        room = s.room;
        other_room = s.other_room;
        store = s.store;
        taken = s.taken;
        out = s.out;
      } in
      row s.context s.at s.position y.position s.stands (wait-reached us checked y.memory s.context s.at s.rest s.waits) x y b refl refl
