-- END and RETURN of a subroutine: control goes to the label behind the copy, and on as behind the CALL.
use Rattle.std.proofs.Common.{◌≡◌, ℕ, zero, suc, ◌+◌, ◌==◌, inl, ℤ, Bool, true, false, List, [], ◌∷◌, Some, slice_get, if◌then◌else◌, refl, sym, ap, subst, ◌∙◌, arith}
use Rattle.std.proofs.lemmas.Bool.{eqb-true}
use Rattle.f77_tree.specs.declared.programs.Exec.{Exec}
use Rattle.f77_tree.specs.declared.programs.ExecKind.{ExecKind}
use Rattle.f77_tree.specs.declared.programs.ExecKind.TheVariants.{End as Ended}
use Rattle.f77_tree.specs.declared.programs.NameInfo.{NameInfo}
use Rattle.f77_tree.specs.declared.programs.Program.{Program}
use Rattle.f77_tree.specs.declared.statements.Labelled.{Labelled}
use Rattle.f77_tree.specs.declared.statements.Stmt.{Stmt}
use Rattle.f77_tree.specs.declared.statements.Stmt.TheVariants.{Continue, End}
use Rattle.f77_tree.specs.Run.{Running, State, step}
use Rattle.layout_rules.specs.Executables.{beyond, first_of, labelled, own_kinds}
use Rattle.program_units.specs.declared.entity.Entity.{Entity}
use Rattle.program_units.specs.Calls.{CallState, Frame, Halts, Returns, act}
use Rattle.program_units.specs.Contexts.{IsReached}
use Rattle.program_units.specs.Copies.{Context, bare, changes, number_at}
use Rattle.program_units.specs.Expansion.{whole_list}
use Rattle.program_units.specs.Layouts.{own_program}
use Rattle.program_units.specs.Units.{is_end, stand_in, standing_in, unit_at, unit_of}
use Rattle.program_units.specs.Widths.{body_labels, is_kept}
use Rattle.called_runs.specs.CopiedPositions.{Stands, last_place, standing}
use Rattle.called_runs.specs.FramesInStep.{AreInStep, Wait, behind, nobody}
use Rattle.called_runs.proofs.AlikeRuns.{call_step}
use Rattle.called_runs.proofs.FramesBeside.{Beside, enter, moved, stand}
use Rattle.called_runs.proofs.Grounds.{IsCopied}
use Rattle.called_runs.proofs.RunGrounds.{AreRunGrounds, table_of}
use Rattle.called_runs.proofs.RunSteps.{Followed, by-end-if, by-label, followed, frame-executes}
use Rattle.called_runs.proofs.StandingLists.{standing-at, standing-first}
use Rattle.called_runs.proofs.StandingReturns.{FallsOut, at_once, back-leads, by_end_if, falls-out, has-label}
use Rattle.called_runs.proofs.WaitingFrames.{wait-reached}

end-is : (t : Stmt) → is_end t ≡ true → t ≡ End
end-is End is = refl
end-is _ is = let e : false ≡ true = is in absurd cc

pub no-main : (k : ℕ) → is_kept k End ≡ false → (k == 0) ≡ false
no-main zero none = let e : true ≡ false = none in absurd cc
no-main (suc k) none = by (suc k == 0) refl
  where
    by : (b : Bool) → (suc k == 0) ≡ b → (suc k == 0) ≡ false
    by true is = let e : suc k ≡ 0 = eqb-true (suc k) 0 is in absurd cc
    by false is = is

module _ (us : List (List Labelled)) (checked : Bool) (spot : Entity → ℕ) (input opening : List ℤ) (p : Program) (words : ℕ) (Paired : ℕ → ℕ → Type 0) (g : AreRunGrounds us checked spot p words Paired) where
  abbrev list : List Labelled
  list = whole_list us

  abbrev InStep : CallState → State → Type 0
  InStep = AreInStep us checked p input words Paired

  -- what the units come to by a return: the frame is gone
  abbrev pub returned : CallState → List Frame → CallState
  returned x rest = record x { frames = rest }

  -- from the label behind the copy control goes on
  pub comes-back : (c : Context) (at : ℕ → ℕ) (rest : List Frame) (N : ℕ → ℕ → Type 0) (x : CallState) (y r : State) → Wait us checked y.memory c at rest → is_kept c.unit End ≡ false → Beside us checked p input words Paired c at N x y → r ≡ moved y (labelled list (changes us c).back) → InStep (returned x rest) (step p input r)
  comes-back _ _ [] N x y r nobody none b is = let e : true ≡ false = none in absurd cc
  comes-back _ _ (f ∷ rest) N x y r (behind {c} {at} place s call counts steps there calls counted outer) none b is =
      let held : IsCopied us list c at = g.laid.copied c at (wait-reached us checked y.memory c at rest outer) in
      let last = last_place us c at place s in
      let label = number_at us c.depth c.unit c.base place + body_labels us c.depth (unit_of us call.name) + 1 in
      let has = has-label us list g.laid c at held place s call there calls in
      let here : r.position ≡ first_of list last = ap (λ (z : State). z.position) is ∙ back-leads us list g.laid c at held place s call there calls in
      let going : r.mark ≡ Running = ap (λ (z : State). z.mark) is ∙ b.other_going in
      let gone : step p input r ≡ moved y (beyond list last (bare label s.line Continue)) = by-label us checked spot input opening p words Paired g.execs r last label s.line going has.stands here ∙ ap (λ (z : State). moved z (beyond list last (bare label s.line Continue))) is in
      subst (λ (z : State). InStep (returned x (f ∷ rest)) z) (sym gone)
      (stand us checked p input words Paired c at (returned x (f ∷ rest)) (moved y (beyond list last (bare label s.line Continue)))
      (enter us checked p input words Paired _ c _ at N (Stands us list c at) x y (beyond (unit_at us c.unit) place s) (beyond list last (bare label s.line Continue)) counts steps rest b has.goes counted outer))

  module _ (c : Context) (at : ℕ → ℕ) (reached : IsReached us c at) where
    abbrev unit : List Labelled
    unit = unit_at us c.unit

    abbrev table : List NameInfo
    table = table_of us checked spot c

    -- an executable of a statement of the unit
    pub unit-found : (place j : ℕ) (s : Labelled) (kind : ExecKind) → slice_get unit place ≡ Some s → slice_get (own_kinds table checked (standing_in unit) place (first_of (standing_in unit) place) (beyond (standing_in unit) place (standing s)) (stand_in s.stmt)) j ≡ Some kind → slice_get (own_program unit checked).execs (first_of unit place + j) ≡ Some (record { line = s.line; kind = kind })
    unit-found place j s kind is found =
        ap (λ (n : ℕ). slice_get (own_program unit checked).execs (n + j)) (sym (standing-first unit place))
        ∙ (g.contexts c at reached).execs.own place j (standing s) kind (standing-at unit place s is) found

    end-found : (place : ℕ) (s : Labelled) → slice_get unit place ≡ Some s → is_end s.stmt ≡ true → slice_get (own_program unit checked).execs (first_of unit place) ≡ Some (record { line = s.line; kind = Ended })
    end-found place s is ends =
        ap (slice_get (own_program unit checked).execs) (let e : first_of unit place ≡ first_of unit place + 0 = omega arith in e)
        ∙ unit-found place 0 s Ended is (ap (λ (t : Stmt). slice_get (own_kinds table checked (standing_in unit) place (first_of (standing_in unit) place) (beyond (standing_in unit) place (standing s)) (stand_in t)) 0) (end-is s.stmt ends))

    module _ (N : ℕ → ℕ → Type 0) (x : CallState) (y : State) (b : Beside us checked p input words Paired c at N x y) (place : ℕ) (s : Labelled) (is : slice_get unit place ≡ Some s) (left : is_kept c.unit s.stmt ≡ false) (ends : is_end s.stmt ≡ true) (here : b.position ≡ first_of unit place) where
      none : is_kept c.unit End ≡ false
      none = ap (is_kept c.unit) (sym (end-is s.stmt ends)) ∙ left

      end-acts : act us c.unit (record { line = s.line; kind = Ended }) ≡ Returns
      end-acts = ap (λ (t : Bool). if t then Halts else Returns) (no-main c.unit none)

      abbrev r : Exec
      r = record { line = s.line; kind = Ended }

      returns : call_step us checked spot input x ≡ returned x b.rest
      returns = frame-executes us checked spot input opening p words Paired c at N x y b (first_of unit place) here r Returns (end-found place s is ends) end-acts

      -- END, at the label behind the copy
      pub at-label : y.position ≡ labelled list (changes us c).back → Followed us checked spot input opening p words Paired x y
      at-label there =
          followed us checked spot input opening p words Paired x y (returned x b.rest) (step p input y) 1 (omega arith) returns refl (inl (comes-back c at b.rest N x y y b.waits none b (ap (λ (n : ℕ). moved y n) there))) (λ e. absurd cc)

      -- END, to which control fell
      pub at-end : y.position ≡ first_of list (at place) → Followed us checked spot input opening p words Paired x y
      at-end there = by (falls-out us list g.laid c at (g.laid.copied c at reached) place s is left ends)
        where
          by : FallsOut list (at place) (changes us c).back → Followed us checked spot input opening p words Paired x y
          by (at_once leads) = at-label (there ∙ leads)
          by (by_end_if line stands leads) =
              let first : step p input y ≡ moved y (labelled list (changes us c).back) = by-end-if us checked spot input opening p words Paired g.execs y (at place) line b.other_going stands there ∙ ap (λ (n : ℕ). moved y n) leads in
              followed us checked spot input opening p words Paired x y (returned x b.rest) (step p input (step p input y)) 2 (omega arith) returns refl (inl (comes-back c at b.rest N x y (step p input y) b.waits none b first)) (λ e. absurd cc)
