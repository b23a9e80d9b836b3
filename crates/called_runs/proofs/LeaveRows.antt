-- STOP and RETURN, alone or after a condition.
use Rattle.std.proofs.Common.{◌≡◌, ℕ, zero, suc, ◌+◌, ◌-◌, ◌<◌, inl, inr, ℤ, Bool, true, false, List, length, Option, Some, None, slice_get, refl, sym, ap, subst, ◌∙◌, arith}
use Rattle.f77_tree.specs.declared.programs.Exec.{Exec}
use Rattle.f77_tree.specs.declared.programs.ExecKind.TheVariants.{Pass, Test, End as Ended}
use Rattle.f77_tree.specs.declared.programs.NameInfo.{NameInfo}
use Rattle.f77_tree.specs.declared.programs.Program.{Program}
use Rattle.f77_tree.specs.declared.statements.Labelled.{Labelled}
use Rattle.f77_tree.specs.declared.statements.RawExpr.{RawExpr}
use Rattle.f77_tree.specs.declared.statements.Stmt.{Stmt, more_of-Stmt}
use Rattle.f77_tree.specs.declared.statements.Stmt.TheVariants.{Stop, Back, End, ThenIf'}
use Rattle.f77_tree.specs.Run.{Running, State, step, Ended as HasEnded}
use Rattle.f77_tree.proofs.RunLaws.{step-running}
use Rattle.layout_rules.specs.Executables.{beyond, first_of, labelled, own_executables, own_kinds}
use Rattle.layout_rules.specs.Resolved.{resolved}
use Rattle.program_units.specs.declared.entity.Entity.{Entity}
use Rattle.program_units.specs.Calls.{CallState, Halts, Returns, act, act_of_pass}
use Rattle.program_units.specs.Contexts.{IsReached}
use Rattle.program_units.specs.Copies.{Change, Context, changed, changed_stmt, changes}
use Rattle.program_units.specs.Expansion.{whole_list}
use Rattle.program_units.specs.Layouts.{own_program}
use Rattle.program_units.specs.Units.{guard_of, inner, is_end, is_return, stand_in, standing_in, unit_at}
use Rattle.program_units.specs.Widths.{is_kept}
use Rattle.copied_control.proofs.WhichPieces.{IsPlain}
use Rattle.called_runs.specs.CopiedKinds.{test_alike}
use Rattle.called_runs.specs.CopiedPositions.{Stands, at_copy, copy_of, leaves, standing}
use Rattle.called_runs.proofs.CallRows.{call-index}
use Rattle.called_runs.proofs.FramesBeside.{Beside, moved, passes}
use Rattle.called_runs.proofs.Grounds.{IsCopied}
use Rattle.called_runs.proofs.OwnRows.{copy-found}
use Rattle.called_runs.proofs.PlainRows.{does-alike}
use Rattle.called_runs.proofs.ReturnRows.{comes-back, returned, unit-found}
use Rattle.called_runs.proofs.RunGrounds.{AreRunGrounds, IsGrounded, table_of}
use Rattle.called_runs.proofs.RunSteps.{Followed, followed, frame-executes, pass-acts}
use Rattle.called_runs.proofs.StandingLists.{standing-first}
use Rattle.called_runs.proofs.StandingNexts.{plain-beyond}
use Rattle.called_runs.proofs.TestRows.{guard-kinds}
use Rattle.called_runs.proofs.TiedParts.{guard-condition, test-tied}
use Rattle.called_runs.proofs.TestRows.{guard-does}

-- where the copy of STOP or RETURN goes
abbrev left_to : List Labelled → Change → Stmt → ℕ
left_to list x Back = labelled list x.back
left_to list x _ = first_of list (length list - 1)

-- what one of these is
data Leaving (t : Stmt) : Type 0 where
  stops : t ≡ Stop → Leaving t
  backs : t ≡ Back → Leaving t

leaving : (t : Stmt) → leaves t ≡ true → Leaving t
leaving Stop is = stops refl
leaving Back is = backs refl
leaving _ is = let e : false ≡ true = is in absurd cc

-- the Pass of STOP and RETURN in the unit, and in the copy
leave-kinds : (names : List NameInfo) (checked : Bool) (whole : List Labelled) (place index next : ℕ) (t : Stmt) → leaves (inner t) ≡ true → slice_get (own_kinds names checked whole place index next (stand_in t)) (call-index (guard_of t)) ≡ Some (Pass (first_of whole (length whole - 1)))
unfolding Rattle.f77_tree.specs.declared.statements.Stmt.TheBlock.hidden-the_row-Stmt-0 denote.Hole.Carrier.hidden
leave-kinds names checked whole place index next Stop is = refl
leave-kinds names checked whole place index next Back is = refl
leave-kinds names checked whole place index next (ThenIf' condition shape (more_of-Stmt Stop rest)) is = refl
leave-kinds names checked whole place index next (ThenIf' condition shape (more_of-Stmt Back rest)) is = refl
leave-kinds names checked whole place index next (ThenIf' condition shape (more_of-Stmt _ rest)) is = let e : false ≡ true = is in absurd cc
leave-kinds names checked whole place index next _ is = let e : false ≡ true = is in absurd cc

copy-kinds : (names : List NameInfo) (checked : Bool) (list : List Labelled) (place index next : ℕ) (x : Change) (t : Stmt) → leaves (inner t) ≡ true → slice_get (own_kinds names checked list place index next (changed_stmt x t)) (call-index (guard_of t)) ≡ Some (Pass (left_to list x (inner t)))
unfolding Rattle.f77_tree.specs.declared.statements.Stmt.TheBlock.hidden-the_row-Stmt-0 denote.Hole.Carrier.hidden
copy-kinds names checked list place index next x Stop is = refl
copy-kinds names checked list place index next x Back is = refl
copy-kinds names checked list place index next x (ThenIf' condition shape (more_of-Stmt Stop rest)) is = refl
copy-kinds names checked list place index next x (ThenIf' condition shape (more_of-Stmt Back rest)) is = refl
copy-kinds names checked list place index next x (ThenIf' condition shape (more_of-Stmt _ rest)) is = let e : false ≡ true = is in absurd cc
copy-kinds names checked list place index next x _ is = let e : false ≡ true = is in absurd cc

-- the test before one
copy-test : (names : List NameInfo) (checked : Bool) (list : List Labelled) (place index next : ℕ) (x : Change) (t : Stmt) (condition : RawExpr) → guard_of t ≡ Some condition → slice_get (own_kinds names checked list place index next (changed_stmt x t)) 0 ≡ Some (Test (resolved names checked (changed x condition)) (index + 1) next)
unfolding Rattle.f77_tree.specs.declared.statements.Stmt.TheBlock.hidden-the_row-Stmt-0 denote.Hole.Carrier.hidden
copy-test names checked list place index next x (ThenIf' first shape (more_of-Stmt stmt rest)) condition is = let h : Some first ≡ Some condition = is in let same : first ≡ condition = cc in ap (λ (e : RawExpr). Some (Test (resolved names checked (changed x e)) (index + 1) next)) same
copy-test names checked list place index next x _ condition is = let h : None ≡ Some condition = is in absurd cc

leave-long : (t : Stmt) → leaves (inner t) ≡ true → own_executables t ≡ call-index (guard_of t) + 1
unfolding Rattle.f77_tree.specs.declared.statements.Stmt.TheBlock.hidden-the_row-Stmt-0 denote.Hole.Carrier.hidden
leave-long Stop is = refl
leave-long Back is = refl
leave-long (ThenIf' condition shape (more_of-Stmt Stop rest)) is = refl
leave-long (ThenIf' condition shape (more_of-Stmt Back rest)) is = refl
leave-long (ThenIf' condition shape (more_of-Stmt _ rest)) is = let e : false ≡ true = is in absurd cc
leave-long _ is = let e : false ≡ true = is in absurd cc

leave-no-end : (t : Stmt) → leaves (inner t) ≡ true → is_end t ≡ false
leave-no-end End is = let e : false ≡ true = is in absurd cc
leave-no-end _ is = refl

sub-end : (k : ℕ) → (k ≡ 0 → ⊥) → is_kept k End ≡ false
sub-end zero some = absurd (some refl)
sub-end (suc k) some = refl

module _ (us : List (List Labelled)) (checked : Bool) (spot : Entity → ℕ) (input opening : List ℤ) (p : Program) (words : ℕ) (Paired : ℕ → ℕ → Type 0) (g : AreRunGrounds us checked spot p words Paired) where
  abbrev list : List Labelled
  list = whole_list us

  -- the program's END
  list-ends : (y : State) → y.mark ≡ Running → y.position ≡ first_of list (length list - 1) → step p input y ≡ record y { mark = HasEnded }
  list-ends y going here =
      let r : Exec = record { line = g.ended.last.line; kind = Ended } in
      let kinds : slice_get (own_kinds p.names checked list (length list - 1) (first_of list (length list - 1)) (beyond list (length list - 1) g.ended.last) g.ended.last.stmt) 0 ≡ Some Ended =
      ap (λ (t : Stmt). slice_get (own_kinds p.names checked list (length list - 1) (first_of list (length list - 1)) (beyond list (length list - 1) g.ended.last) t) 0) g.ended.is in
      let there : y.position ≡ first_of list (length list - 1) + 0 = omega (arith, here) in
      step-running p input y r going (ap (slice_get p.execs) there ∙ g.execs.own (length list - 1) 0 g.ended.last Ended g.ended.stands kinds)

  module _ (c : Context) (at : ℕ → ℕ) (reached : IsReached us c at) (place : ℕ) (s : Labelled) (is : slice_get (unit_at us c.unit) place ≡ Some s) (plain : IsPlain us c place s) (goes : leaves (inner s.stmt) ≡ true)
      (x : CallState) (y : State) (b : Beside us checked p input words Paired c at (Stands us (whole_list us) c at) x y) where
    abbrev unit : List Labelled
    unit = unit_at us c.unit

    abbrev own : Program
    own = own_program unit checked

    abbrev table : List NameInfo
    table = table_of us checked spot c

    abbrev Comes : ℕ → ℕ → Type 0
    Comes = Stands us list c at

    grounds : IsGrounded us checked spot p words Paired c at
    grounds = g.contexts c at reached

    held : IsCopied us list c at
    held = g.laid.copied c at reached

    abbrev stood : List Labelled
    stood = standing_in unit

    abbrev ends_at : ℕ
    ends_at = first_of stood (length stood - 1)

    abbrev r : Exec
    r = record { line = s.line; kind = Pass ends_at }

    abbrev index : ℕ
    index = call-index (guard_of s.stmt)

    found : slice_get own.execs (first_of unit place + index) ≡ Some r
    found = unit-found us checked spot input opening p words Paired g c at reached place index s (Pass ends_at) is (leave-kinds table checked stood place (first_of stood place) (beyond stood place (standing s)) s.stmt goes)

    found-there : slice_get p.execs (first_of list (at place) + index) ≡ Some (record { line = s.line; kind = Pass (left_to list (changes us c) (inner s.stmt)) })
    found-there = copy-found us checked spot input opening p words Paired g c at reached place s is plain index (Pass (left_to list (changes us c) (inner s.stmt))) (copy-kinds p.names checked list (at place) (first_of list (at place)) (beyond list (at place) (copy_of us c place s)) (changes us c) s.stmt goes)

    acts : act us c.unit r ≡ act_of_pass ends_at (inner s.stmt)
    acts = pass-acts us checked spot input opening p words Paired c.unit s.line ends_at s (grounds.lines place s is)

    module _ (here : b.position ≡ first_of unit place + index) (there : y.position ≡ first_of list (at place) + index) where
      first-step : step p input y ≡ moved y (left_to list (changes us c) (inner s.stmt))
      first-step = passes p input y s.line (left_to list (changes us c) (inner s.stmt)) b.other_going (ap (slice_get p.execs) there ∙ found-there)

      stops-both : inner s.stmt ≡ Stop → Followed us checked spot input opening p words Paired x y
      stops-both same =
          let y1 = moved y (first_of list (length list - 1)) in
          let one : step p input y ≡ y1 = first-step ∙ ap (λ (t : Stmt). moved y (left_to list (changes us c) t)) same in
          followed us checked spot input opening p words Paired x y (record x { mark = HasEnded }) (record y1 { mark = HasEnded }) 2 (omega arith)
          (frame-executes us checked spot input opening p words Paired c at Comes x y b (first_of unit place + index) here r Halts found (acts ∙ ap (act_of_pass ends_at) same))
          (ap (step p input) one ∙ list-ends y1 b.other_going refl)
          (inr (record { stopped = λ h. let no : HasEnded ≡ Running = h in cc; marks = refl; outs = b.out; store = b.store })) (λ none. absurd cc)

      returns-both : inner s.stmt ≡ Back → Followed us checked spot input opening p words Paired x y
      returns-both same =
          let one : step p input y ≡ moved y (labelled list (changes us c).back) = first-step ∙ ap (λ (t : Stmt). moved y (left_to list (changes us c) t)) same in
          let sub : is_kept c.unit End ≡ false = sub-end c.unit (λ main. let no : true ≡ false = ap is_return (sym same) ∙ grounds.no_return main place s is in cc) in
          followed us checked spot input opening p words Paired x y (returned us checked spot input opening p words Paired g x b.rest) (step p input (step p input y)) 2 (omega arith)
          (frame-executes us checked spot input opening p words Paired c at Comes x y b (first_of unit place + index) here r Returns found (acts ∙ ap (act_of_pass ends_at) same))
          refl
          (inl (comes-back us checked spot input opening p words Paired g c at b.rest Comes x y (step p input y) b.waits sub b one)) (λ none. absurd cc)

      leaves-both : Followed us checked spot input opening p words Paired x y
      leaves-both = by (leaving (inner s.stmt) goes)
        where
          by : Leaving (inner s.stmt) → Followed us checked spot input opening p words Paired x y
          by (stops same) = stops-both same
          by (backs same) = returns-both same

    -- the test before it
    tests-both : (condition : RawExpr) → guard_of s.stmt ≡ Some condition → b.position ≡ first_of unit place → y.position ≡ first_of list (at place) → Followed us checked spot input opening p words Paired x y
    tests-both condition guarded here there =
        let k = first_of stood place in
        let next = beyond stood place (standing s) in
        let next' = beyond list (at place) (copy_of us c place s) in
        let t = Test (resolved table checked condition) (k + 1) next in
        let t' = Test (resolved p.names checked (changed (changes us c) condition)) (first_of list (at place) + 1) next' in
        let own_is : own_executables s.stmt ≡ 2 = leave-long s.stmt goes ∙ ap (λ (o : Option RawExpr). call-index o + 1) guarded in
        let yes' : Comes (k + 1) (first_of list (at place) + 1) = subst (λ (n : ℕ). Comes (n + 1) (first_of list (at place) + 1)) (sym (standing-first unit place)) (at_copy place 1 s is plain.kept plain.none (omega (arith, own_is)) refl refl) in
        let no' = plain-beyond us list g.laid c at held place s is plain (leave-no-end s.stmt goes) in
        let tests = test-tied Paired table p.names (changes us c) s.stmt condition (guard-condition s.stmt condition guarded) (grounds.tied place s is (guard-does s.stmt condition guarded)) in
        let mine : slice_get own.execs (first_of unit place + 0) ≡ Some (record { line = s.line; kind = t }) = unit-found us checked spot input opening p words Paired g c at reached place 0 s t is (guard-kinds table checked stood place k next s.stmt condition guarded) in
        let theirs : slice_get p.execs (first_of list (at place) + 0) ≡ Some (record { line = s.line; kind = t' }) = copy-found us checked spot input opening p words Paired g c at reached place s is plain 0 t' (copy-test p.names checked list (at place) (first_of list (at place)) next' (changes us c) s.stmt condition guarded) in
        does-alike us checked spot input opening p words Paired g c at reached x y b (record { line = s.line; kind = t }) (record { line = s.line; kind = t' })
        (ap (slice_get own.execs) (let z : b.position ≡ first_of unit place + 0 = omega (arith, here) in z) ∙ mine)
        (ap (slice_get p.execs) (let z : y.position ≡ first_of list (at place) + 0 = omega (arith, there) in z) ∙ theirs) refl refl
        (test_alike condition (k + 1) next (first_of list (at place) + 1) next' tests yes' no')

    pub at-leave : (j : ℕ) → j < own_executables s.stmt → b.position ≡ first_of unit place + j → y.position ≡ first_of list (at place) + j → Followed us checked spot input opening p words Paired x y
    at-leave j within here there = by (guard_of s.stmt) refl j within here there
      where
        by : (guard : Option RawExpr) → guard_of s.stmt ≡ guard → (j : ℕ) → j < own_executables s.stmt → b.position ≡ first_of unit place + j → y.position ≡ first_of list (at place) + j → Followed us checked spot input opening p words Paired x y
        by None none j within here there =
            let long = leave-long s.stmt goes in
            let zero_is : index ≡ 0 = ap call-index none in
            leaves-both (omega (arith, within, here, long, zero_is)) (omega (arith, within, there, long, zero_is))
        by (Some condition) some zero within here there = tests-both condition some (omega (arith, here)) (omega (arith, there))
        by (Some condition) some (suc j) within here there =
            let long = leave-long s.stmt goes in
            let one_is : index ≡ 1 = ap call-index some in
            leaves-both (omega (arith, within, here, long, one_is)) (omega (arith, within, there, long, one_is))
