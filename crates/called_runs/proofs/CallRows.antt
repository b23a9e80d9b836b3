-- CALL: a frame of what it calls is the innermost one, and the frame that calls it waits.
use Rattle.std.proofs.Common.{◌≡◌, ℕ, ◌+◌, ◌⊎◌, inl, inr, ℤ, pos, Bool, List, ◌∷◌, replicate, Option, Some, None, slice_get, refl, sym, ap, ◌∙◌, arith}
use Rattle.std.proofs.lemmas.List.{length-replicate}
use Rattle.f77_tree.specs.declared.programs.Exec.{Exec}
use Rattle.f77_tree.specs.declared.programs.ExecKind.TheVariants.{Pass}
use Rattle.f77_tree.specs.declared.programs.NameInfo.{NameInfo}
use Rattle.f77_tree.specs.declared.programs.Program.{Program}
use Rattle.f77_tree.specs.declared.statements.Labelled.{Labelled}
use Rattle.f77_tree.specs.declared.statements.RawExpr.{RawExpr}
use Rattle.f77_tree.specs.declared.statements.Stmt.{Stmt, more_of-Stmt}
use Rattle.f77_tree.specs.declared.statements.Stmt.TheVariants.{CallTo, Continue, ThenIf'}
use Rattle.f77_tree.specs.Loops.{InRange}
use Rattle.f77_tree.specs.Run.{State, step}
use Rattle.f77_tree.specs.Touched.{SetsStep}
use Rattle.layout_rules.specs.Executables.{beyond, first_of, own_kinds}
use Rattle.program_units.specs.declared.entity.Entity.{Entity}
use Rattle.program_units.specs.Calls.{CallState, Calls, act, act_of_pass}
use Rattle.program_units.specs.Contexts.{IsReached, called}
use Rattle.program_units.specs.Copies.{Context, bare, number_at}
use Rattle.program_units.specs.Expansion.{whole_list}
use Rattle.program_units.specs.Layouts.{own_program}
use Rattle.program_units.specs.Units.{Call, call_by, call_in, guard_of, inner, stand_in, standing_in, unit_at, unit_of}
use Rattle.called_runs.specs.CopiedPositions.{Stands, standing}
use Rattle.called_runs.specs.FramesInStep.{AreInStep, AreLive, CountAlike, behind, frame_in, innermost, inside, inside_at, position_of}
use Rattle.called_runs.proofs.AlikeRuns.{call_step}
use Rattle.called_runs.proofs.FramesBeside.{Beside, enter, moved, stand}
use Rattle.called_runs.proofs.Grounds.{IsCopied}
use Rattle.called_runs.proofs.LiveLoops.{entered-by, none-first}
use Rattle.called_runs.proofs.ReturnRows.{unit-found}
use Rattle.called_runs.proofs.RunGrounds.{AreRunGrounds, IsGrounded, table_of}
use Rattle.called_runs.proofs.RunSteps.{Followed, by-label, followed, frame-executes, pass-acts}
use Rattle.called_runs.proofs.StandingCalls.{enters, label-at}
use Rattle.called_runs.proofs.StandingNexts.{standing-beyond}

-- the executable of a CALL, alone or after a condition, is a CONTINUE's
abbrev pub call-index : Option RawExpr → ℕ
call-index None = 0
call-index (Some condition) = 1

call-is : (t : Stmt) (call : Call) → call_by t ≡ Some call → t ≡ CallTo call.name call.arguments
call-is (CallTo name arguments) call is =
    let made : Call = record { name = name; arguments = arguments } in
    let e : Some made ≡ Some call = is in
    let same : made ≡ call = cc in
    ap (λ (d : Call). CallTo d.name d.arguments) same
call-is _ call is = let e : None ≡ Some call = is in absurd cc

call-kinds : (names : List NameInfo) (checked : Bool) (whole : List Labelled) (place index next : ℕ) (t : Stmt) (call : Call) → call_in t ≡ Some call → slice_get (own_kinds names checked whole place index next (stand_in t)) (call-index (guard_of t)) ≡ Some (Pass next)
unfolding Rattle.f77_tree.specs.declared.statements.Stmt.TheBlock.hidden-the_row-Stmt-0 denote.Hole.Carrier.hidden
call-kinds names checked whole place index next (CallTo a b) call is = refl
call-kinds names checked whole place index next (ThenIf' condition shape (more_of-Stmt (CallTo a b) rest)) call is = refl
call-kinds names checked whole place index next (ThenIf' condition shape (more_of-Stmt _ rest)) call is = let e : None ≡ Some call = is in absurd cc
call-kinds names checked whole place index next _ call is = let e : None ≡ Some call = is in absurd cc

module _ (us : List (List Labelled)) (checked : Bool) (spot : Entity → ℕ) (input opening : List ℤ) (p : Program) (words : ℕ) (Paired : ℕ → ℕ → Type 0) (g : AreRunGrounds us checked spot p words Paired) where
  abbrev list : List Labelled
  list = whole_list us

  abbrev InStep : CallState → State → Type 0
  InStep = AreInStep us checked p input words Paired

  module _ (c : Context) (at : ℕ → ℕ) (reached : IsReached us c at) where
    abbrev unit : List Labelled
    unit = unit_at us c.unit

    abbrev own : Program
    own = own_program unit checked

    abbrev table : List NameInfo
    table = table_of us checked spot c

    grounds : IsGrounded us checked spot p words Paired c at
    grounds = g.contexts c at reached

    held : IsCopied us list c at
    held = g.laid.copied c at reached

    -- where control only goes on, it enters no range
    pub pass-counted : (position line next : ℕ) (counts : List ℕ) (steps : List ℤ) (y : State) → slice_get own.execs position ≡ Some (record { line = line; kind = Pass next }) → CountAlike us checked c at position counts steps y.memory → CountAlike us checked c at next counts steps y.memory
    pass-counted position line next counts steps y found counted = record {
      room = counted.room;
      step_room = counted.step_room;
      same = λ i j live. counted.same i j (before i j live);
      same_steps = λ i j live. counted.same_steps i j (before i j live);
    }
      where
        before : (i j : ℕ) → AreLive us checked c at next i j → AreLive us checked c at position i j
        before i j live = by (entered-by own.execs own.loops grounds.loops position next i (record { line = line; kind = Pass next }) found (0, omega arith, refl) (grounds.loops_numbered i j live.loops).0 live.held)
          where
            by : InRange own.execs i position ⊎ SetsStep (Pass next) i → AreLive us checked c at position i j
            by (inl range) = record { loops = live.loops; held = range }
            by (inr sets) = absurd sets

    module _ (N : ℕ → ℕ → Type 0) (x : CallState) (y : State) (b : Beside us checked p input words Paired c at N x y) (place : ℕ) (s : Labelled) (call : Call) (is : slice_get unit place ≡ Some s) (calls : call_in s.stmt ≡ Some call) where
      abbrev next : ℕ
      next = beyond unit place s

      abbrev e : Exec
      e = record { line = s.line; kind = Pass next }

      call-acts : act us c.unit e ≡ Calls call.name call.arguments next
      call-acts = pass-acts us checked spot input opening p words Paired c.unit s.line next s (grounds.lines place s is) ∙ ap (act_of_pass next) (call-is (inner s.stmt) call calls)

      -- the state of the units after a CALL
      abbrev entered : CallState
      entered = record x { frames = frame_in (inside us c place call) 0 (replicate (own_program (unit_at us (unit_of us call.name)) checked).loops 0) (replicate (own_program (unit_at us (unit_of us call.name)) checked).loops (pos 0)) ∷ frame_in c next b.counts b.steps ∷ b.rest }

      stands-within : (r : ℕ) → slice_get own.execs b.position ≡ Some e → Stands us list (inside us c place call) (inside_at us c at place s call) 0 r → InStep entered (moved y r)
      stands-within r found within =
          let new = own_program (unit_at us (unit_of us call.name)) checked in
          let zeros : CountAlike us checked (inside us c place call) (inside_at us c at place s call) 0 (replicate new.loops 0) (replicate new.loops (pos 0)) y.memory = record {
            room = length-replicate new.loops 0;
            step_room = length-replicate new.loops (pos 0);
            same = λ i j live. absurd (none-first new.execs i live.held);
            same_steps = λ i j live. absurd (none-first new.execs i live.held);
          } in
          stand us checked p input words Paired (inside us c place call) (inside_at us c at place s call) entered (moved y r)
          (enter us checked p input words Paired c (inside us c place call) at (inside_at us c at place s call) N (Stands us list (inside us c place call) (inside_at us c at place s call)) x y 0 r (replicate new.loops 0) (replicate new.loops (pos 0)) (frame_in c next b.counts b.steps ∷ b.rest) b within zeros
          (behind place s call b.counts b.steps is calls (pass-counted b.position s.line next b.counts b.steps y found b.counted) b.waits))

      calls-it : (position : ℕ) → b.position ≡ position → slice_get own.execs position ≡ Some e → call_step us checked spot input x ≡ entered
      calls-it position here found = frame-executes us checked spot input opening p words Paired c at N x y b position here e (Calls call.name call.arguments next) found call-acts

      pub found-at : (j : ℕ) → call-index (guard_of s.stmt) ≡ j → slice_get own.execs (first_of unit place + j) ≡ Some e
      found-at j index =
          unit-found us checked spot input opening p words Paired g c at reached place j s (Pass (beyond (standing_in unit) place (standing s))) is (ap (λ (n : ℕ). slice_get (own_kinds table checked (standing_in unit) place (first_of (standing_in unit) place) (beyond (standing_in unit) place (standing s)) (stand_in s.stmt)) n) (sym index) ∙ call-kinds table checked (standing_in unit) place (first_of (standing_in unit) place) (beyond (standing_in unit) place (standing s)) s.stmt call calls)
          ∙ ap (λ (n : ℕ). let z : Exec = record { line = s.line; kind = Pass n } in Some z) (standing-beyond us list g.laid c at held place s)

      -- a CALL alone
      pub at-call : guard_of s.stmt ≡ None → b.position ≡ first_of unit place → y.position ≡ first_of list (at place) → Followed us checked spot input opening p words Paired x y
      at-call none here there =
          let deeper : IsReached us (inside us c place call) (inside_at us c at place s call) = called place s call reached is calls in
          let within = enters us list g.laid c at held place s call is calls (g.laid.copied _ _ deeper) none in
          let a = bare (number_at us c.depth c.unit c.base place) s.line Continue in
          let found : slice_get own.execs (first_of unit place) ≡ Some e = ap (slice_get own.execs) (let z : first_of unit place ≡ first_of unit place + 0 = omega arith in z) ∙ found-at 0 (ap call-index none) in
          let gone : step p input y ≡ moved y (beyond list (at place) a) = by-label us checked spot input opening p words Paired g.execs y (at place) (number_at us c.depth c.unit c.base place) s.line b.other_going (label-at us list g.laid c at held place s call is calls) there in
          followed us checked spot input opening p words Paired x y entered (moved y (beyond list (at place) a)) 1 (omega arith) (calls-it (first_of unit place) here found) gone (inl (stands-within (beyond list (at place) a) (ap (slice_get own.execs) here ∙ found) within)) (λ e. absurd cc)

      -- one whose condition was true: the program has come to the copy
      pub at-guarded : (condition : RawExpr) → guard_of s.stmt ≡ Some condition → b.position ≡ first_of unit place + 1 → Stands us list (inside us c place call) (inside_at us c at place s call) 0 y.position → Followed us checked spot input opening p words Paired x y
      at-guarded condition guarded here within =
          let found = found-at 1 (ap call-index guarded) in
          let innermost_is : innermost x ≡ b.position = ap position_of b.frames in
          followed us checked spot input opening p words Paired x y entered y 0 (omega arith) (calls-it (first_of unit place + 1) here found) refl (inl (stands-within y.position (ap (slice_get own.execs) here ∙ found) within)) (λ e. omega (arith, innermost_is, here))
