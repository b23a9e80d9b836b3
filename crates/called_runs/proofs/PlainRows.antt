-- Executables that have one copy: both do the same.
use Rattle.std.proofs.Common.{◌≡◌, ℕ, zero, suc, ◌<◌, ◌⊎◌, inl, inr, ℤ, Bool, true, false, List, [], ◌∷◌, length, Some, None, slice_get, refl, subst, ◌∙◌, arith}
use Rattle.f77_tree.specs.declared.programs.Exec.{Exec}
use Rattle.f77_tree.specs.declared.programs.ExecKind.{ExecKind}
use Rattle.f77_tree.specs.declared.programs.ExecKind.TheVariants.{End as Ended}
use Rattle.f77_tree.specs.declared.programs.NameInfo.{NameInfo}
use Rattle.f77_tree.specs.declared.programs.Program.{Program}
use Rattle.f77_tree.specs.declared.statements.Labelled.{Labelled}
use Rattle.f77_tree.specs.declared.statements.RawExpr.{RawExpr}
use Rattle.f77_tree.specs.declared.statements.Stmt.{Stmt}
use Rattle.f77_tree.specs.declared.statements.Stmt.TheVariants.{CallTo, Back, Stop}
use Rattle.f77_tree.specs.Execution.{outcome}
use Rattle.f77_tree.specs.Run.{State, step, after as program_after}
use Rattle.f77_tree.proofs.RunLaws.{step-running}
use Rattle.program_units.specs.declared.entity.Entity.{Entity}
use Rattle.program_units.specs.Calls.{CallState, Does, act, act_of_pass, after}
use Rattle.program_units.specs.Contexts.{IsReached}
use Rattle.program_units.specs.Copies.{Context, Change, changes}
use Rattle.program_units.specs.Expansion.{whole_list}
use Rattle.program_units.specs.Layouts.{own_program}
use Rattle.program_units.specs.Units.{call_by, call_in, inner, unit_at}
use Rattle.called_runs.specs.CopiedKinds.{ArePairwise, IsCopyOf, assign_alike, end_alike, next_alike, pass_alike, pick_alike, print_alike, sign_alike, start_alike, take_alike, test_alike}
use Rattle.called_runs.specs.CopiedPositions.{AreCopiedLoops, Stands, leaves}
use Rattle.called_runs.specs.FramesInStep.{AreInStep, AreLive, frame_in, innermost}
use Rattle.called_runs.proofs.AlikeRuns.{StopAlike}
use Rattle.called_runs.proofs.CopiedOutcomes.{IsTiedStatement, IsTiedTest, copied-goes}
use Rattle.called_runs.proofs.FramesBeside.{Beside, stand}
use Rattle.called_runs.proofs.RunGrounds.{AreRunGrounds, table_of}
use Rattle.called_runs.proofs.RunSteps.{Followed, followed, frame-executes, pass-acts}
use Rattle.called_runs.proofs.SteppedFrames.{SetsLoop, come, live, memory, side}

-- both lists have an item in this place, and the two are related
pub record HavePair {A B : Type 0} (R : A → B → Type 0) (xs : List A) (ys : List B) (j : ℕ) : Type 0 where
  pub first : A
  pub second : B
  pub is : slice_get xs j ≡ Some first
  pub there : slice_get ys j ≡ Some second
  pub related : R first second

pub pair-at : {A B : Type 0} (R : A → B → Type 0) (xs : List A) (ys : List B) (j : ℕ) → ArePairwise R xs ys → j < length xs → HavePair R xs ys j
pair-at R [] ys j are within = absurd (omega (arith, within))
pair-at R (a ∷ xs) [] j are within = absurd are
pair-at R (a ∷ xs) (b ∷ ys) zero are within = record { first = a; second = b; is = refl; there = refl; related = are.0 }
pair-at R (a ∷ xs) (b ∷ ys) (suc j) are within = let h = pair-at R xs ys j are.1 (omega (arith, within)) in record { first = h.first; second = h.second; is = h.is; there = h.there; related = h.related }

-- a copy sets the count of a copy of a DO
pub copied-loop : (Of : Stmt → Type 0) (OfTest : RawExpr → Type 0) (N D : ℕ → ℕ → Type 0) (names others : List NameInfo) (checked : Bool) (c : Change) (kind kind' : ExecKind) → IsCopyOf Of OfTest N D names others checked c kind kind' → (j : ℕ) → SetsLoop kind' j → (k : ℕ) × D k j
copied-loop Of OfTest N D names others checked c kind kind' (start_alike label i j variable first last step body exit body' exit' of loop in_body in_exit) k (inl same) = (i, subst (λ (n : ℕ). D i n) same loop)
copied-loop Of OfTest N D names others checked c kind kind' (start_alike label i j variable first last step body exit body' exit' of loop in_body in_exit) k (inr same) = (i, subst (λ (n : ℕ). D i n) same loop)
copied-loop Of OfTest N D names others checked c kind kind' (next_alike label i j variable first last step body exit body' exit' of loop in_body in_exit) k (inl same) = (i, subst (λ (n : ℕ). D i n) same loop)
copied-loop Of OfTest N D names others checked c kind kind' (next_alike label i j variable first last step body exit body' exit' of loop in_body in_exit) k (inr none) = absurd none
copied-loop Of OfTest N D names others checked c kind kind' (assign_alike a b d e f h) k (inl none) = absurd none
copied-loop Of OfTest N D names others checked c kind kind' (assign_alike a b d e f h) k (inr none) = absurd none
copied-loop Of OfTest N D names others checked c kind kind' (take_alike a b d e f h i j) k (inl none) = absurd none
copied-loop Of OfTest N D names others checked c kind kind' (take_alike a b d e f h i j) k (inr none) = absurd none
copied-loop Of OfTest N D names others checked c kind kind' (print_alike a b d e f) k (inl none) = absurd none
copied-loop Of OfTest N D names others checked c kind kind' (print_alike a b d e f) k (inr none) = absurd none
copied-loop Of OfTest N D names others checked c kind kind' (pass_alike a b d) k (inl none) = absurd none
copied-loop Of OfTest N D names others checked c kind kind' (pass_alike a b d) k (inr none) = absurd none
copied-loop Of OfTest N D names others checked c kind kind' (test_alike a b d e f h i j) k (inl none) = absurd none
copied-loop Of OfTest N D names others checked c kind kind' (test_alike a b d e f h i j) k (inr none) = absurd none
copied-loop Of OfTest N D names others checked c kind kind' (sign_alike a b d e f h i j l m n o q r) k (inl none) = absurd none
copied-loop Of OfTest N D names others checked c kind kind' (sign_alike a b d e f h i j l m n o q r) k (inr none) = absurd none
copied-loop Of OfTest N D names others checked c kind kind' (pick_alike a b d e f h i j l) k (inl none) = absurd none
copied-loop Of OfTest N D names others checked c kind kind' (pick_alike a b d e f h i j l) k (inr none) = absurd none
copied-loop Of OfTest N D names others checked c kind kind' end_alike k (inl none) = absurd none
copied-loop Of OfTest N D names others checked c kind kind' end_alike k (inr none) = absurd none

stays-acts : (next : ℕ) (t : Stmt) → call_by t ≡ None → leaves t ≡ false → act_of_pass next t ≡ Does
stays-acts next (CallTo a b) none stays = let e : Some (record { name = a; arguments = b }) ≡ None = none in absurd cc
stays-acts next Back none stays = let e : true ≡ false = stays in absurd cc
stays-acts next Stop none stays = let e : true ≡ false = stays in absurd cc
stays-acts next _ none stays = refl

module _ (us : List (List Labelled)) (checked : Bool) (spot : Entity → ℕ) (input opening : List ℤ) (p : Program) (words : ℕ) (Paired : ℕ → ℕ → Type 0) (g : AreRunGrounds us checked spot p words Paired) where
  abbrev list : List Labelled
  list = whole_list us

  abbrev InStep : CallState → State → Type 0
  InStep = AreInStep us checked p input words Paired

  abbrev Stopped : CallState → State → Type 0
  Stopped = StopAlike us checked spot input opening p innermost Paired InStep

  module _ (c : Context) (at : ℕ → ℕ) (reached : IsReached us c at) where
    abbrev unit : List Labelled
    unit = unit_at us c.unit

    abbrev own : Program
    own = own_program unit checked

    abbrev table : List NameInfo
    table = table_of us checked spot c

    abbrev Loops : ℕ → ℕ → Type 0
    Loops = AreCopiedLoops us list c at

    abbrev Comes : ℕ → ℕ → Type 0
    Comes = Stands us list c at

    abbrev pub Like : ExecKind → ExecKind → Type 0
    Like = IsCopyOf (IsTiedStatement Paired table p.names (changes us c)) (IsTiedTest Paired table p.names (changes us c)) Comes Loops table p.names checked (changes us c)

    -- but for END and what a Pass of STOP, RETURN and CALL does, an executable of the unit does what it says
    pub kind-acts : (place : ℕ) (s : Labelled) → slice_get unit place ≡ Some s → call_in s.stmt ≡ None → leaves (inner s.stmt) ≡ false → (kind kind' : ExecKind) → Like kind kind' → (act us c.unit (record { line = s.line; kind = kind }) ≡ Does) ⊎ ((kind ≡ Ended) × (kind' ≡ Ended))
    kind-acts place s is none stays kind kind' (pass_alike next next' leads) = inl (pass-acts us checked spot input opening p words Paired c.unit s.line next s ((g.contexts c at reached).lines place s is) ∙ stays-acts next (inner s.stmt) none stays)
    kind-acts place s is none stays kind kind' (assign_alike a b d e f h) = inl refl
    kind-acts place s is none stays kind kind' (take_alike a b d e f h i j) = inl refl
    kind-acts place s is none stays kind kind' (print_alike a b d e f) = inl refl
    kind-acts place s is none stays kind kind' (test_alike a b d e f h i j) = inl refl
    kind-acts place s is none stays kind kind' (sign_alike a b d e f h i j l m n o q r) = inl refl
    kind-acts place s is none stays kind kind' (pick_alike a b d e f h i j l) = inl refl
    kind-acts place s is none stays kind kind' (start_alike label i j variable first last step body exit body' exit' of loop in_body in_exit) = inl refl
    kind-acts place s is none stays kind kind' (next_alike label i j variable first last step body exit body' exit' of loop in_body in_exit) = inl refl
    kind-acts place s is none stays kind kind' end_alike = inr (refl, refl)

    module _ (x : CallState) (y : State) (b : Beside us checked p input words Paired c at Comes x y) where
      -- both do the same
      pub does-alike : (r r' : Exec) → slice_get own.execs b.position ≡ Some r → slice_get p.execs y.position ≡ Some r' → r'.line ≡ r.line → act us c.unit r ≡ Does → Like r.kind r'.kind → Followed us checked spot input opening p words Paired x y
      does-alike r r' found found' line does alike =
          let o = outcome table input (memory us checked spot input opening p words Paired g x b.counts b.steps) r.kind in
          let o' = outcome p.names input y.memory r'.kind in
          let x' = after us checked spot input x (frame_in c b.position b.counts b.steps) b.rest r.line o in
          let y' = program_after y r'.line o' in
          let goes = copied-goes Paired (AreLive us checked c at b.position) Loops Comes table p.names (changes us c) checked input (memory us checked spot input opening p words Paired g x b.counts b.steps) y.memory
          (side us checked spot input opening p words Paired g c at Comes Comes x y b) r.kind r'.kind alike
          (λ i j variable body exit same loop. live us checked spot input opening p words Paired g c at Comes Comes x y b r found i j variable body exit same loop) in
          let comes = come us checked spot input opening p words Paired g c at Comes Comes x y b r r' found line (copied-loop (IsTiedStatement Paired table p.names (changes us c)) (IsTiedTest Paired table p.names (changes us c)) Comes Loops table p.names checked (changes us c) r.kind r'.kind alike) goes in
          followed us checked spot input opening p words Paired x y x' y' 1 (omega arith)
          (frame-executes us checked spot input opening p words Paired c at Comes x y b b.position refl r Does found does)
          (step-running p input y r' b.other_going found')
          (by x' y' comes) (λ none. absurd cc)
        where
          by : (x' : CallState) (y' : State) → Beside us checked p input words Paired c at Comes x' y' ⊎ Stopped x' y' → InStep x' y' ⊎ Stopped x' y'
          by x' y' (inl next) = inl (stand us checked p input words Paired c at x' y' next)
          by x' y' (inr stopped) = inr stopped
