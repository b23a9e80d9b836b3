-- Touches by the risks that are told.
use Rattle.std.proofs.Common.{◌≡◌, ◌<◌, ℕ, suc, ℤ, List, All, Bool, true, inl, inr, refl, sym, ap, subst, ◌∙◌}
use Rattle.std.proofs.lemmas.Bool.{false≢true}
use Rattle.op_table.specs.Words.{IsWord}
use Rattle.f77_tree.specs.declared.programs.ExecKind.{ExecKind}
use Rattle.f77_tree.specs.declared.programs.ExecKind.TheVariants.{Assign, Print, Pass as Passing, Test, Sign, Pick, DoStart, DoNext, End as Ending}
use Rattle.f77_tree.specs.declared.programs.NameInfo.{NameInfo}
use Rattle.f77_tree.specs.declared.programs.Program.{Program}
use Rattle.f77_tree.specs.Execution.{Memory, outcome}
use Rattle.f77_tree.specs.Known.{ExecMayTrap}
use Rattle.f77_tree.specs.Run.{Running, source}
use Rattle.f77_tree.specs.Steps.{DoesNotTrap}
use Rattle.alias_classes.specs.Classes.{ClassTable}
use Rattle.cfg_build.specs.declared.pieces.PieceKind.{PieceKind}
use Rattle.cfg_build.specs.declared.pieces.PieceKind.TheVariants.{Start, Act, Pass, Branch, Join, Hold, End}
use Rattle.cfg_build.specs.Flow.{flow}
use Rattle.cfg_build.specs.Parts.{first_kind}
use Rattle.cfg_build.specs.Passes.{Passed, branched, choice, kind_in, out, pass_of, passes}
use Rattle.cfg_build.specs.Runs.{IsPartOf, is_act, is_branch}
use Rattle.cfg_build.specs.Steps.{BeginsStep, IsAtOwnPiece}
use Rattle.region_tree.specs.Tree.{Tree, IsIn, exit_of}
use Rattle.dep_routing.specs.Leaving.{MarksTraps, MarksStays}
use Rattle.dep_routing.specs.Risks.{AreRisks, StepDoesNotTrap, kind_of_exec}
use Rattle.dep_routing.specs.Quiet.{IsQuiet}
use Rattle.dep_routing.specs.Sound.{DoesTrap, IsLeftBy, IsSound, KindMayTouchOut, KindMustTouchOut, comes_to}
use Rattle.dep_routing.specs.Touches.{AreTouchesBy, BranchTraps, KindNeedsOutBy, exec_at, exec_kind, piece_kind}
use Rattle.dep_routing.proofs.KnownRisks.{known_needs}
use Rattle.dep_routing.proofs.TrapTouches.{pass-safe, tells}

module _ (p : Program) (c : ClassTable) (node : ℕ) (risk : Type 0) where
  pub must_needs : (kind : PieceKind) (exec : ExecKind) → KindMustTouchOut c kind exec → KindNeedsOutBy p c node risk kind exec
  must_needs Start exec must = must
  must_needs Pass exec must = must
  must_needs Join exec must = must
  must_needs Hold exec must = tt
  must_needs Act exec (inl prints) = inl prints
  must_needs Act exec (inr reads) = inr (inl reads)
  must_needs Branch exec must = inr (inr must)
  must_needs End exec must = must

  pub needs_may : (exec : ExecKind) → (risk → ExecMayTrap p.names exec) → (kind : PieceKind) → KindNeedsOutBy p c node risk kind exec → KindMayTouchOut p kind exec
  needs_may exec sound Start needs = needs
  needs_may exec sound Pass needs = needs
  needs_may exec sound Join needs = needs
  needs_may exec sound Hold needs = tt
  needs_may exec sound Act (inl prints) = inl prints
  needs_may exec sound Act (inr (inl reads)) = inr (inl reads)
  needs_may exec sound Act (inr (inr may)) = inr (inr (sound may))
  needs_may exec sound Branch needs = tt
  needs_may exec sound End needs = needs

pub marks_by : (p : Program) (c : ClassTable) (may : ℕ → Type 0) (touches : ℕ → ℕ → Bool) → AreTouchesBy p c may touches → MarksTraps p touches → MarksStays p touches
marks_by p c may touches are traps = record {
  holds = λ node below kind. (are node 0 below).1 (subst (λ k. KindNeedsOutBy p c node (may (exec_at p node)) k (exec_kind p node)) (sym kind) tt);
  branches = λ node below kind cycle. (are node 0 below).1 (subst (λ k. KindNeedsOutBy p c node (may (exec_at p node)) k (exec_kind p node)) (sym kind) (inr (inl cycle)));
  traps = traps;
}

-- ---- a pass that traps is one of a step at its executable

-- the own piece of what an act runs is an act
act_own : (exec : ExecKind) → is_act exec ≡ true → first_kind exec ≡ Act
act_own (Assign target e next) is = refl
act_own (Print items next) is = refl
act_own (DoStart loop_no var first last step body exit) is = refl
act_own (DoNext loop_no var body exit) is = refl
act_own (Passing next) is = absurd (false≢true is)
act_own (Test cond if_true if_false) is = absurd (false≢true is)
act_own (Sign e neg equal above) is = absurd (false≢true is)
act_own (Pick e targets other) is = absurd (false≢true is)
act_own Ending is = absurd (false≢true is)

-- a branch that traps isn't the test of a DO, so it is the own piece of its executable
branch_own : (names : List NameInfo) (m : Memory) (out : ℕ → ℕ) (exec : ExecKind) → is_branch exec ≡ true → DoesTrap (branched m out (choice names m exec)) → first_kind exec ≡ Branch
branch_own names m out (DoStart loop_no var first last step body exit) is traps = absurd traps
branch_own names m out (Test cond if_true if_false) is traps = refl
branch_own names m out (Sign e neg equal above) is traps = refl
branch_own names m out (Pick e targets other) is traps = refl
branch_own names m out (Assign target e next) is traps = absurd (false≢true is)
branch_own names m out (Print items next) is traps = absurd (false≢true is)
branch_own names m out (Passing next) is traps = absurd (false≢true is)
branch_own names m out (DoNext loop_no var body exit) is traps = absurd (false≢true is)
branch_own names m out Ending is traps = absurd (false≢true is)

-- which executables pieces run, and where their passes lie in a run of steps
pub record OwnPieces (p : Program) : Type 0 where
  pub below : (input : List ℤ) (n : ℕ) → comes_to p input n < (flow p.execs).graph.nodes
  pub acts : (node : ℕ) → node < (flow p.execs).graph.nodes → piece_kind p node ≡ Act → IsPartOf (flow p.execs) p.execs node is_act
  pub branches : (node : ℕ) → node < (flow p.execs).graph.nodes → piece_kind p node ≡ Branch → IsPartOf (flow p.execs) p.execs node is_branch
  pub begins : (input : List ℤ) (k passed : ℕ) → IsAtOwnPiece p input k passed → BeginsStep p input k passed

module _ (p : Program) (own : OwnPieces p) (input : List ℤ) (n : ℕ) (running : (passes p input n).mark ≡ Running) where
  abbrev reached : ℕ
  reached = comes_to p input n

  abbrev passing : PieceKind → Passed
  passing kind = pass_of p input (passes p input n).memory (out (flow p.execs).graph reached) kind (exec_kind p reached)

  part_begins : (fits : ExecKind → Bool) (part : IsPartOf (flow p.execs) p.execs reached fits) → first_kind part.exec.kind ≡ piece_kind p reached → BeginsStep p input (exec_at p reached) n
  part_begins fits part is = own.begins input (exec_at p reached) n (record { runs = running; exec = part.exec; found = part.found; kind_is = sym is; exec_is = refl })

  begins_by : (kind : PieceKind) → piece_kind p reached ≡ kind → DoesTrap (passing kind) → BeginsStep p input (exec_at p reached) n
  begins_by Start is traps = absurd traps
  begins_by Pass is traps = absurd traps
  begins_by Join is traps = absurd traps
  begins_by Hold is traps = absurd traps
  begins_by End is traps = absurd traps
  begins_by Act is traps =
      let part = own.acts reached (own.below input n) is in
      part_begins is_act part (act_own part.exec.kind part.fitting ∙ sym is)
  begins_by Branch is traps =
      let part = own.branches reached (own.below input n) is in
      let m = (passes p input n).memory in
      let traps' = subst (λ (kind : ExecKind). DoesTrap (branched m (out (flow p.execs).graph reached) (choice p.names m kind))) (ap kind_in part.found) traps in
      part_begins is_branch part (branch_own p.names m (out (flow p.execs).graph reached) part.exec.kind part.fitting traps' ∙ sym is)

  -- what doesn't trap in its step doesn't in the pass
  pub step_safe : (may : ℕ → Type 0) → AreRisks p may → All IsWord input → (may (exec_at p reached) → ⊥) → DoesTrap (passing (piece_kind p reached)) → ⊥
  step_safe may risks words not_may traps =
      let b = begins_by (piece_kind p reached) refl traps in
      let x = source p input b.step in
      let safe : StepDoesNotTrap p input x = risks.whole input b.step words b.runs (λ is. not_may (subst may b.position_is is)) in
      let here : DoesNotTrap (outcome p.names input x.memory (exec_kind p reached)) = subst (λ k. DoesNotTrap (outcome p.names input x.memory (kind_of_exec p k))) b.position_is safe in
      let there : DoesNotTrap (outcome p.names input (passes p input n).memory (exec_kind p reached)) = subst (λ (m : Memory). DoesNotTrap (outcome p.names input m (exec_kind p reached))) (sym b.comes.memory_is) here in
      pass-safe p input (passes p input n).memory (out (flow p.execs).graph reached) (piece_kind p reached) (exec_kind p reached) there traps

-- a run leaves the regions that are quiet for the line of output
abbrev pub Leaves : Program → Tree → (touches : ℕ → ℕ → Bool) → Type 0
Leaves p t touches = (input : List ℤ) (n r : ℕ) → All IsWord input → (passes p input n).mark ≡ Running → IsQuiet (flow p.execs).graph t touches 0 r → IsIn (flow p.execs).graph t r (comes_to p input n) → IsLeftBy p input n (exit_of t r)

-- a branch that needs no line of output may not trap, but for the test of a DO, which doesn't
not_branch : (risk : Type 0) (exec : ExecKind) (m : Memory) (names : List NameInfo) (out : ℕ → ℕ) → (BranchTraps risk exec → ⊥) → DoesTrap (branched m out (choice names m exec)) → risk → ⊥
not_branch risk (DoStart loop_no var first last step body exit) m names out none traps is = traps
not_branch risk (Assign target e next) m names out none traps is = none is
not_branch risk (Print items next) m names out none traps is = none is
not_branch risk (Passing next) m names out none traps is = none is
not_branch risk (Test cond if_true if_false) m names out none traps is = none is
not_branch risk (Sign e neg equal above) m names out none traps is = none is
not_branch risk (Pick e targets other) m names out none traps is = none is
not_branch risk (DoNext loop_no var body exit) m names out none traps is = none is
not_branch risk Ending m names out none traps is = none is

not_risk : (p : Program) (input : List ℤ) (m : Memory) (c : ClassTable) (node : ℕ) (risk : Type 0) (out : ℕ → ℕ) (kind : PieceKind) (exec : ExecKind) → (KindNeedsOutBy p c node risk kind exec → ⊥) → DoesTrap (pass_of p input m out kind exec) → risk → ⊥
not_risk p input m c node risk out Start exec none traps is = traps
not_risk p input m c node risk out Pass exec none traps is = traps
not_risk p input m c node risk out Join exec none traps is = traps
not_risk p input m c node risk out Hold exec none traps is = traps
not_risk p input m c node risk out Act exec none traps is = none (inr (inr is))
not_risk p input m c node risk out Branch exec none traps is = not_branch risk exec m p.names out (λ may. none (inl may)) traps is
not_risk p input m c node risk out End exec none traps is = traps

-- the touches mark each trap
pub marks_traps : (p : Program) (c : ClassTable) (may : ℕ → Type 0) (touches : ℕ → ℕ → Bool) → OwnPieces p → AreTouchesBy p c may touches → AreRisks p may → MarksTraps p touches
marks_traps p c may touches own are risks = λ input n words running traps.
    let node = comes_to p input n in
    let m = (passes p input n).memory in
    tells (touches node 0) (are node 0 (own.below input n)).1
    (λ none. step_safe p own input n running may risks words (not_risk p input m c node (may (exec_at p node)) (out (flow p.execs).graph node) (piece_kind p node) (exec_kind p node) none traps) traps)

-- touches by risks are sound
pub sound_by : (p : Program) (c : ClassTable) (may : ℕ → Type 0) (t : Tree) (touches : ℕ → ℕ → Bool) → OwnPieces p → (MarksStays p touches → Leaves p t touches) → AreTouchesBy p c may touches → AreRisks p may → IsSound p c t touches
sound_by p c may t touches own left are risks =
    let traps : MarksTraps p touches = marks_traps p c may touches own are risks in
    record {
      classes = λ node n exists. are node (suc n) exists;
      must = λ node exists must. (are node 0 exists).1 (must_needs p c node (may (exec_at p node)) (piece_kind p node) (exec_kind p node) must);
      may = λ node exists touched. needs_may p c node (may (exec_at p node)) (exec_kind p node) (risks.sound (exec_at p node)) (piece_kind p node) ((are node 0 exists).0 touched);
      known = λ node exists is. (are node 0 exists).1 (known_needs p c node (may (exec_at p node)) (exec_kind p node) (risks.known (exec_at p node)) (piece_kind p node) is);
      traps = traps;
      leaves = left (marks_by p c may touches are traps);
    }
