-- How many steps the shared form of the simplified form of a program takes for steps of the program.
use Rattle.std.proofs.Common.{◌≡◌, ℕ, ◌+◌, ◌*◌, ◌≤◌, ℤ, Bool, List, All, sym, ap, subst, ◌∙◌, arith}
use Rattle.op_table.specs.Words.{IsWord}
use Rattle.f77_tree.specs.declared.programs.Program.{Program}
use Rattle.f77_tree.specs.Operations.{most_operations}
use Rattle.f77_tree.specs.Run.{State, source}
use Rattle.f77_tree.specs.Value.{word_at}
use Rattle.alias_classes.specs.Classes.{ClassTable}
use Rattle.const_prop.specs.Table.{Knowns}
use Rattle.flat_programs.specs.Executables.{program_of}
use Rattle.redundancy.specs.Available.{Availability}
use Rattle.simplified_laws.specs.InStep.{operations_of_run, KeepsStep, RunsTakeFewOperations, SimplifiedProgramsKeepStep}
use Rattle.shared_laws.specs.RewrittenSteps.{FollowsWithin, RewrittenProgramsFollow}
use Rattle.shared_laws.specs.SharedRuns.{shared_steps, AgreeUpTo, IsSharedBy}
use Rattle.simplified_forms.specs.Simplified.{flat}
use Rattle.simplified_laws.proofs.SimplifiedRuns.{form-is}

-- the shared form follows step by step
abbrev pub SharedProgramsFollow : Type 0
SharedProgramsFollow = (q r : Program) (c : ClassTable) (a : Availability) (input : List ℤ) (n : ℕ) → (is : IsSharedBy q c a r) → All IsWord input → AgreeUpTo q.words (source q input n) (source r input (shared_steps q a is.shared.number input n))

-- it makes a step for each, and at most one for each two operations
abbrev pub SharedStepsAreFew : Type 0
SharedStepsAreFew = (q r : Program) (c : ClassTable) (a : Availability) (input : List ℤ) (n : ℕ) → (is : IsSharedBy q c a r) → 2 * shared_steps q a is.shared.number input n ≤ operations_of_run q input n + 2 * n

module _ (follow : SharedProgramsFollow) (shared_few : SharedStepsAreFew) (few : RunsTakeFewOperations) (keeps : SimplifiedProgramsKeepStep) where
  sum-few : (shared m n old new most : ℕ) → 2 * shared ≤ new + 2 * m → m ≤ 3 * n → new ≤ 2 * old → old ≤ most * n → shared ≤ (most + 3) * n
  sum-few shared m n old new most a b c d = omega (arith, a, b, c, d)

  agrees-on : (words : ℕ) (x y z : State) → y.mark ≡ x.mark → y.out ≡ x.out → y.memory.taken ≡ x.memory.taken → y.memory.store ≡ x.memory.store → AgreeUpTo words y z → AgreeUpTo words x z
  agrees-on words x y z mark out taken store agrees = record {
    mark = agrees.mark ∙ mark;
    text = agrees.text ∙ out;
    taken = agrees.taken ∙ taken;
    store = λ word less. agrees.store word less ∙ ap (λ (s : List ℤ). word_at s word) store;
  }

  -- over the simplified form of the items
  follows-form : (p : Program) (c : ClassTable) (t : Knowns) (checked : Bool) (is_item : ℕ → Bool) (d : ClassTable) (a : Availability) (s : Program) (input : List ℤ) (n : ℕ)
      → IsSharedBy (program_of p (flat p c t checked is_item)) d a s → All IsWord input → KeepsStep p c t checked is_item input n → FollowsWithin p s input n
  follows-form p c t checked is_item d a s input n is words kept =
      let q = program_of p (flat p c t checked is_item) in
      let m = kept.steps in
      let shared = shared_steps q a is.shared.number input m in
      let at = kept.in_step in
      record {
        steps = shared;
        most = sum-few shared m n (operations_of_run p input n) (operations_of_run q input m) (most_operations p) (shared_few q s d a input m is) kept.most kept.operations (few p input n);
        agrees = agrees-on p.words (source p input n) (source q input m) (source s input shared) at.mark at.out at.memory.taken at.memory.store (follow q s d a input m is words);
      }

  pub rewritten-follow : RewrittenProgramsFollow
  rewritten-follow p c touches tree r t checked q d a s input n routed constants simplified is words =
      let is_item = simplified.simplified.is_item in
      let form = form-is p c t checked q simplified in
      let is_form : IsSharedBy (program_of p (flat p c t checked is_item)) d a s = subst (λ (new : Program). IsSharedBy new d a s) (sym form) is in
      follows-form p c t checked is_item d a s input n is_form words (keeps p c touches tree r t checked is_item input n routed constants simplified.simplified.items words)
