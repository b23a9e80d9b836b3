-- Steps of a run from any state, among them those that change nothing but the position.
use Rattle.std.proofs.Common.{◌≡◌, ℕ, zero, suc, ◌+◌, ℤ, List, [], Some, refl, ap, ◌∙◌, arith, append-nil}
use Rattle.std.specs.Prelude.{slice_get}
use Rattle.f77_tree.specs.declared.programs.Exec.{Exec}
use Rattle.f77_tree.specs.declared.programs.ExecKind.TheVariants.{Pass}
use Rattle.f77_tree.specs.declared.programs.Program.{Program}
use Rattle.f77_tree.specs.Execution.{Goes, outcome}
use Rattle.f77_tree.specs.Operations.{exec_operations}
use Rattle.f77_tree.specs.Run.{State, Running, after, executed_at, step_from, step, source}
use Rattle.simplified_laws.specs.InStep.{operations_in, operations_of_run}

-- n steps from a state
abbrev pub steps_on : Program → List ℤ → ℕ → State → State
steps_on q input zero y = y
steps_on q input (suc n) y = step q input (steps_on q input n y)

module _ (q : Program) (input : List ℤ) where
  pub steps_on-more : (m n : ℕ) (y : State) → steps_on q input (m + n) y ≡ steps_on q input m (steps_on q input n y)
  steps_on-more zero n y = let none : 0 + n ≡ n = omega arith in ap (λ k. steps_on q input k y) none
  steps_on-more (suc m) n y = let more : suc m + n ≡ suc (m + n) = omega arith in ap (λ k. steps_on q input k y) more ∙ ap (step q input) (steps_on-more m n y)

  pub source-more : (m n : ℕ) → source q input (m + n) ≡ steps_on q input m (source q input n)
  source-more zero n = let none : 0 + n ≡ n = omega arith in ap (source q input) none
  source-more (suc m) n = let more : suc m + n ≡ suc (m + n) = omega arith in ap (source q input) more ∙ ap (step q input) (source-more m n)

  -- a step where a run goes on
  pub step-is : (y : State) (exec : Exec) → y.mark ≡ Running → slice_get q.execs y.position ≡ Some exec → step q input y ≡ after y exec.line (outcome q.names input y.memory exec.kind)
  step-is y exec runs found = ap (step_from q input y) runs ∙ ap (executed_at q input y) found

  -- how many operations the next step takes, and n steps
  abbrev pub taken_at : State → ℕ
  taken_at y = operations_in (slice_get q.execs y.position)

  abbrev pub taken_on : ℕ → State → ℕ
  taken_on zero y = 0
  taken_on (suc n) y = taken_on n y + taken_at (steps_on q input n y)

  pub taken-more : (m n : ℕ) (y : State) → taken_on (m + n) y ≡ taken_on n y + taken_on m (steps_on q input n y)
  taken-more zero n y = let none : 0 + n ≡ n = omega arith in let same = ap (λ k. taken_on k y) none in omega (arith, same)
  taken-more (suc m) n y =
      let more : suc m + n ≡ suc (m + n) = omega arith in
      let same = ap (λ k. taken_on k y) more in
      let rest = taken-more m n y in
      let last = ap taken_at (steps_on-more m n y) in
      omega (arith, same, rest, last)

  pub run-taken : (m n : ℕ) → operations_of_run q input (m + n) ≡ operations_of_run q input n + taken_on m (source q input n)
  run-taken zero n = let none : 0 + n ≡ n = omega arith in let same = ap (operations_of_run q input) none in omega (arith, same)
  run-taken (suc m) n =
      let more : suc m + n ≡ suc (m + n) = omega arith in
      let same = ap (operations_of_run q input) more in
      let rest = run-taken m n in
      let last = ap taken_at (source-more m n) in
      omega (arith, same, rest, last)

  -- so many steps lead to a position, and change nothing else; they take no operations
  pub record Comes (y : State) (to count : ℕ) : Type 0 where
    pub position : (steps_on q input count y).position ≡ to
    pub memory : (steps_on q input count y).memory ≡ y.memory
    pub out : (steps_on q input count y).out ≡ y.out
    pub mark : (steps_on q input count y).mark ≡ Running
    pub idle : taken_on count y ≡ 0

  pub comes-none : (y : State) (to : ℕ) → y.mark ≡ Running → y.position ≡ to → Comes y to 0
  comes-none y to runs at = record { position = at; memory = refl; out = refl; mark = runs; idle = refl }

  pub comes-pass : (y : State) (exec : Exec) (to : ℕ) → y.mark ≡ Running → slice_get q.execs y.position ≡ Some exec → exec.kind ≡ Pass to → Comes y to 1
  comes-pass y exec to runs found kind =
      let is : step q input y ≡ after y exec.line (Goes to y.memory []) = step-is y exec runs found ∙ ap (λ k. after y exec.line (outcome q.names input y.memory k)) kind in
      record {
        position = ap (λ (z : State). z.position) is;
        memory = ap (λ (z : State). z.memory) is;
        out = ap (λ (z : State). z.out) is ∙ append-nil y.out;
        mark = ap (λ (z : State). z.mark) is ∙ runs;
        idle = let none : taken_at y ≡ 0 = ap operations_in found ∙ ap exec_operations kind in omega (arith, none);
      }
