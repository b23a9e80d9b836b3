-- A step, by what comes of its executable.
use Rattle.std.proofs.Common.{◌≡◌, ℕ, ◌<◌, ℤ, List, [], ◌++◌, length, Some, slice_get, sym, ap, ◌∙◌, append-nil}
use Rattle.op_table.specs.declared.Trap.{Trap}
use Rattle.f77_tree.specs.declared.programs.Exec.{Exec}
use Rattle.f77_tree.specs.declared.programs.Program.{Program}
use Rattle.f77_tree.specs.Execution.{Memory, Outcome, Goes, Stops, outcome}
use Rattle.f77_tree.specs.Run.{Mark, Running, Trapped, State, after, step}
use Rattle.f77_tree.specs.CanRun.{CanExecute}
use Rattle.f77_tree.specs.declared.programs.ExecKind.{ExecKind}
use Rattle.f77_tree.proofs.Outcomes.{goes}
use Rattle.f77_tree.proofs.RunInvariants.{goes-to_exec}
use Rattle.f77_tree.proofs.RunLaws.{step-running}

abbrev state : ℕ → Memory → List ℕ → Mark → State
state position memory out mark = record { position = position; memory = memory; out = out; mark = mark }

-- where an executable goes on, an executable follows
pub next_is : (p : Program) (input : List ℤ) (memory new : Memory) (kind : ExecKind) (next : ℕ) → CanExecute p kind → outcome p.names input memory kind ≡ Goes next new [] → next < length p.execs
next_is p input memory new kind next can is = goes (λ to after text. to < length p.execs) (outcome p.names input memory kind) next new [] (goes-to_exec p input memory kind can) is

module _ (p : Program) (input : List ℤ) (position : ℕ) (memory : Memory) (mark : Mark) (going : mark ≡ Running) where
  ran : (out : List ℕ) (exec : Exec) (o : Outcome) → slice_get p.execs position ≡ Some exec → outcome p.names input memory exec.kind ≡ o → step p input (state position memory out mark) ≡ after (state position memory out mark) exec.line o
  ran out exec o at is = step-running p input (state position memory out mark) exec going at ∙ ap (after (state position memory out mark) exec.line) is

  pub step_goes : (out : List ℕ) (exec : Exec) (next : ℕ) (memory' : Memory) (text : List ℕ) → slice_get p.execs position ≡ Some exec → outcome p.names input memory exec.kind ≡ Goes next memory' text → step p input (state position memory out mark) ≡ state next memory' (out ++ text) mark
  step_goes out exec next memory' text at is = ran out exec (Goes next memory' text) at is

  pub step_stops : (out : List ℕ) (exec : Exec) (trap : Trap) → slice_get p.execs position ≡ Some exec → outcome p.names input memory exec.kind ≡ Stops trap → step p input (state position memory out mark) ≡ state position memory (out ++ []) (Trapped trap exec.line)
  step_stops out exec trap at is = ran out exec (Stops trap) at is ∙ ap (λ (xs : List ℕ). state position memory xs (Trapped trap exec.line)) (sym (append-nil out))
