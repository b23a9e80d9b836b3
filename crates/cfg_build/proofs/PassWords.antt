-- The memories of the passes of a run hold words.
use Rattle.std.proofs.Common.{◌≡◌, ℕ, zero, suc, ℤ, List, Option, Some, None, Result, Ok, Err}
use Rattle.std.specs.Prelude.{slice_get}
use Rattle.op_table.specs.declared.Trap.{Trap}
use Rattle.f77_tree.specs.declared.programs.Exec.{Exec}
use Rattle.f77_tree.specs.declared.programs.Program.{Program}
use Rattle.f77_tree.specs.Execution.{Memory, Outcome, outcome}
use Rattle.f77_tree.specs.Run.{Mark, Running, Ended, Trapped, first_memory}
use Rattle.f77_tree.specs.Steps.{IfGoes, HoldsWords}
use Rattle.cfg_build.specs.declared.pieces.PieceKind.{PieceKind}
use Rattle.cfg_build.specs.Passes.{Passed, IfAlong, acted, branched, pass_of, pass, kind_in, out, PassState, after_pass, line_at, passed_from, passes}
use Rattle.std.proofs.Common.{arith}

-- where a pass goes on, the memory holds words
abbrev LeavesWords : Passed → Type 0
LeavesWords passed = IfAlong passed (λ next new text. HoldsWords new)

acted_words : (edge : ℕ) (o : Outcome) → IfGoes o (λ next new text. HoldsWords new) → LeavesWords (acted edge o)
acted_words edge h words = grind arith

branched_words : (m : Memory) (out : ℕ → ℕ) (r : Result ℕ Trap) → HoldsWords m → LeavesWords (branched m out r)
branched_words m out (Ok i) words = words
branched_words m out (Err trap) words = tt

after_words : (x : PassState) (line : ℕ) (passed : Passed) → HoldsWords x.memory → LeavesWords passed → HoldsWords (after_pass x line passed).memory
after_words x line h before words = grind arith

-- each executable of the program leaves words
module _ (p : Program) (input : List ℤ) (step : (m : Memory) (k : ℕ) (exec : Exec) → slice_get p.execs k ≡ Some exec → HoldsWords m → IfGoes (outcome p.names input m exec.kind) (λ next new text. HoldsWords new)) where
  found_words : (m : Memory) (k : ℕ) (o : Option Exec) → slice_get p.execs k ≡ o → HoldsWords m → IfGoes (outcome p.names input m (kind_in o)) (λ next new text. HoldsWords new)
  found_words m k None found words = tt
  found_words m k (Some exec) found words = step m k exec found words

  kind_words : (m : Memory) (k : ℕ) (out : ℕ → ℕ) (kind : PieceKind) → HoldsWords m → LeavesWords (pass_of p input m out kind (kind_in (slice_get p.execs k)))
  kind_words m k out h words = grind (arith, acted_words, found_words, branched_words)

  pass_words : (edge : ℕ) (m : Memory) → HoldsWords m → LeavesWords (pass p input edge m)
  pass_words edge m words = grind (arith, kind_words m)

  from_words : (x : PassState) (mark : Mark) → HoldsWords x.memory → HoldsWords (passed_from p input x mark).memory
  from_words x Running words = after_words x (line_at p x.edge) (pass p input x.edge x.memory) words (pass_words x.edge x.memory words)
  from_words x Ended words = words
  from_words x (Trapped trap line) words = words

  pub passes_words : (n : ℕ) → HoldsWords (first_memory p) → HoldsWords (passes p input n).memory
  passes_words zero first = first
  passes_words (suc n) first = from_words (passes p input n) (passes p input n).mark (passes_words n first)
