-- What holds in each state of a run: what the beginning has and each executable keeps.
use Rattle.std.proofs.Common.{◌≡◌, ℕ, zero, suc, ◌+◌, ◌-◌, ℤ, pos, List, [], ◌∷◌, length, All, Contains, Option, Some, None, slice_get, slice_index, refl, ◌∙◌, length-set, arith}
use Rattle.std.proofs.lemmas.List.{length-replicate}
use Rattle.std.proofs.lemmas.List.Elements.{All-append, All-contains}
use Rattle.op_table.specs.Trips.{trip_count}
use Rattle.f77_tree.specs.declared.programs.Exec.{Exec}
use Rattle.f77_tree.specs.declared.programs.ExecKind.{ExecKind}
use Rattle.f77_tree.specs.declared.programs.ExecKind.TheVariants.{Assign, Print, Pass, Test, Sign, Pick, DoStart, DoNext, End}
use Rattle.f77_tree.specs.declared.programs.Program.{Program}
use Rattle.f77_tree.specs.CanRun.{CanRun, CanExecute, IsNext}
use Rattle.f77_tree.specs.Control.{successors}
use Rattle.f77_tree.specs.Execution.{Memory, Outcome, Goes, Stops, Ends, outcome, words_taken, by_sign, by_number}
use Rattle.f77_tree.specs.Steps.{IfGoes, IsMemoryOf}
use Rattle.f77_tree.specs.Line.{line_of}
use Rattle.f77_tree.specs.Run.{Mark, Running, Ended, Trapped, State, after, executed_at, step_from, step, first_memory, source}
use Rattle.f77_tree.specs.Value.{value, place, place_of}
use Rattle.f77_tree.proofs.AllLemmas.{All-nil, All-cons}
use Rattle.f77_tree.proofs.Outcomes.{assigned-goes, printed-goes, branched-goes, begun-goes, outcome-successor, map-goes}
use Rattle.f77_tree.proofs.Taking.{taken_within}

module _ (p : Program) (input : List ℤ) (P : ℕ → Memory → Type 0)
    (keeps : (k : ℕ) (exec : Exec) (m : Memory) → slice_get p.execs k ≡ Some exec → P k m → IfGoes (outcome p.names input m exec.kind) (λ next new text. P next new)) where
  after-keeps : (x : State) (line : ℕ) (o : Outcome) → P x.position x.memory → IfGoes o (λ next new text. P next new) → P (after x line o).position (after x line o).memory
  after-keeps x line (Goes next new text) holds so = so
  after-keeps x line (Stops trap) holds so = holds
  after-keeps x line Ends holds so = holds

  executed-keeps : (x : State) (exec : Option Exec) → slice_get p.execs x.position ≡ exec → P x.position x.memory → P (executed_at p input x exec).position (executed_at p input x exec).memory
  executed-keeps x None at holds = holds
  executed-keeps x (Some exec) at holds = after-keeps x exec.line (outcome p.names input x.memory exec.kind) holds (keeps x.position exec x.memory at holds)

  step_from-keeps : (x : State) (mark : Mark) → P x.position x.memory → P (step_from p input x mark).position (step_from p input x mark).memory
  step_from-keeps x Running holds = executed-keeps x (slice_get p.execs x.position) refl holds
  step_from-keeps x Ended holds = holds
  step_from-keeps x (Trapped trap line) holds = holds

  -- what each executable keeps is kept by a step
  pub step-keeps : (x : State) → P x.position x.memory → P (step p input x).position (step p input x).memory
  step-keeps x holds = step_from-keeps x x.mark holds

  -- and what holds at the beginning too holds in each state of the run
  pub source-keeps : P 0 (first_memory p) → (n : ℕ) → P (source p input n).position (source p input n).memory
  source-keeps first zero = first
  source-keeps first (suc n) = step-keeps (source p input n) (source-keeps first n)

-- ---- where a run is

-- the successors of an executable that can run are executables
successors-exist : (p : Program) (kind : ExecKind) → CanExecute p kind → All (IsNext p) (successors kind)
successors-exist p (Assign target e next) can = All-cons (IsNext p) next [] can.2 (All-nil (IsNext p))
successors-exist p (Print items next) can = All-cons (IsNext p) next [] can.1 (All-nil (IsNext p))
successors-exist p (Pass next) can = All-cons (IsNext p) next [] can (All-nil (IsNext p))
successors-exist p (Test cond if_true if_false) can = All-cons (IsNext p) if_true (if_false ∷ []) can.1 (All-cons (IsNext p) if_false [] can.2 (All-nil (IsNext p)))
successors-exist p (Sign e neg equal pos') can = All-cons (IsNext p) neg (equal ∷ pos' ∷ []) can.1 (All-cons (IsNext p) equal (pos' ∷ []) can.2 (All-cons (IsNext p) pos' [] can.3 (All-nil (IsNext p))))
successors-exist p (Pick e targets other) can = All-append (IsNext p) targets (other ∷ []) can.1 (All-cons (IsNext p) other [] can.2 (All-nil (IsNext p)))
successors-exist p (DoStart loop_no var first last step body exit) can = All-cons (IsNext p) body (exit ∷ []) can.0.body_next (All-cons (IsNext p) exit [] can.0.exit_next (All-nil (IsNext p)))
successors-exist p (DoNext loop_no var body exit) can = All-cons (IsNext p) body (exit ∷ []) can.body_next (All-cons (IsNext p) exit [] can.exit_next (All-nil (IsNext p)))
successors-exist p End can = All-nil (IsNext p)

-- an executable that can run goes on to an executable
pub goes-to_exec : (p : Program) (input : List ℤ) (m : Memory) (kind : ExecKind) → CanExecute p kind → IfGoes (outcome p.names input m kind) (λ next new text. IsNext p next)
goes-to_exec p input m kind can =
    map-goes (outcome p.names input m kind) (λ next new text. Contains (successors kind) next) (λ next new text. IsNext p next)
    (λ next new text among. All-contains (IsNext p) (successors kind) next (successors-exist p kind can) among)
    (outcome-successor p.names input m kind)

-- in each state of a run of a program that can run, the position is that of an executable
pub source-position : (p : Program) (input : List ℤ) (n : ℕ) → CanRun p → IsNext p (source p input n).position
source-position p input n can = source-keeps p input (λ k m. IsNext p k) (λ k exec m at holds. goes-to_exec p input m exec.kind (can.executes k exec at)) can.begins n

-- ---- sizes

-- an executable keeps the sizes, and takes no more data than there is
pub goes-memory : (p : Program) (input : List ℤ) (m : Memory) (kind : ExecKind) → IsMemoryOf p input m → IfGoes (outcome p.names input m kind) (λ next new text. IsMemoryOf p input new)
goes-memory p input m (Assign target e next) is =
    let word = slice_get input m.taken in
    assigned-goes (λ to new text. IsMemoryOf p input new) m next (m.taken + words_taken e) (place p.names m.store word target) (value p.names m.store word e)
    (λ k z at given. record {
      words = length-set m.store k z ∙ is.words;
      counts = is.counts;
      steps = is.steps;
      taken = taken_within p.names m.store input m.taken e z is.taken given;
    })
goes-memory p input m (Print items next) is = printed-goes (λ to new text. IsMemoryOf p input new) m next (line_of p.names m.store items) (λ text line. is)
goes-memory p input m (Pass next) is = is
goes-memory p input m (Test cond if_true if_false) is = branched-goes (λ to new text. IsMemoryOf p input new) m _ (value p.names m.store None cond) (λ z given. is)
goes-memory p input m (Sign e neg equal pos') is = branched-goes (λ to new text. IsMemoryOf p input new) m (by_sign neg equal pos') (value p.names m.store None e) (λ z given. is)
goes-memory p input m (Pick e targets other) is = branched-goes (λ to new text. IsMemoryOf p input new) m (by_number targets other (pos (length targets))) (value p.names m.store None e) (λ z given. is)
goes-memory p input m (DoStart loop_no var first last step body exit) is =
    begun-goes (λ to new text. IsMemoryOf p input new) m loop_no (place_of p.names var) body exit (value p.names m.store None first) (value p.names m.store None last) (value p.names m.store None step)
    (λ a b c is_a is_b is_c some. record {
      words = length-set m.store (place_of p.names var) a ∙ is.words;
      counts = length-set m.counts loop_no (trip_count a b c) ∙ is.counts;
      steps = length-set m.steps loop_no c ∙ is.steps;
      taken = is.taken;
    })
goes-memory p input m (DoNext loop_no var body exit) is = record {
  words = length-set m.store (place_of p.names var) _ ∙ is.words;
  counts = length-set m.counts loop_no (slice_index m.counts loop_no - 1) ∙ is.counts;
  steps = is.steps;
  taken = is.taken;
}
goes-memory p input m End is = tt

pub first-memory : (p : Program) (input : List ℤ) → CanRun p → IsMemoryOf p input (first_memory p)
first-memory p input can = record {
  words = can.initial;
  counts = length-replicate p.loops 0;
  steps = length-replicate p.loops (pos 0);
  taken = omega arith;
}

-- in each state of a run of a program that can run, the memory has the sizes of the program
pub source-memory : (p : Program) (input : List ℤ) (n : ℕ) → CanRun p → IsMemoryOf p input (source p input n).memory
source-memory p input n can = source-keeps p input (λ k m. IsMemoryOf p input m) (λ k exec m at is. goes-memory p input m exec.kind is) (first-memory p input can) n
