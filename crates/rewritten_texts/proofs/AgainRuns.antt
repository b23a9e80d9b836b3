-- A program that is read again runs as the program does, but for the lines of traps.
use Rattle.std.proofs.Common.{◌≡◌, ℕ, zero, suc, ℤ, pos, List, [], ◌∷◌, ◌++◌, map, Option, Some, None, refl, sym, ap, subst, ◌∙◌, append-nil}
use Rattle.std.specs.Prelude.{replicate, slice_get}
use Rattle.op_table.specs.declared.Trap.{Trap}
use Rattle.f77_tree.specs.declared.programs.Exec.{Exec}
use Rattle.f77_tree.specs.declared.programs.ExecKind.{ExecKind}
use Rattle.f77_tree.specs.declared.programs.NameInfo.{NameInfo}
use Rattle.f77_tree.specs.declared.programs.Program.{Program}
use Rattle.f77_tree.specs.Execution.{Memory, Outcome, Goes, Stops, Ends, outcome}
use Rattle.f77_tree.specs.Run.{HasEnded, HasTrapped, Mark, PrintAlike, Reaches, State, Running, Ended, Trapped, after, executed_at, source, step_from}
use Rattle.read_back.specs.ReadAgain.{IsReadAgain, kinds_of}

-- ---- states that are the same but for the line of a trap

abbrev MarksAgree : Mark → Mark → Type 0
MarksAgree Running Running = Unit {0}
MarksAgree Ended Ended = Unit {0}
MarksAgree (Trapped trap line) (Trapped other place) = trap ≡ other
MarksAgree _ _ = ⊥

record Agree (x y : State) : Type 0 where
  position : x.position ≡ y.position
  memory : x.memory ≡ y.memory
  out : x.out ≡ y.out
  mark : MarksAgree x.mark y.mark

-- programs that run alike
record SameRuns (p q : Program) : Type 0 where
  names : p.names ≡ q.names
  initial : p.initial ≡ q.initial
  kinds : kinds_of p ≡ kinds_of q
  loops : p.loops ≡ q.loops

-- ---- one step

abbrev kind_if_any : Option Exec → Option ExecKind
kind_if_any None = None
kind_if_any (Some exec) = Some exec.kind

kind_found : (execs : List Exec) (k : ℕ) → kind_if_any (slice_get execs k) ≡ slice_get (map (λ (exec : Exec). exec.kind) execs) k
kind_found [] k = refl
kind_found (exec ∷ execs) zero = refl
kind_found (exec ∷ execs) (suc k) = kind_found execs k

after_agree : (x y : State) (line other : ℕ) (o : Outcome) → Agree x y → Agree (after x line o) (after y other o)
after_agree x y line other (Goes next memory text) agree = record { position = refl; memory = refl; out = ap (λ (xs : List ℕ). xs ++ text) agree.out; mark = agree.mark }
after_agree x y line other (Stops trap) agree = record { position = agree.position; memory = agree.memory; out = agree.out; mark = refl }
after_agree x y line other Ends agree = record { position = agree.position; memory = agree.memory; out = agree.out; mark = tt }

module _ (p q : Program) (same : SameRuns p q) (input : List ℤ) where
  outcome_same : (m n : Memory) (kind other : ExecKind) → m ≡ n → kind ≡ other → outcome q.names input n other ≡ outcome p.names input m kind
  outcome_same m n kind other memory is =
      sym (ap (λ (names : List NameInfo). outcome names input m kind) same.names
      ∙ ap (λ (x : Memory). outcome q.names input x kind) memory
      ∙ ap (λ (x : ExecKind). outcome q.names input n x) is)

  executed_agree : (x y : State) (o found : Option Exec) → kind_if_any o ≡ kind_if_any found → Agree x y → Agree (executed_at p input x o) (executed_at q input y found)
  executed_agree x y None None is agree = agree
  executed_agree x y None (Some exec) is agree = absurd cc
  executed_agree x y (Some exec) None is agree = absurd cc
  executed_agree x y (Some exec) (Some other) is agree =
      let kinds : exec.kind ≡ other.kind = cc in
      let done = outcome p.names input x.memory exec.kind in
      subst (λ (o : Outcome). Agree (after x exec.line done) (after y other.line o)) (sym (outcome_same x.memory y.memory exec.kind other.kind agree.memory kinds))
      (after_agree x y exec.line other.line done agree)

  found_same : (j k : ℕ) → j ≡ k → kind_if_any (slice_get p.execs j) ≡ kind_if_any (slice_get q.execs k)
  found_same j k is =
      ap (λ (i : ℕ). kind_if_any (slice_get p.execs i)) is
      ∙ kind_found p.execs k
      ∙ ap (λ (kinds : List ExecKind). slice_get kinds k) same.kinds
      ∙ sym (kind_found q.execs k)

  step_agree : (x y : State) (mark other : Mark) → MarksAgree mark other → Agree x y → Agree (step_from p input x mark) (step_from q input y other)
  step_agree x y Running Running marks agree = executed_agree x y (slice_get p.execs x.position) (slice_get q.execs y.position) (found_same x.position y.position agree.position) agree
  step_agree x y Ended Ended marks agree = agree
  step_agree x y (Trapped trap line) (Trapped other place) marks agree = agree
  step_agree x y Running Ended marks agree = absurd marks
  step_agree x y Running (Trapped trap line) marks agree = absurd marks
  step_agree x y Ended Running marks agree = absurd marks
  step_agree x y Ended (Trapped trap line) marks agree = absurd marks
  step_agree x y (Trapped trap line) Running marks agree = absurd marks
  step_agree x y (Trapped trap line) Ended marks agree = absurd marks

  -- ---- runs

  first_memory : (store other : List ℤ) (loops count : ℕ) → store ≡ other → loops ≡ count
      → (let m : Memory = record { store = store; counts = replicate loops 0; steps = replicate loops (pos 0); taken = 0 } in m) ≡ (let m : Memory = record { store = other; counts = replicate count 0; steps = replicate count (pos 0); taken = 0 } in m)
  first_memory store other loops count is also =
      ap (λ (words : List ℤ). let m : Memory = record { store = words; counts = replicate loops 0; steps = replicate loops (pos 0); taken = 0 } in m) is
      ∙ ap (λ (n : ℕ). let m : Memory = record { store = other; counts = replicate n 0; steps = replicate n (pos 0); taken = 0 } in m) also

  runs_agree : (n : ℕ) → Agree (source p input n) (source q input n)
  runs_agree zero = record { position = refl; memory = first_memory p.initial q.initial p.loops q.loops same.initial same.loops; out = refl; mark = tt }
  runs_agree (suc n) =
      let before = runs_agree n in
      step_agree (source p input n) (source q input n) (source p input n).mark (source q input n).mark before.mark before

  reaches_as_far : (n : ℕ) → Reaches (source q input) (source p input n).out
  reaches_as_far n = record { steps = n; rest = []; is = sym (runs_agree n).out ∙ sym (append-nil (source p input n).out) }

  ended_alike : (mark other : Mark) → MarksAgree mark other → mark ≡ Ended → other ≡ Ended
  ended_alike Ended Ended marks is = refl
  ended_alike Running other marks is = absurd cc
  ended_alike (Trapped trap line) other marks is = absurd cc
  ended_alike Ended Running marks is = absurd marks
  ended_alike Ended (Trapped trap line) marks is = absurd marks

  ends_too : HasEnded (source p input) → HasEnded (source q input)
  ends_too has = record { steps = has.steps; ended = ended_alike (source p input has.steps).mark (source q input has.steps).mark (runs_agree has.steps).mark has.ended }

  abbrev line_in : Mark → ℕ
  line_in (Trapped trap line) = line
  line_in _ = 0

  trapped_alike : (mark other : Mark) (trap : Trap) (line : ℕ) → MarksAgree mark other → mark ≡ Trapped trap line → other ≡ Trapped trap (line_in other)
  trapped_alike (Trapped found at) (Trapped other place) trap line marks is =
      let here : found ≡ trap = cc in
      ap (λ (t : Trap). Trapped t place) (sym marks ∙ here)
  trapped_alike Running other trap line marks is = absurd cc
  trapped_alike Ended other trap line marks is = absurd cc
  trapped_alike (Trapped found at) Running trap line marks is = absurd marks
  trapped_alike (Trapped found at) Ended trap line marks is = absurd marks

  traps_too : (trap : Trap) (text : List ℕ) → HasTrapped (source p input) trap text → HasTrapped (source q input) trap text
  traps_too trap text has =
      let here = runs_agree has.steps in
      record {
        steps = has.steps;
        line = line_in (source q input has.steps).mark;
        trapped = trapped_alike (source p input has.steps).mark (source q input has.steps).mark trap has.line here.mark has.trapped;
        whole = sym here.out ∙ has.whole;
      }

pub again_alike : (p q : Program) (input : List ℤ) → IsReadAgain p q → PrintAlike (source p input) (source q input)
again_alike p q input is =
    let same : SameRuns p q = record { names = is.names; initial = is.initial; kinds = is.execs; loops = is.loops } in
    let back : SameRuns q p = record { names = sym is.names; initial = sym is.initial; kinds = sym is.execs; loops = sym is.loops } in
    record {
      prefix = reaches_as_far p q same input;
      back = reaches_as_far q p back input;
      ends = (ends_too p q same input, ends_too q p back input);
      traps = λ trap text. (traps_too p q same input trap text, traps_too q p back input trap text);
    }
