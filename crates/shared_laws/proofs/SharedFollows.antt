-- The runs of a flat program and of its shared form, step by step.
use Rattle.std.proofs.Common.{◌≡◌, ℕ, zero, suc, ◌+◌, ◌-◌, ◌<◌, ◌≤◌, ℤ, pos, inl, inr, ⊎_elim, Bool, true, false, List, ◌++◌, length, replicate, Option, Some, None, refl, sym, ap, subst, ◌∙◌, arith, length-append}
use Rattle.std.specs.Prelude.{slice_get, slice_index, unwrap_or, if◌then◌else◌}
use Rattle.std.proofs.lemmas.Bool.{cases_lt}
use Rattle.std.proofs.lemmas.List.{length-replicate}
use Rattle.alias_classes.specs.Classes.{ClassTable}
use Rattle.f77_tree.specs.declared.programs.Exec.{Exec}
use Rattle.f77_tree.specs.declared.programs.ExecKind.{ExecKind}
use Rattle.f77_tree.specs.declared.programs.Program.{Program}
use Rattle.f77_tree.specs.CanRun.{CanExecute}
use Rattle.f77_tree.specs.Execution.{Memory, Outcome, Goes, Stops, Ends, outcome}
use Rattle.f77_tree.specs.Loops.{begun, begun_in, do_start, Loop}
use Rattle.f77_tree.specs.Run.{Mark, Running, Ended, Trapped, State, after, source, step}
use Rattle.f77_tree.specs.Steps.{IfGoes, IsMemoryOf, HasRoomFor, AgreeFor, AreAlike, ChangeAlike, KeepsRest}
use Rattle.f77_tree.specs.Value.{word_at}
use Rattle.f77_tree.specs.WellFormed.{IsWellFormed}
use Rattle.f77_tree.proofs.RunInvariants.{goes-memory}
use Rattle.f77_tree.proofs.RunLaws.{source-ended, source-trapped, step-ended, step-running, step-trapped}
use Rattle.op_table.specs.declared.Trap.{Trap}
use Rattle.cfg_build.specs.Flow.{flow}
use Rattle.flat_programs.specs.declared.statements.Flat.{Flat}
use Rattle.flat_programs.specs.declared.statements.Flat.TheVariants.{Mark as MarkHere, Assignment, Output, LogicalIf, ArithmeticIf, ComputedGoTo, DoLoop, Jump, Finish}
use Rattle.flat_programs.specs.declared.statements.FlatLine.{FlatLine}
use Rattle.flat_programs.specs.Executables.{executables, first_of, following, increment, leading}
use Rattle.flat_programs.specs.FlatForm.{AreStatementsOf}
use Rattle.flat_programs.specs.Marks.{is_end, is_loop, loop_at, loop_count, loop_to, mark_at}
use Rattle.shared_laws.proofs.FlatPlaces.{belongs, with_line, Belongs}
use Rattle.shared_laws.proofs.ListPlaces.{count-front, count-next, item_at}
use Rattle.list_laws.proofs.Counts.{bit}
use Rattle.redundancy.specs.Available.{Availability, IsAvailability}
use Rattle.shared_forms.specs.Numbered.{number_of, IsSharedNumber}
use Rattle.shared_forms.specs.Shared.{due, shared, shared_program}
use Rattle.shared_laws.specs.SharedRuns.{shared_steps, temporary_word}
use Rattle.shared_laws.proofs.FrontRuns.{word-past}
use Rattle.shared_laws.proofs.OwnPasses.{none-before}
use Rattle.shared_laws.proofs.ReplacedOutcomes.{SameStep}
use Rattle.shared_laws.proofs.SharedExecutables.{loops-same}
use Rattle.shared_laws.proofs.SharedSteps.{ready-after, cand, Stands, IsAlike, InStep, IsReady, StepLaws}
use Rattle.shared_forms.proofs.TemporaryTable.{slice_get-left}

-- ---- a program has no more DOs than its statements tell

begun-led : (flat : List FlatLine) (place : ℕ) (l : FlatLine) (stmt : Flat) (loop : Loop) → slice_get flat place ≡ Some l → l.stmt ≡ stmt → begun (leading flat place stmt) ≡ Some loop → loop.number < loop_count flat
begun-led flat place l (DoLoop end var first last step) loop found is at =
    let t : FlatLine → Bool = λ y. is_loop y.stmt in
    let number : loop_at flat place ≡ loop.number = cc in
    let next = count-next t flat place l found in
    let one : bit (t l) ≡ 1 = ap (λ (s : Flat). bit (is_loop s)) is in
    let most = count-front t flat (place + 1) in
    omega (arith, number, next, one, most)
begun-led flat place l MarkHere loop found is at = absurd cc
begun-led flat place l (Assignment target given) loop found is at = absurd cc
begun-led flat place l (Output items) loop found is at = absurd cc
begun-led flat place l (LogicalIf cond target) loop found is at = absurd cc
begun-led flat place l (ArithmeticIf given below at' above) loop found is at = absurd cc
begun-led flat place l (ComputedGoTo given targets) loop found is at = absurd cc
begun-led flat place l (Jump target) loop found is at = absurd cc
begun-led flat place l Finish loop found is at = absurd cc

begun-choice : (b : Bool) (a kind : ExecKind) (loop : Loop) → begun a ≡ None → (if b then Some a else None) ≡ Some kind → begun kind ≡ Some loop → ⊥
begun-choice true a kind loop none is at = let e : a ≡ kind = cc in let both : None ≡ Some loop = sym none ∙ ap begun e ∙ at in absurd cc
begun-choice false a kind loop none is at = let e : None ≡ Some kind = is in absurd cc

begun-followed : (flat : List FlatLine) (place : ℕ) (stmt : Flat) (kind : ExecKind) (loop : Loop) → following flat place stmt ≡ Some kind → begun kind ≡ Some loop → ⊥
begun-followed flat place MarkHere kind loop is at = begun-choice (is_end flat (mark_at flat place)) (increment flat (loop_to flat (mark_at flat place)) (first_of flat (place + 1))) kind loop refl is at
begun-followed flat place (LogicalIf cond target) kind loop is at = begun-choice true _ kind loop refl is at
begun-followed flat place (Assignment target given) kind loop is at = absurd cc
begun-followed flat place (Output items) kind loop is at = absurd cc
begun-followed flat place (ArithmeticIf given below at' above) kind loop is at = absurd cc
begun-followed flat place (ComputedGoTo given targets) kind loop is at = absurd cc
begun-followed flat place (DoLoop end var first last step) kind loop is at = absurd cc
begun-followed flat place (Jump target) kind loop is at = absurd cc
begun-followed flat place Finish kind loop is at = absurd cc

begun-at : (flat : List FlatLine) (k : ℕ) (o : Option Exec) (loop : Loop) → slice_get (executables flat) k ≡ o → begun_in o ≡ Some loop → loop.number < loop_count flat
begun-at flat k None loop at is = let e : None ≡ Some loop = is in absurd cc
begun-at flat k (Some exec) loop at is =
    let b : Belongs flat exec = belongs flat k exec at in
    ⊎_elim
    (λ h. begun-led flat b.place b.l b.l.stmt loop b.is refl (ap begun h ∙ is))
    (λ h. absurd (begun-followed flat b.place b.l.stmt exec.kind loop h is))
    b.which

loops-most : (q : Program) (flat : List FlatLine) → IsWellFormed q → AreStatementsOf q flat → q.loops ≤ loop_count flat
loops-most q flat formed statements =
    ⊎_elim
    (λ (some : 0 < q.loops).
    let n = q.loops - 1 in
    let is = formed.execs.loops_nest.each n (omega (arith, some)) in
    let k = do_start q.execs n in
    let at : begun_in (slice_get (executables flat) k) ≡ Some is.loop = ap (λ (es : List Exec). begun_in (slice_get es k)) statements.execs ∙ is.begins in
    let less = begun-at flat k (slice_get (executables flat) k) is.loop refl at in
    let number = is.number in
    omega (arith, less, number, some))
    (λ (none : q.loops ≤ 0). omega (arith, none))
    (cases_lt 0 q.loops)

-- ---- lists of zeros

zeros-index : (n k : ℕ) → slice_index (replicate n 0) k ≡ 0
zeros-index zero k = refl
zeros-index (suc n) zero = refl
zeros-index (suc n) (suc k) = zeros-index n k

zeros-word : (n k : ℕ) → word_at (replicate n (pos 0)) k ≡ pos 0
zeros-word zero k = refl
zeros-word (suc n) zero = refl
zeros-word (suc n) (suc k) = zeros-word n k

module _ (q : Program) (c : ClassTable) (a : Availability) (flat : List FlatLine) (input : List ℤ) (formed : IsWellFormed q) (available : IsAvailability q (flow q.execs) c a) (statements : AreStatementsOf q flat) (laws : StepLaws q c a flat input) where
  abbrev r : Program
  r = shared_program q a (number_of a) flat

  abbrev x : (t : ℕ) → State
  x t = source q input t

  abbrev tword : (n : ℕ) → ℕ
  tword n = temporary_word q a (number_of a) n

  abbrev St : ℕ → ℕ → Type 0
  St = Stands q c a flat input formed available statements laws

  abbrev Alike : State → State → Type 0
  Alike = IsAlike q c a flat input formed available statements laws

  abbrev pub Step : (t : ℕ) → State → Type 0
  Step = InStep q c a flat input formed available statements laws

  -- ---- one step

  record Landing (kind : ExecKind) (mx my : Memory) (next next' : ℕ) (new new' : Memory) (text text' : List ℕ) : Type 0 where
    stands : St next next'
    texts : text ≡ text'
    changed : ChangeAlike q.names input kind mx my new new'
    rest : KeepsRest q.names input kind my new'

  abbrev Landed : ExecKind → (mx my : Memory) → Outcome → Outcome → Type 0
  Landed kind mx my (Goes next new text) (Goes next' new' text') = Landing kind mx my next next' new new' text text'
  Landed kind mx my (Stops trap) (Stops trap') = trap ≡ trap'
  Landed kind mx my Ends Ends = Unit {0}
  Landed kind mx my _ _ = ⊥

  landed : (kind : ExecKind) (mx my : Memory) (ox on os : Outcome) → AreAlike q.names input kind mx my ox on → SameStep St on os → IfGoes on (λ next new text. KeepsRest q.names input kind my new) → Landed kind mx my ox os
  landed kind mx my (Goes next new text) (Goes next1 new1 text1) (Goes next2 new2 text2) alike same rest =
      record {
        stands = subst (λ k. St k next2) (sym alike.0) same.0;
        texts = alike.1 ∙ same.2;
        changed = subst (λ (m : Memory). ChangeAlike q.names input kind mx my new m) same.1 alike.2;
        rest = subst (λ (m : Memory). KeepsRest q.names input kind my m) same.1 rest;
      }
  landed kind mx my (Goes next new text) (Goes next1 new1 text1) (Stops trap2) alike same rest = absurd same
  landed kind mx my (Goes next new text) (Goes next1 new1 text1) Ends alike same rest = absurd same
  landed kind mx my (Goes next new text) (Stops trap1) os alike same rest = absurd alike
  landed kind mx my (Goes next new text) Ends os alike same rest = absurd alike
  landed kind mx my (Stops trap) (Goes next1 new1 text1) os alike same rest = absurd alike
  landed kind mx my (Stops trap) (Stops trap1) (Goes next2 new2 text2) alike same rest = absurd same
  landed kind mx my (Stops trap) (Stops trap1) (Stops trap2) alike same rest = alike ∙ same
  landed kind mx my (Stops trap) (Stops trap1) Ends alike same rest = absurd same
  landed kind mx my (Stops trap) Ends os alike same rest = absurd alike
  landed kind mx my Ends (Goes next1 new1 text1) os alike same rest = absurd alike
  landed kind mx my Ends (Stops trap1) os alike same rest = absurd alike
  landed kind mx my Ends Ends (Goes next2 new2 text2) alike same rest = absurd same
  landed kind mx my Ends Ends (Stops trap2) alike same rest = absurd same
  landed kind mx my Ends Ends Ends alike same rest = tt

  -- a state in which both runs have stopped
  stopped : (t : ℕ) (y : State) → Alike (x t) y → ((x t).mark ≡ Running → ⊥) → Step t y
  stopped t y alike stops = record { alike = alike; position = λ runs. absurd (stops runs); holds = λ runs. absurd (stops runs) }

  module _ (t line : ℕ) (kind kind' : ExecKind) (y : State) (ready : IsReady q c a flat input formed available statements laws t line kind kind' y) (runs : (x t).mark ≡ Running) where
    can : CanExecute q kind
    can = laws.can.executes (x t).position (with_line line kind) ready.here

    room-before : HasRoomFor q (x t).memory
    room-before = let size = laws.memories t in record { words = let e = size.words in omega (arith, e); counts = let e = size.counts in omega (arith, e); steps = let e = size.steps in omega (arith, e) }

    room-after : HasRoomFor q y.memory
    room-after =
        let size = ready.alike.size in
        let most = loops-most q flat formed statements in
        let loops = loops-same q a flat in
        record {
          words = let e = size.words in omega (arith, e);
          counts = let e = size.counts in omega (arith, e, most, loops);
          steps = let e = size.steps in omega (arith, e, most, loops);
        }

    agree : AgreeFor q.names kind (x t).memory y.memory
    agree =
        record {
          store = λ word may. sym (ready.alike.words word (laws.values.reads kind word can may));
          counts = λ k reads. ready.alike.counts k;
          steps = λ k reads. ready.alike.steps k;
          taken = λ reads. ready.alike.taken;
        }

    both : Landed kind (x t).memory y.memory (outcome q.names input (x t).memory kind) (outcome r.names input y.memory kind')
    both =
        landed kind (x t).memory y.memory (outcome q.names input (x t).memory kind) (outcome q.names input y.memory kind) (outcome r.names input y.memory kind')
        (laws.alike (x t).memory y.memory kind room-before room-after can agree) ready.same (laws.rest y.memory kind)

    next-old : x (suc t) ≡ after (x t) line (outcome q.names input (x t).memory kind)
    next-old = step-running q input (x t) (with_line line kind) runs ready.here

    next-new : step r input y ≡ after y line (outcome r.names input y.memory kind')
    next-new = step-running r input y (with_line line kind') (ready.alike.mark ∙ runs) ready.there

    temporary-stays : (n : ℕ) (new : Memory) → IsSharedNumber q a n → KeepsRest q.names input kind y.memory new → word_at new.store (tword n) ≡ word_at y.memory.store (tword n)
    temporary-stays n new is rest =
        let past = word-past q a n is in
        ap (λ (o : Option ℤ). unwrap_or o (pos 0)) (rest.store (tword n) (λ change. let less = laws.changes y.memory kind (tword n) can change in omega (arith, less, past)))

    land-by : (ox os : Outcome) → x (suc t) ≡ after (x t) line ox → Landed kind (x t).memory y.memory ox os → IfGoes os (λ next new text. IsMemoryOf r input new) → Step (suc t) (after y line os)
    land-by (Goes next new text) (Goes next' new' text') is l size =
        let alike = ready.alike in
        record {
          alike = subst (λ (z : State). Alike z (after y line (Goes next' new' text'))) (sym is) (record {
            words = λ word less. sym (l.changed.store word (inr (sym (alike.words word less))));
            counts = λ k. l.changed.counts k (inr (alike.counts k));
            steps = λ k. l.changed.steps k (inr (alike.steps k));
            taken = l.changed.taken alike.taken;
            size = size;
            out = ap (λ (bytes : List ℕ). bytes ++ text') alike.out ∙ ap (λ (bytes : List ℕ). (x t).out ++ bytes) (sym l.texts);
            mark = alike.mark;
          });
          position = λ goes. subst (λ (z : State). St z.position next') (sym is) l.stands;
          holds = λ goes n shared_n kept. temporary-stays n new' shared_n l.rest ∙ ready.holds goes n shared_n kept;
        }
    land-by (Stops trap) (Stops trap') is same size =
        let alike = ready.alike in
        stopped (suc t) (after y line (Stops trap')) (subst (λ (z : State). Alike z (after y line (Stops trap'))) (sym is) (record {
          words = alike.words;
          counts = alike.counts;
          steps = alike.steps;
          taken = alike.taken;
          size = alike.size;
          out = alike.out;
          mark = ap (λ (e : Trap). Trapped e line) (sym same);
        }))
        (λ goes. let e : Trapped trap line ≡ Running = sym (ap (λ (z : State). z.mark) is) ∙ goes in cc)
    land-by Ends Ends is none size =
        let alike = ready.alike in
        stopped (suc t) (after y line Ends) (subst (λ (z : State). Alike z (after y line Ends)) (sym is) (record {
          words = alike.words;
          counts = alike.counts;
          steps = alike.steps;
          taken = alike.taken;
          size = alike.size;
          out = alike.out;
          mark = refl;
        }))
        (λ goes. let e : Ended ≡ Running = sym (ap (λ (z : State). z.mark) is) ∙ goes in cc)
    land-by (Goes next new text) (Stops trap') is none size = absurd none
    land-by (Goes next new text) Ends is none size = absurd none
    land-by (Stops trap) (Goes next' new' text') is none size = absurd none
    land-by (Stops trap) Ends is none size = absurd none
    land-by Ends (Goes next' new' text') is none size = absurd none
    land-by Ends (Stops trap') is none size = absurd none

    land : Step (suc t) (step r input y)
    land =
        subst (λ (z : State). Step (suc t) z) (sym next-new)
        (land-by (outcome q.names input (x t).memory kind) (outcome r.names input y.memory kind') next-old both (goes-memory r input y.memory kind' ready.alike.size))

  -- ---- all steps

  first-step : Step 0 (source r input 0)
  first-step =
      let size = formed.initial_count in
      let many = length (shared q a (number_of a)) in
      record {
        alike = record {
          words = λ word less. ap (λ (o : Option ℤ). unwrap_or o (pos 0)) (slice_get-left q.initial (replicate many (pos 0)) word (omega (arith, less, size)));
          counts = λ k. zeros-index q.loops k ∙ sym (zeros-index r.loops k);
          steps = λ k. zeros-word q.loops k ∙ sym (zeros-word r.loops k);
          taken = refl;
          size = record {
            words = length-append q.initial (replicate many (pos 0)) ∙ ap (λ n. n + length (replicate many (pos 0))) size ∙ ap (λ n. q.words + n) (length-replicate many (pos 0));
            counts = length-replicate r.loops 0;
            steps = length-replicate r.loops (pos 0);
            taken = omega arith;
          };
          out = refl;
          mark = refl;
        };
        position = λ runs. inl (record { place = 0; old = refl; new = refl });
        holds = λ runs n is kept. absurd (none-before q input formed.execs laws.pieces (first-exec).0 (cand q c a flat input formed available statements laws n) first-exec.1 kept);
      }
    where
      first-exec : (exec : Exec) × (slice_get q.execs (source q input 0).position ≡ Some exec)
      first-exec = item_at q.execs 0 (laws.positions 0)

  stays-old : (t : ℕ) (mark : Mark) → (x t).mark ≡ mark → (mark ≡ Running → ⊥) → x (suc t) ≡ x t
  stays-old t Running is stops = absurd (stops refl)
  stays-old t Ended is stops = step-ended q input (x t) is
  stays-old t (Trapped trap line) is stops = step-trapped q input (x t) trap line is

  stays-new : (u k : ℕ) (mark : Mark) → (source r input u).mark ≡ mark → (mark ≡ Running → ⊥) → source r input (k + u) ≡ source r input u
  stays-new u k Running is stops = absurd (stops refl)
  stays-new u k Ended is stops = source-ended r input u k is
  stays-new u k (Trapped trap line) is stops = source-trapped r input u k trap line is

  abbrev steps_of : (t : ℕ) → ℕ
  steps_of t = shared_steps q a (number_of a) input t

  next-stopped : (t : ℕ) → Step t (source r input (steps_of t)) → ((x t).mark ≡ Running → ⊥) → Step (suc t) (source r input (steps_of (suc t)))
  next-stopped t step_t stops =
      let many = length (due q a (number_of a) (x t).position) + 1 in
      let old = stays-old t (x t).mark refl stops in
      let e : many + steps_of t ≡ steps_of (suc t) = omega arith in
      let new : source r input (steps_of (suc t)) ≡ source r input (steps_of t) = ap (source r input) (sym e) ∙ stays-new (steps_of t) many (source r input (steps_of t)).mark refl (λ runs. stops (sym step_t.alike.mark ∙ runs)) in
      stopped (suc t) (source r input (steps_of (suc t)))
      (subst (λ (z : State). Alike z (source r input (steps_of (suc t)))) (sym old) (subst (λ (z : State). Alike (x t) z) (sym new) step_t.alike))
      (λ runs. stops (sym (ap (λ (z : State). z.mark) old) ∙ runs))

  next-running : (t : ℕ) → Step t (source r input (steps_of t)) → (x t).mark ≡ Running → Step (suc t) (source r input (steps_of (suc t)))
  next-running t step_t runs =
      let after_front = ready-after q c a flat input formed available statements laws t (steps_of t) step_t runs in
      let count = after_front.count in
      let e : suc after_front.steps ≡ steps_of (suc t) = omega (arith, count) in
      subst (λ n. Step (suc t) (source r input n)) e (land t after_front.line after_front.kind after_front.kind' (source r input after_front.steps) after_front.ready runs)

  next-by : (t : ℕ) (mark : Mark) → (x t).mark ≡ mark → Step t (source r input (steps_of t)) → Step (suc t) (source r input (steps_of (suc t)))
  next-by t Running is step_t = next-running t step_t is
  next-by t Ended is step_t = next-stopped t step_t (λ runs. let e : Ended ≡ Running = sym is ∙ runs in cc)
  next-by t (Trapped trap line) is step_t = next-stopped t step_t (λ runs. let e : Trapped trap line ≡ Running = sym is ∙ runs in cc)

  pub follows : (t : ℕ) → Step t (source r input (steps_of t))
  follows zero = first-step
  follows (suc t) = next-by t (x t).mark refl (follows t)
