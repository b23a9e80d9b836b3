-- Runs that are made step after step.
use Rattle.std.proofs.Common.{◌≡◌, ℕ, zero, suc, ◌+◌, ◌-◌, ◌<◌, ◌≤◌, ℤ, List, [], ◌++◌, Option, refl, sym, ap, subst, ◌∙◌, ◌⊎◌, ⊎_elim, append-nil, arith}
use Rattle.std.specs.Io.KnownBytes.{Appends}
use Rattle.std.proofs.KnownBytes.{Appends-trans}
use Rattle.df_io.specs.Write.{AppendsPrefix}
use Rattle.df_io.proofs.Prefixes.{AppendsPrefix-after, AppendsPrefix-longer}
use Rattle.f77_meaning.specs.declared.stepper.Stepped.{Stepped}
use Rattle.f77_meaning.specs.declared.stepper.Stepper.{Stepper}
use Rattle.f77_meaning.specs.Stepper.{input_of, last_line, program_of, state_of, told_mark, told_text}
use Rattle.f77_tree.specs.declared.programs.Program.{Program}
use Rattle.f77_tree.specs.Prefixes.{IsPrefix}
use Rattle.f77_tree.specs.Run.{Mark, Running, Ended, Trapped, State, out, source, step}
use Rattle.form_jobs.specs.declared.run.RunEnd.{RunEnd}
use Rattle.form_jobs.specs.DueForms.{MakesSteps}
use Rattle.form_jobs.specs.Stopping.{IsBrokenOff, IsWritten, end_by}

module _ (p : Program) (input : List ℤ) (limit : ℕ) where
  abbrev mark_at : ℕ → Mark
  mark_at n = (source p input n).mark

  -- the run goes on before so many steps
  abbrev pub GoesOn : (n : ℕ) → Type 0
  GoesOn n = (m : ℕ) → m < n → mark_at m ≡ Running

  pub goes_more : (n : ℕ) → GoesOn n → mark_at n ≡ Running → GoesOn (suc n)
  goes_more n going is m less =
      ⊎_elim
      (λ (below : m < n). going m below)
      (λ (same : m ≡ n). subst (λ k. mark_at k ≡ Running) (sym same) is)
      (below_or_at m n less)
    where
      below_or_at : (m n : ℕ) → m < suc n → (m < n) ⊎ (m ≡ n)
      below_or_at m n less = grind (arith, less)

  -- ---- where it stops

  record StopsLater (n : ℕ) : Type 0 where
    pub steps : ℕ
    pub made : MakesSteps p input limit steps
    pub later : n ≤ steps

  stops_in : (left n : ℕ) → n + left ≡ limit → GoesOn n → StopsLater n
  stops_in zero n sum going = record {
    steps = n;
    made = record { most = omega (arith, sum); before = going; last = λ _. omega (arith, sum) };
    later = omega arith;
  }
  stops_in (suc left) n sum going = on (mark_at n) refl (λ is. stops_in left (suc n) (omega (arith, sum)) (goes_more n going is))
    where
      on : (x : Mark) → mark_at n ≡ x → (mark_at n ≡ Running → StopsLater (suc n)) → StopsLater n
      on Running is more =
          let rest = more is in
          let after = rest.later in
          record { steps = rest.steps; made = rest.made; later = omega (arith, after) }
      on Ended is more = record {
        steps = n;
        made = record { most = omega (arith, sum); before = going; last = λ runs. let e : Ended ≡ Running = sym is ∙ runs in absurd cc };
        later = omega arith;
      }
      on (Trapped trap line) is more = record {
        steps = n;
        made = record { most = omega (arith, sum); before = going; last = λ runs. let e : Trapped trap line ≡ Running = sym is ∙ runs in absurd cc };
        later = omega arith;
      }

  stops_later : (n : ℕ) → n ≤ limit → GoesOn n → StopsLater n
  stops_later n within going = stops_in (limit - n) n (omega (arith, within)) going

  -- ---- one step more

  abbrev pub Grows : Type 0
  Grows = (n k : ℕ) → IsPrefix (out p input n) (out p input (k + n))

  -- some of what so many steps write was written
  pub broken_off : Grows → (n : ℕ) (old new : Option (List ℕ)) → n ≤ limit → GoesOn n → AppendsPrefix old new (out p input n) → IsBrokenOff p input limit old new
  broken_off grows n old new within going prefix =
      let stop = stops_later n within going in
      let after = stop.later in
      let more = stop.steps - n in
      let sum : more + n ≡ stop.steps = omega (arith, after) in
      let whole : IsPrefix (out p input n) (out p input stop.steps) = subst (λ k. IsPrefix (out p input n) (out p input k)) sum (grows n more) in
      record {
        steps = stop.steps;
        made = stop.made;
        prefix = subst (AppendsPrefix old new) (sym whole.is) (AppendsPrefix-longer old new (out p input n) whole.more prefix);
      }

-- ---- a stepper and a sink

-- After so many steps a run goes on; what it prints was written, and no count of faults fell.
pub record IsGoing (p : Program) (input : List ℤ) (limit made : ℕ) (s : Stepper) (old new : Option (List ℕ)) (faults_old faults_new : ℕ) : Type 0 where
  pub program : program_of s ≡ p
  pub words : input_of s ≡ input
  pub state : state_of s (out p input made) ≡ source p input made
  pub going : GoesOn p input limit (made + 1)
  pub within : made ≤ limit
  pub written : Appends old new (out p input made)
  pub later : faults_old ≤ faults_new

-- what a step tells
pub record IsNextStep (p : Program) (input : List ℤ) (made : ℕ) (s : Stepper) (told : Stepped) : Type 0 where
  pub state : state_of s (out p input (made + 1)) ≡ source p input (made + 1)
  pub text : out p input (made + 1) ≡ out p input made ++ told_text told (last_line s)
  pub mark : (source p input (made + 1)).mark ≡ told_mark told

pub next_step : (p : Program) (input : List ℤ) (made : ℕ) (s t : Stepper) (told : Stepped) → program_of s ≡ p → input_of s ≡ input → state_of s (out p input made) ≡ source p input made
    → ((text : List ℕ) → step (program_of s) (input_of s) (state_of s text) ≡ state_of t (text ++ told_text told (last_line t))) → (state_of t []).mark ≡ told_mark told → IsNextStep p input made t told
next_step p input made s t told program words state steps mark =
    let text = out p input made in
    let next : made + 1 ≡ suc made = omega arith in
    let from_s : step p input (state_of s text) ≡ step (program_of s) (input_of s) (state_of s text) =
    ap (λ (q : Program). step q input (state_of s text)) (sym program) ∙ ap (λ (xs : List ℤ). step (program_of s) xs (state_of s text)) (sym words) in
    let is : source p input (made + 1) ≡ state_of t (text ++ told_text told (last_line t)) =
    ap (source p input) next ∙ ap (step p input) (sym state) ∙ from_s ∙ steps text in
    let same : out p input (made + 1) ≡ text ++ told_text told (last_line t) = ap (λ (x : State). x.out) is in
    record {
      state = ap (state_of t) same ∙ sym is;
      text = same;
      mark = ap (λ (x : State). x.mark) is ∙ mark;
    }

module _ (p : Program) (input : List ℤ) (limit made : ℕ) (s : Stepper) (old mid : Option (List ℕ)) (faults_old faults_mid : ℕ) (inv : IsGoing p input limit made s old mid faults_old faults_mid) (less : made < limit) (t : Stepper) where
  within_limit : made + 1 ≤ limit
  within_limit = omega (arith, less)

  -- the run stops at this step
  pub stopped_here : (told : Stepped) (end : RunEnd) → IsNextStep p input made t told → (told_mark told ≡ Running → ⊥) → told_text told (last_line t) ≡ [] → end ≡ end_by (told_mark told) → IsWritten p input limit end old mid
  stopped_here told end is stops no_text same = record {
    steps = made + 1;
    made = record { most = within_limit; before = inv.going; last = λ runs. absurd (stops (sym is.mark ∙ runs)) };
    ended = same ∙ ap end_by (sym is.mark);
    written = subst (Appends old mid) (sym (is.text ∙ ap (λ (bytes : List ℕ). out p input made ++ bytes) no_text ∙ append-nil (out p input made))) inv.written;
  }

  going_more : (told : Stepped) → IsNextStep p input made t told → told_mark told ≡ Running → GoesOn p input limit (made + 1 + 1)
  going_more told is runs =
      let next : suc (made + 1) ≡ made + 1 + 1 = omega arith in
      subst (GoesOn p input limit) next (goes_more p input limit (made + 1) inv.going (is.mark ∙ runs))

  -- it goes on, and writes nothing at this step
  pub moved_on : (told : Stepped) → IsNextStep p input made t told → told_mark told ≡ Running → told_text told (last_line t) ≡ [] → program_of t ≡ program_of s → input_of t ≡ input_of s
      → IsGoing p input limit (made + 1) t old mid faults_old faults_mid
  moved_on told is runs no_text program words = record {
    program = program ∙ inv.program;
    words = words ∙ inv.words;
    state = is.state;
    going = going_more told is runs;
    within = within_limit;
    written = subst (Appends old mid) (sym (is.text ∙ ap (λ (bytes : List ℕ). out p input made ++ bytes) no_text ∙ append-nil (out p input made))) inv.written;
    later = inv.later;
  }

  module _ (told : Stepped) (bytes : List ℕ) (new : Option (List ℕ)) (is : IsNextStep p input made t told) (same : bytes ≡ told_text told (last_line t)) where
    line_is : out p input made ++ bytes ≡ out p input (made + 1)
    line_is = ap (λ (line : List ℕ). out p input made ++ line) same ∙ sym is.text

    -- it goes on, and the line of this step was written
    pub line_on : (faults_new : ℕ) → told_mark told ≡ Running → program_of t ≡ program_of s → input_of t ≡ input_of s → Appends mid new bytes → faults_mid ≤ faults_new
        → IsGoing p input limit (made + 1) t old new faults_old faults_new
    line_on faults_new runs program words now later =
        let before = inv.later in
        record {
          program = program ∙ inv.program;
          words = words ∙ inv.words;
          state = is.state;
          going = going_more told is runs;
          within = within_limit;
          written = subst (Appends old new) line_is (Appends-trans old mid new (out p input made) bytes inv.written now);
          later = omega (arith, before, later);
        }

    -- the sink failed at the line of this step
    pub fault_at_line : Grows p input limit → AppendsPrefix mid new bytes → IsBrokenOff p input limit old new
    fault_at_line grows prefix =
        broken_off p input limit grows (made + 1) old new within_limit inv.going
        (subst (AppendsPrefix old new) line_is (AppendsPrefix-after old mid new (out p input made) bytes inv.written prefix))
