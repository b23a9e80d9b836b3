-- While control is in the range of a DO, its count is at least 1.
use Rattle.std.proofs.Common.{◌≡◌, ℕ, zero, suc, ◌-◌, ◌<◌, ◌≤◌, ℤ, true, if◌then◌else◌, List, length, Contains, Some, None, slice_get, slice_index, slice_set, unwrap_or, nat_lt, ◌⊎◌, inl, inr, refl, sym, ap, subst, ◌∙◌, get_or-set_same, lt-ltb, arith}
use Rattle.std.proofs.lemmas.Bool.{cases_lt, cases_eq}
use Rattle.std.proofs.lemmas.Option.{unwrap_or-slice_get}
use Rattle.op_table.specs.Trips.{trip_count}
use Rattle.f77_tree.specs.declared.expressions.Expr.{Expr}
use Rattle.f77_tree.specs.declared.programs.Exec.{Exec}
use Rattle.f77_tree.specs.declared.programs.ExecKind.{ExecKind}
use Rattle.f77_tree.specs.declared.programs.ExecKind.TheVariants.{Assign, Print, Pass, Test, Sign, Pick, DoStart, DoNext, End}
use Rattle.f77_tree.specs.declared.programs.NameInfo.{NameInfo}
use Rattle.f77_tree.specs.declared.programs.Program.{Program}
use Rattle.f77_tree.specs.CanRun.{CanRun}
use Rattle.f77_tree.specs.Control.{successors, successors_in}
use Rattle.f77_tree.specs.Execution.{Memory, outcome}
use Rattle.f77_tree.specs.Loops.{Loop, begun, incremented, begun_in, incremented_in, do_start, do_next, InRange, IsLoop, AreLoops}
use Rattle.f77_tree.specs.Run.{source}
use Rattle.f77_tree.specs.Steps.{IfGoes, IsMemoryOf, KeepsRest}
use Rattle.f77_tree.specs.Touched.{SetsCount}
use Rattle.f77_tree.specs.Value.{value, place_of}
use Rattle.f77_tree.proofs.Keeping.{outcome-keeps}
use Rattle.f77_tree.proofs.Outcomes.{begun-goes, outcome-successor, map-goes, both-go}
use Rattle.f77_tree.proofs.RunInvariants.{goes-memory, first-memory, source-keeps}

-- ---- the test of a DO

-- the range follows, with a count that isn't 0, or the exit
abbrev Tested : (loop_no body exit : ℕ) → ℕ → Memory → Type 0
Tested loop_no body exit next new = ((next ≡ body) × (1 ≤ slice_index new.counts loop_no)) ⊎ (next ≡ exit)

tested : (body exit count now : ℕ) → now ≡ count → (((if nat_lt 0 count then body else exit) ≡ body) × (1 ≤ now)) ⊎ ((if nat_lt 0 count then body else exit) ≡ exit)
tested body exit zero now is = inr refl
tested body exit (suc count) now is =
    let some : nat_lt 0 (suc count) ≡ true = lt-ltb 0 (suc count) (omega arith) in
    inl (ap (λ b. if b then body else exit) some, omega (arith, is))

start-tested : (names : List NameInfo) (input : List ℤ) (m : Memory) (loop_no var : ℕ) (first last step : Expr) (body exit : ℕ) → loop_no < length m.counts → IfGoes (outcome names input m (DoStart loop_no var first last step body exit)) (λ next new text. Tested loop_no body exit next new)
start-tested names input m loop_no var first last step body exit lt =
    begun-goes (λ next new text. Tested loop_no body exit next new) m loop_no (place_of names var) body exit (value names m.store None first) (value names m.store None last) (value names m.store None step)
    (λ a b c is_a is_b is_c some. tested body exit (trip_count a b c) (slice_index (slice_set m.counts loop_no (trip_count a b c)) loop_no) (get_or-set_same m.counts loop_no (trip_count a b c) 0 lt))

next-tested : (names : List NameInfo) (input : List ℤ) (m : Memory) (loop_no var body exit : ℕ) → loop_no < length m.counts → IfGoes (outcome names input m (DoNext loop_no var body exit)) (λ next new text. Tested loop_no body exit next new)
next-tested names input m loop_no var body exit lt =
    let count = slice_index m.counts loop_no - 1 in
    tested body exit count (slice_index (slice_set m.counts loop_no count) loop_no) (get_or-set_same m.counts loop_no count 0 lt)

-- ---- the count of one DO

-- the DO that an executable begins or increments, if its number is n
data Sets (kind : ExecKind) (n : ℕ) : Type 0 where
  Starts : (var : ℕ) (first last step : Expr) (body exit : ℕ) → kind ≡ DoStart n var first last step body exit → Sets kind n
  Increments : (var body exit : ℕ) → kind ≡ DoNext n var body exit → Sets kind n
  Neither : (SetsCount kind n → ⊥) → Sets kind n

sets : (kind : ExecKind) (n : ℕ) → Sets kind n
sets (DoStart loop_no var first last step body exit) n = by (cases_eq loop_no n)
  where
    by : (loop_no ≡ n) ⊎ (loop_no ≡ n → ⊥) → Sets (DoStart loop_no var first last step body exit) n
    by (inl is) = Starts var first last step body exit (ap (λ k. DoStart k var first last step body exit) is)
    by (inr not) = Neither not
sets (DoNext loop_no var body exit) n = by (cases_eq loop_no n)
  where
    by : (loop_no ≡ n) ⊎ (loop_no ≡ n → ⊥) → Sets (DoNext loop_no var body exit) n
    by (inl is) = Increments var body exit (ap (λ k. DoNext k var body exit) is)
    by (inr not) = Neither not
sets (Assign target e next) n = Neither (λ s. s)
sets (Print items next) n = Neither (λ s. s)
sets (Pass next) n = Neither (λ s. s)
sets (Test cond if_true if_false) n = Neither (λ s. s)
sets (Sign e neg equal pos') n = Neither (λ s. s)
sets (Pick e targets other) n = Neither (λ s. s)
sets End n = Neither (λ s. s)

index-of-get : (xs ys : List ℕ) (k : ℕ) → slice_get xs k ≡ slice_get ys k → slice_index xs k ≡ slice_index ys k
index-of-get xs ys k same = sym (unwrap_or-slice_get xs k 0) ∙ ap (λ o. unwrap_or o 0) same ∙ unwrap_or-slice_get ys k 0

-- in the range or not
in_range : (execs : List Exec) (n k : ℕ) → InRange execs n k ⊎ (InRange execs n k → ⊥)
in_range execs n k = by (cases_lt (do_start execs n) k) (cases_lt (do_next execs n) k)
  where
    by : (do_start execs n < k) ⊎ (k ≤ do_start execs n) → (do_next execs n < k) ⊎ (k ≤ do_next execs n) → InRange execs n k ⊎ (InRange execs n k → ⊥)
    by (inr before) other = inr (λ is. let after = is.after_start in omega (arith, before, after))
    by (inl after) (inl beyond) = inr (λ is. let up_to = is.up_to_next in omega (arith, beyond, up_to))
    by (inl after) (inr up_to) = inl (record { after_start = after; up_to_next = up_to })

module _ (p : Program) (input : List ℤ) (loops : AreLoops p.execs p.loops) (n : ℕ) (known : n < p.loops) where
  abbrev Inside : ℕ → Type 0
  Inside k = InRange p.execs n k

  the_loop : IsLoop p.execs n
  the_loop = loops.each n known

  same-loop : (a b : Loop) → Some a ≡ Some b → a ≡ b
  same-loop a b is = cc

  begun-sets : (kind : ExecKind) (loop : Loop) → begun kind ≡ Some loop → SetsCount kind loop.number
  begun-sets (DoStart loop_no var first last step body exit) loop is = ap (λ (l : Loop). l.number) (same-loop _ loop is)
  begun-sets (Assign target e next) loop is = absurd cc
  begun-sets (Print items next) loop is = absurd cc
  begun-sets (Pass next) loop is = absurd cc
  begun-sets (Test cond if_true if_false) loop is = absurd cc
  begun-sets (Sign e neg equal pos') loop is = absurd cc
  begun-sets (Pick e targets other) loop is = absurd cc
  begun-sets (DoNext loop_no var body exit) loop is = absurd cc
  begun-sets End loop is = absurd cc

  module _ (k : ℕ) (exec : Exec) (m : Memory) (at : slice_get p.execs k ≡ Some exec) (is_memory : IsMemoryOf p input m) (holds : Inside k → 1 ≤ slice_index m.counts n) where
    -- in the range, the count is at least 1, and control came from the range or from the DoStart
    abbrev Counts : ℕ → Memory → Type 0
    Counts next new = Inside next → (1 ≤ slice_index new.counts n) × (Inside k ⊎ (k ≡ do_start p.execs n))

    counted : n < length m.counts
    counted = let is = is_memory.counts in omega (arith, is, known)

    from-test : (body exit : ℕ) → (Inside exit → ⊥) → Inside k ⊎ (k ≡ do_start p.execs n) → (next : ℕ) (new : Memory) → Tested n body exit next new → Counts next new
    from-test body exit leaves from next new (inl goes) inside = (goes.1, from)
    from-test body exit leaves from next new (inr out) inside = absurd (leaves (subst (λ i. Inside i) out inside))

    starting : (var : ℕ) (first last step : Expr) (body exit : ℕ) → exec.kind ≡ DoStart n var first last step body exit → IfGoes (outcome p.names input m exec.kind) (λ next new text. Counts next new)
    starting var first last step body exit is =
        let loop : Loop = record { number = n; variable = var; body = body; exit = exit } in
        let begins : begun_in (slice_get p.execs k) ≡ Some loop = ap begun_in at ∙ ap begun is in
        let here : k ≡ do_start p.execs n = the_loop.one_start k loop begins refl in
        let same : loop ≡ the_loop.loop = same-loop loop the_loop.loop (sym begins ∙ ap (λ i. begun_in (slice_get p.execs i)) here ∙ the_loop.begins) in
        let leaves : Inside exit → ⊥ = λ inside. the_loop.exit (subst (λ (l : Loop). Inside l.exit) same inside) in
        subst (λ kind. IfGoes (outcome p.names input m kind) (λ next new text. Counts next new)) (sym is)
        (map-goes (outcome p.names input m (DoStart n var first last step body exit)) (λ next new text. Tested n body exit next new) (λ next new text. Counts next new)
        (λ next new text way. from-test body exit leaves (inr here) next new way)
        (start-tested p.names input m n var first last step body exit counted))

    incrementing : (var body exit : ℕ) → exec.kind ≡ DoNext n var body exit → IfGoes (outcome p.names input m exec.kind) (λ next new text. Counts next new)
    incrementing var body exit is =
        let loop : Loop = record { number = n; variable = var; body = body; exit = exit } in
        let increments : incremented_in (slice_get p.execs k) ≡ Some loop = ap incremented_in at ∙ ap incremented is in
        let here : k ≡ do_next p.execs n = the_loop.one_next k loop increments refl in
        let same : loop ≡ the_loop.loop = same-loop loop the_loop.loop (sym increments ∙ ap (λ i. incremented_in (slice_get p.execs i)) here ∙ the_loop.increments) in
        let leaves : Inside exit → ⊥ = λ inside. the_loop.exit (subst (λ (l : Loop). Inside l.exit) same inside) in
        let later = the_loop.later in
        let inside : Inside k = record { after_start = omega (arith, here, later); up_to_next = omega (arith, here) } in
        subst (λ kind. IfGoes (outcome p.names input m kind) (λ next new text. Counts next new)) (sym is)
        (map-goes (outcome p.names input m (DoNext n var body exit)) (λ next new text. Tested n body exit next new) (λ next new text. Counts next new)
        (λ next new text way. from-test body exit leaves (inl inside) next new way)
        (next-tested p.names input m n var body exit counted))

    -- another executable leaves the count as it is, and leads into the range from the range alone
    passing : (SetsCount exec.kind n → ⊥) → IfGoes (outcome p.names input m exec.kind) (λ next new text. Counts next new)
    passing other =
        map-goes (outcome p.names input m exec.kind) (λ next new text. KeepsRest p.names input exec.kind m new × Contains (successors exec.kind) next) (λ next new text. Counts next new)
        (λ next new text both. from next new both.0 both.1 (in_range p.execs n k))
        (both-go (outcome p.names input m exec.kind) (λ next new text. KeepsRest p.names input exec.kind m new) (λ next new text. Contains (successors exec.kind) next) (outcome-keeps p.names input m exec.kind) (outcome-successor p.names input m exec.kind))
      where
        not-start : k ≡ do_start p.execs n → ⊥
        not-start here =
            let begins : begun exec.kind ≡ Some the_loop.loop = ap begun_in (sym at) ∙ ap (λ i. begun_in (slice_get p.execs i)) here ∙ the_loop.begins in
            other (subst (λ i. SetsCount exec.kind i) the_loop.number (begun-sets exec.kind the_loop.loop begins))

        from : (next : ℕ) (new : Memory) → KeepsRest p.names input exec.kind m new → Contains (successors exec.kind) next → Inside k ⊎ (Inside k → ⊥) → Counts next new
        from next new keeps leads (inl inside) there =
            let same : slice_index new.counts n ≡ slice_index m.counts n = index-of-get new.counts m.counts n (keeps.counts n other) in
            let least = holds inside in
            (omega (arith, same, least), inl inside)
        from next new keeps leads (inr outside) there =
            absurd (not-start (loops.entered n known k next outside (subst (λ o. Contains (successors_in o) next) (sym at) leads) there).0)

    pub executed-counts : IfGoes (outcome p.names input m exec.kind) (λ next new text. Counts next new)
    executed-counts = by (sets exec.kind n)
      where
        by : Sets exec.kind n → IfGoes (outcome p.names input m exec.kind) (λ next new text. Counts next new)
        by (Starts var first last step body exit is) = starting var first last step body exit is
        by (Increments var body exit is) = incrementing var body exit is
        by (Neither other) = passing other

  -- a step into the range from outside is its DoStart, with a count that isn't 0
  pub range-entered : (k : ℕ) (exec : Exec) (m : Memory) → slice_get p.execs k ≡ Some exec → IsMemoryOf p input m → (Inside k → ⊥) → IfGoes (outcome p.names input m exec.kind) (λ next new text. Inside next → (k ≡ do_start p.execs n) × (1 ≤ slice_index new.counts n))
  range-entered k exec m at is outside =
      map-goes (outcome p.names input m exec.kind) (λ next new text. Inside next → (1 ≤ slice_index new.counts n) × (Inside k ⊎ (k ≡ do_start p.execs n))) (λ next new text. Inside next → (k ≡ do_start p.execs n) × (1 ≤ slice_index new.counts n))
      (λ next new text counts there. let got = counts there in (from got.1, got.0))
      (executed-counts k exec m at is (λ inside. absurd (outside inside)))
    where
      from : Inside k ⊎ (k ≡ do_start p.execs n) → k ≡ do_start p.execs n
      from (inl inside) = absurd (outside inside)
      from (inr here) = here

  -- while control is in the range, the count is at least 1
  pub range-counts : CanRun p → (steps : ℕ) → Inside (source p input steps).position → 1 ≤ slice_index (source p input steps).memory.counts n
  range-counts can steps =
      (source-keeps p input (λ k m. IsMemoryOf p input m × (Inside k → 1 ≤ slice_index m.counts n)) kept (first-memory p input can, λ inside. let after = inside.after_start in absurd (omega (arith, after))) steps).1
    where
      kept : (k : ℕ) (exec : Exec) (m : Memory) → slice_get p.execs k ≡ Some exec → IsMemoryOf p input m × (Inside k → 1 ≤ slice_index m.counts n) → IfGoes (outcome p.names input m exec.kind) (λ next new text. IsMemoryOf p input new × (Inside next → 1 ≤ slice_index new.counts n))
      kept k exec m at both =
          both-go (outcome p.names input m exec.kind) (λ next new text. IsMemoryOf p input new) (λ next new text. Inside next → 1 ≤ slice_index new.counts n)
          (goes-memory p input m exec.kind both.0)
          (map-goes (outcome p.names input m exec.kind) (λ next new text. Inside next → (1 ≤ slice_index new.counts n) × (Inside k ⊎ (k ≡ do_start p.execs n))) (λ next new text. Inside next → 1 ≤ slice_index new.counts n)
          (λ next new text counts there. (counts there).0)
          (executed-counts k exec m at both.0 both.1))
