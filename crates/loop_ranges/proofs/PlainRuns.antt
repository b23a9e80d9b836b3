-- The count, the step and the variable of a plain DO while control is in its range.
use Rattle.std.proofs.Common.{◌≡◌, ◌≢◌, ℕ, zero, suc, ◌-◌, ◌<◌, ◌≤◌, ℤ, pos, ◌+ℤ◌, ◌*ℤ◌, ◌⊎◌, inl, inr, if◌then◌else◌, nat_lt, List, [], ◌∷◌, length, Contains, Option, Some, None, Result, Ok, slice_get, slice_index, slice_set, unwrap_or, refl, sym, ap, subst, ◌∙◌, ⊎_elim, get_or-set_same, arith, w32}
use Rattle.std.proofs.lemmas.Bool.{cases_lt, cases_eq}
use Rattle.std.proofs.lemmas.Int.{ints, int_wrap_fits}
use Rattle.std.proofs.lemmas.Option.{unwrap_or-slice_get}
use Rattle.std.proofs.Math.IntN.{suc_ℤ-*ℤ}
use Rattle.op_table.specs.declared.Trap.{Trap}
use Rattle.op_table.specs.Trips.{trip_count}
use Rattle.op_table.specs.Words.{IsWord, wrapped}
use Rattle.f77_tree.specs.declared.expressions.Expr.{Expr}
use Rattle.f77_tree.specs.declared.programs.Exec.{Exec}
use Rattle.f77_tree.specs.declared.programs.ExecKind.{ExecKind}
use Rattle.f77_tree.specs.declared.programs.ExecKind.TheVariants.{DoStart, DoNext}
use Rattle.f77_tree.specs.declared.programs.Program.{Program}
use Rattle.f77_tree.specs.CanRun.{CanRun, CanExecute}
use Rattle.f77_tree.specs.Control.{successors, successors_in}
use Rattle.f77_tree.specs.Execution.{Memory, outcome}
use Rattle.f77_tree.specs.declared.declarations.Kind.TheVariants.{Integer}
use Rattle.f77_tree.specs.Kinds.{IsOfKind}
use Rattle.f77_tree.specs.Known.{known}
use Rattle.f77_tree.specs.Loops.{Loop, begun_in, incremented, incremented_in, do_start, do_next, InRange, IsLoop, AreLoops}
use Rattle.f77_tree.specs.Run.{source}
use Rattle.f77_tree.specs.Steps.{IfGoes, IsMemoryOf, KeepsRest}
use Rattle.f77_tree.specs.Value.{value, place_of, kind_of, dims_of, word_at}
use Rattle.f77_tree.specs.WellFormed.{IsWellFormed, IsDo, IsExecutable}
use Rattle.f77_tree.proofs.AllLemmas.{All-get, All-first, All-rest, All-nil}
use Rattle.f77_tree.proofs.Keeping.{get-set_same, outcome-keeps}
use Rattle.f77_tree.proofs.Outcomes.{begun-goes, outcome-successor, map-goes, both-go}
use Rattle.f77_tree.proofs.RunInvariants.{goes-memory, first-memory, source-keeps}
use Rattle.f77_tree.proofs.Safety.{known-is}
use Rattle.f77_tree.proofs.WellFormedLaws.{well_formed-placed, well_formed-runs}
use Rattle.f77_tree.proofs.WordValues.{value-is_word}
use Rattle.alias_classes.specs.Classes.{ClassTable, IsClasses}
use Rattle.alias_classes.specs.WriteLaws.{WritesWhatChanges}
use Rattle.loop_ranges.specs.Plain.{Parameters, parameters_in, count_of, value_after, IsBetween, IsPlain, IsUnderWay}
use Rattle.loop_ranges.proofs.Multiples.{IsAmong, fewer_steps, last_among}
use Rattle.loop_ranges.proofs.Starts.{IsStart, begun-start, incremented-next, Sets, Begins, Increments, sets-count, step-count, in_range}

-- ---- the values of the variable

-- each value lies between the first and the last one
pub value_among : (q : Parameters) (i m : ℕ) → i ≤ m → IsAmong q.first (value_after q m) (value_after q i)
value_among q i m le = by (fewer_steps i m q.step le)
  where
    by : IsAmong (pos 0) (pos m *ℤ q.step) (pos i *ℤ q.step) → IsAmong q.first (value_after q m) (value_after q i)
    by (inl is) = let low = is.0 in let high = is.1 in inl (omega (arith, ints, low), omega (arith, ints, high))
    by (inr is) = let low = is.0 in let high = is.1 in inr (omega (arith, ints, low), omega (arith, ints, high))

between-word : (a b x : ℤ) → IsWord a → IsWord b → IsAmong a b x → IsWord x
between-word a b x u v (inl is) = let low = is.0 in let high = is.1 in omega (arith, ints, u, v, low, high)
between-word a b x u v (inr is) = let low = is.0 in let high = is.1 in omega (arith, ints, u, v, low, high)

count-suc : (c : ℕ) → 1 ≤ c → c ≡ suc (c - 1)
count-suc c le = omega (arith, le)

-- so each is a word
pub value-word : (q : Parameters) (i : ℕ) → IsWord q.first → IsWord q.last → q.step ≢ pos 0 → i < count_of q → IsWord (value_after q i)
value-word q i u v some lt =
    let m = count_of q - 1 in
    let last : IsWord (value_after q m) = between-word q.first q.last (value_after q m) u v (last_among q.first q.last q.step m some (count-suc (count_of q) (omega (arith, lt)))) in
    between-word q.first (value_after q m) (value_after q i) u last (value_among q i m (omega (arith, lt)))

-- one increment more
pub one_further : (q : Parameters) (i : ℕ) → value_after q (suc i) ≡ value_after q i +ℤ q.step
one_further q i = let more : pos (suc i) *ℤ q.step ≡ pos i *ℤ q.step +ℤ q.step = suc_ℤ-*ℤ (pos i) q.step in omega (arith, ints, more)

-- ---- words of lists

word_set : (store : List ℤ) (k : ℕ) (z : ℤ) → k < length store → word_at (slice_set store k z) k ≡ z
word_set store k z lt = ap (λ o. unwrap_or o (pos 0)) (get-set_same store k z lt)

index-of-get : (xs ys : List ℕ) (k : ℕ) → slice_get xs k ≡ slice_get ys k → slice_index xs k ≡ slice_index ys k
index-of-get xs ys k same = sym (unwrap_or-slice_get xs k 0) ∙ ap (λ o. unwrap_or o 0) same ∙ unwrap_or-slice_get ys k 0

tested : (count body exit : ℕ) → (1 ≤ count) ⊎ ((if nat_lt 0 count then body else exit) ≡ exit)
tested zero body exit = inr refl
tested (suc count) body exit = inl (omega arith)

same-exec : (x y : Exec) → Some x ≡ Some y → x ≡ y
same-exec x y is = cc

same-number : (r : Result ℤ Trap) (x y : ℤ) → r ≡ Ok x → r ≡ Ok y → x ≡ y
same-number r x y is_x is_y = let both : Ok x ≡ Ok y = sym is_x ∙ is_y in cc

-- ---- a plain DO

module _ (p : Program) (t : ClassTable) (input : List ℤ) (well : IsWellFormed p) (classes : IsClasses p t) (covers : WritesWhatChanges) (n : ℕ) (loop : Loop) (q : Parameters) (plain : IsPlain p t n loop q) where
  abbrev UnderWay : Memory → Type 0
  UnderWay m = IsUnderWay p n loop q m

  abbrev Inside : ℕ → Type 0
  Inside k = InRange p.execs n k

  abbrev Holds : ℕ → Memory → Type 0
  Holds k m = Inside k → UnderWay m

  loops : AreLoops p.execs p.loops
  loops = well.execs.loops_nest

  can : CanRun p
  can = well_formed-runs p well

  the_loop : IsLoop p.execs n
  the_loop = loops.each n plain.known_loop

  same-loop : (a b : Loop) → Some a ≡ Some b → a ≡ b
  same-loop a b is = cc

  is_loop : the_loop.loop ≡ loop
  is_loop = same-loop the_loop.loop loop (sym the_loop.begins ∙ plain.begins)

  number_is : loop.number ≡ n
  number_is = ap (λ (l : Loop). l.number) (sym is_loop) ∙ the_loop.number

  exit_leaves : Inside loop.exit → ⊥
  exit_leaves = subst (λ (l : Loop). Inside l.exit → ⊥) is_loop the_loop.exit

  -- the executable that begins it
  record Start : Type 0 where
    exec : Exec
    at : slice_get p.execs (do_start p.execs n) ≡ Some exec
    is_start : IsStart exec.kind loop q

  start : Start
  start = by (slice_get p.execs (do_start p.execs n)) refl
    where
      by : (o : Option Exec) → slice_get p.execs (do_start p.execs n) ≡ o → Start
      by None is = let no : None ≡ Some loop = ap begun_in (sym is) ∙ plain.begins in absurd cc
      by (Some exec) is = record {
        exec = exec;
        at = is;
        is_start = begun-start exec.kind loop q (ap begun_in (sym is) ∙ plain.begins) (ap parameters_in (sym is) ∙ plain.are_known);
      }

  start-do : IsDo p.names loop.variable (start.is_start.first ∷ start.is_start.last ∷ start.is_start.step ∷ [])
  start-do = subst (λ (kind : ExecKind). IsExecutable p.names kind) start.is_start.is (All-get (λ (exec : Exec). IsExecutable p.names exec.kind) p.execs (do_start p.execs n) start.exec well.execs.each start.at)

  pub variable-integer : kind_of p.names loop.variable ≡ Integer
  variable-integer = start-do.variable.integer

  pub variable-scalar : dims_of p.names loop.variable ≡ []
  variable-scalar = start-do.variable.scalar

  -- its parameters are words
  known-word : (e : Expr) (z : ℤ) → IsOfKind p.names Integer e → known e ≡ Some z → IsWord z
  known-word e z of_kind is = value-is_word p.names [] None (All-nil IsWord) e z of_kind.proper (known-is p.names [] None e z is)

  first-word : IsWord q.first
  first-word = known-word start.is_start.first q.first (All-first (IsOfKind p.names Integer) start.is_start.first (start.is_start.last ∷ start.is_start.step ∷ []) start-do.integers) start.is_start.first_known

  last-word : IsWord q.last
  last-word = known-word start.is_start.last q.last (All-first (IsOfKind p.names Integer) start.is_start.last (start.is_start.step ∷ []) (All-rest (IsOfKind p.names Integer) start.is_start.first (start.is_start.last ∷ start.is_start.step ∷ []) start-do.integers)) start.is_start.last_known

  -- the value of the variable at a count is a word
  pub at_count : (i : ℕ) → i < count_of q → IsWord (value_after q i)
  at_count i lt = value-word q i first-word last-word plain.step lt

  -- ---- each executable keeps it

  module _ (k : ℕ) (exec : Exec) (m : Memory) (at : slice_get p.execs k ≡ Some exec) (is_memory : IsMemoryOf p input m) (holds : Holds k m) where
    counted : n < length m.counts
    counted = let is = is_memory.counts in let lt = plain.known_loop in omega (arith, is, lt)

    stepped : n < length m.steps
    stepped = let is = is_memory.steps in let lt = plain.known_loop in omega (arith, is, lt)

    -- the DoStart sets all three
    from-start : k ≡ do_start p.execs n → IfGoes (outcome p.names input m exec.kind) (λ next new text. Holds next new)
    from-start here =
        let same : Some exec ≡ Some start.exec = sym at ∙ ap (slice_get p.execs) here ∙ start.at in
        let kind_is : exec.kind ≡ DoStart loop.number loop.variable start.is_start.first start.is_start.last start.is_start.step loop.body loop.exit = ap (λ (o : Exec). o.kind) (same-exec exec start.exec same) ∙ start.is_start.is in
        let word_lt : place_of p.names loop.variable < length m.store = in_store (subst (λ (kind : ExecKind). CanExecute p kind) kind_is (can.executes k exec at)).0.word in
        subst (λ (kind : ExecKind). IfGoes (outcome p.names input m kind) (λ next new text. Holds next new)) (sym kind_is)
        (begun-goes (λ next new text. Holds next new) m loop.number (place_of p.names loop.variable) loop.body loop.exit (value p.names m.store None start.is_start.first) (value p.names m.store None start.is_start.last) (value p.names m.store None start.is_start.step)
        (λ a b c is_a is_b is_c some inside.
        let a_is : a ≡ q.first = same-number (value p.names m.store None start.is_start.first) a q.first is_a (known-is p.names m.store None start.is_start.first q.first start.is_start.first_known) in
        let b_is : b ≡ q.last = same-number (value p.names m.store None start.is_start.last) b q.last is_b (known-is p.names m.store None start.is_start.last q.last start.is_start.last_known) in
        let c_is : c ≡ q.step = same-number (value p.names m.store None start.is_start.step) c q.step is_c (known-is p.names m.store None start.is_start.step q.step start.is_start.step_known) in
        let counted_is : trip_count a b c ≡ count_of q = ap (λ x. trip_count x b c) a_is ∙ ap (λ x. trip_count q.first x c) b_is ∙ ap (λ x. trip_count q.first q.last x) c_is in
        let now : slice_index (slice_set m.counts loop.number (trip_count a b c)) n ≡ count_of q = ap (λ j. slice_index (slice_set m.counts j (trip_count a b c)) n) number_is ∙ get_or-set_same m.counts n (trip_count a b c) 0 counted ∙ counted_is in
        let least = plain.some in
        record {
          step = ap (λ j. word_at (slice_set m.steps j c) n) number_is ∙ word_set m.steps n c stepped ∙ c_is;
          some = omega (arith, now, least);
          most = omega (arith, now);
          variable = word_set m.store (place_of p.names loop.variable) a word_lt ∙ a_is ∙ first_value (count_of q - slice_index (slice_set m.counts loop.number (trip_count a b c)) n) (omega (arith, now));
        }))
      where
        in_store : place_of p.names loop.variable < p.words → place_of p.names loop.variable < length m.store
        in_store lt = let is = is_memory.words in omega (arith, is, lt)

        first_value : (i : ℕ) → i ≡ 0 → q.first ≡ value_after q i
        first_value i is = let e : q.first ≡ q.first +ℤ pos 0 *ℤ q.step = omega (arith, ints) in e ∙ ap (value_after q) (sym is)

    next_value : (count : ℕ) → 2 ≤ count → count ≤ count_of q → wrapped (value_after q (count_of q - count) +ℤ q.step) ≡ value_after q (count_of q - (count - 1))
    next_value count some most =
        let further : suc (count_of q - count) ≡ count_of q - (count - 1) = omega (arith, some, most) in
        let below : count_of q - (count - 1) < count_of q = omega (arith, some, most) in
        ap wrapped (sym (one_further q (count_of q - count))) ∙ ap (λ i. wrapped (value_after q i)) further ∙ int_wrap_fits w32 (value_after q (count_of q - (count - 1))) (at_count (count_of q - (count - 1)) below)

    incremented_holds : place_of p.names loop.variable < length m.store → UnderWay m → IfGoes (outcome p.names input m (DoNext n loop.variable loop.body loop.exit)) (λ next new text. Holds next new)
    incremented_holds word_lt before inside =
        let count = slice_index m.counts n in
        let word = place_of p.names loop.variable in
        let now : slice_index (slice_set m.counts n (count - 1)) n ≡ count - 1 = get_or-set_same m.counts n (count - 1) 0 counted in
        let left : 1 ≤ count - 1 = some_left (tested (count - 1) loop.body loop.exit) inside in
        let most = before.most in
        record {
          step = before.step;
          some = omega (arith, now, left);
          most = omega (arith, now, most);
          variable =
              word_set m.store word (wrapped (word_at m.store word +ℤ word_at m.steps n)) word_lt
              ∙ ap (λ z. wrapped (z +ℤ word_at m.steps n)) before.variable
              ∙ ap (λ z. wrapped (value_after q (count_of q - count) +ℤ z)) before.step
              ∙ next_value count (omega (arith, left)) most
              ∙ ap (λ c. value_after q (count_of q - c)) (sym now);
        }
      where
        some_left : (1 ≤ slice_index m.counts n - 1) ⊎ ((if nat_lt 0 (slice_index m.counts n - 1) then loop.body else loop.exit) ≡ loop.exit) → Inside (if nat_lt 0 (slice_index m.counts n - 1) then loop.body else loop.exit) → 1 ≤ slice_index m.counts n - 1
        some_left (inl some) inside = some
        some_left (inr out) inside = absurd (exit_leaves (subst (λ k. Inside k) out inside))

    -- the DoNext adds the step and takes 1 from the count, and leads into the range where a count is left
    from-next : k ≡ do_next p.execs n → IfGoes (outcome p.names input m exec.kind) (λ next new text. Holds next new)
    from-next here =
        let increments : incremented exec.kind ≡ Some loop = ap incremented_in (sym at) ∙ ap (λ j. incremented_in (slice_get p.execs j)) here ∙ the_loop.increments ∙ ap (λ l. Some l) is_loop in
        let kind_is : exec.kind ≡ DoNext loop.number loop.variable loop.body loop.exit = incremented-next exec.kind loop increments in
        let word_lt : place_of p.names loop.variable < length m.store = in_store (subst (λ (kind : ExecKind). CanExecute p kind) kind_is (can.executes k exec at)).word in
        let later = the_loop.later in
        let before = holds (record { after_start = omega (arith, here, later); up_to_next = omega (arith, here) }) in
        subst (λ (kind : ExecKind). IfGoes (outcome p.names input m kind) (λ next new text. Holds next new)) (sym kind_is)
        (subst (λ j. IfGoes (outcome p.names input m (DoNext j loop.variable loop.body loop.exit)) (λ next new text. Holds next new)) (sym number_is) (incremented_holds word_lt before))
      where
        in_store : place_of p.names loop.variable < p.words → place_of p.names loop.variable < length m.store
        in_store lt = let is = is_memory.words in omega (arith, is, lt)

    -- any other executable leaves it as it is, and leads into the range from the range alone
    from-other : k ≢ do_start p.execs n → k ≢ do_next p.execs n → IfGoes (outcome p.names input m exec.kind) (λ next new text. Holds next new)
    from-other not_start not_next =
        map-goes (outcome p.names input m exec.kind) (λ next new text. KeepsRest p.names input exec.kind m new × Contains (successors exec.kind) next) (λ next new text. Holds next new)
        (λ next new text both. from next new both.0 both.1 (in_range p.execs n k))
        (both-go (outcome p.names input m exec.kind) (λ next new text. KeepsRest p.names input exec.kind m new) (λ next new text. Contains (successors exec.kind) next) (outcome-keeps p.names input m exec.kind) (outcome-successor p.names input m exec.kind))
      where
        not_sets : Sets exec.kind n → ⊥
        not_sets (Begins other begins is) = not_start (the_loop.one_start k other (ap begun_in at ∙ begins) is)
        not_sets (Increments other increments is) = not_next (the_loop.one_next k other (ap incremented_in at ∙ increments) is)

        kept : (new : Memory) → KeepsRest p.names input exec.kind m new → Inside k → UnderWay new
        kept new keeps inside =
            let before = holds inside in
            let word = place_of p.names loop.variable in
            let after = inside.after_start in
            let up_to = inside.up_to_next in
            let between : IsBetween p.execs n k = record { after_start = after; before_next = ⊎_elim (λ (lt : k < do_next p.execs n). lt) (λ (le : do_next p.execs n ≤ k). absurd (not_next (omega (arith, le, up_to)))) (cases_lt k (do_next p.execs n)) } in
            let same_word : word_at new.store word ≡ word_at m.store word = ap (λ o. unwrap_or o (pos 0)) (keeps.store word (λ changes. plain.keeps k exec between at (covers p t input m exec.kind word classes (well_formed-placed p well) (can.executes k exec at) changes))) in
            let same_count : slice_index new.counts n ≡ slice_index m.counts n = index-of-get new.counts m.counts n (keeps.counts n (λ sets. not_sets (sets-count exec.kind n sets))) in
            let same_step : word_at new.steps n ≡ word_at m.steps n = ap (λ o. unwrap_or o (pos 0)) (keeps.steps n (λ sets. not_sets (sets-count exec.kind n (step-count exec.kind n sets)))) in
            let some = before.some in
            let most = before.most in
            record {
              step = same_step ∙ before.step;
              some = omega (arith, same_count, some);
              most = omega (arith, same_count, most);
              variable = same_word ∙ before.variable ∙ ap (λ c. value_after q (count_of q - c)) (sym same_count);
            }

        from : (next : ℕ) (new : Memory) → KeepsRest p.names input exec.kind m new → Contains (successors exec.kind) next → Inside k ⊎ (Inside k → ⊥) → Holds next new
        from next new keeps leads (inl inside) there = kept new keeps inside
        from next new keeps leads (inr outside) there = absurd (not_start (loops.entered n plain.known_loop k next outside (subst (λ o. Contains (successors_in o) next) (sym at) leads) there).0)

    pub executed-holds : IfGoes (outcome p.names input m exec.kind) (λ next new text. Holds next new)
    executed-holds = by (cases_eq k (do_start p.execs n)) (cases_eq k (do_next p.execs n))
      where
        by : (k ≡ do_start p.execs n) ⊎ (k ≡ do_start p.execs n → ⊥) → (k ≡ do_next p.execs n) ⊎ (k ≡ do_next p.execs n → ⊥) → IfGoes (outcome p.names input m exec.kind) (λ next new text. Holds next new)
        by (inl here) other = from-start here
        by (inr not_start) (inl here) = from-next here
        by (inr not_start) (inr not_next) = from-other not_start not_next

  -- while control is in the range of the DO, its step is the known one, its count is from 1 to that of the beginning, and its
  -- variable has the value of the iteration
  pub under-way : (steps : ℕ) → Inside (source p input steps).position → UnderWay (source p input steps).memory
  under-way steps =
      (source-keeps p input (λ k m. IsMemoryOf p input m × Holds k m) kept (first-memory p input can, λ inside. let after = inside.after_start in absurd (omega (arith, after))) steps).1
    where
      kept : (k : ℕ) (exec : Exec) (m : Memory) → slice_get p.execs k ≡ Some exec → IsMemoryOf p input m × Holds k m → IfGoes (outcome p.names input m exec.kind) (λ next new text. IsMemoryOf p input new × Holds next new)
      kept k exec m at both =
          both-go (outcome p.names input m exec.kind) (λ next new text. IsMemoryOf p input new) (λ next new text. Holds next new)
          (goes-memory p input m exec.kind both.0)
          (executed-holds k exec m at both.0 both.1)
