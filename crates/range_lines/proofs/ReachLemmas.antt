-- How far a plain DO reaches, from where the class of its variable is written next.
use Rattle.std.proofs.Common.{◌≡◌, ◌≢◌, ℕ, zero, suc, ◌+◌, ◌-◌, ◌<◌, ◌≤◌, pos, ◌⊎◌, inl, inr, Bool, true, false, if◌then◌else◌, List, length, Option, Some, None, [], ◌∷◌, slice_get, slice_index, slice_index_or, slice_set, refl, sym, ap, subst, ◌∙◌, ⊎_elim, get_or-set_same, get_or-set_other, arith}
use Rattle.std.specs.Prelude.{◌↔◌}
use Rattle.std.specs.Ordering.{int_eq}
use Rattle.std.proofs.lemmas.Bool.{cases_lt, cases_eq, eqb-true, eq-eqb}
use Rattle.std.proofs.lemmas.Bool.Decides.{Decides-int_eq}
use Rattle.op_table.proofs.Powers.{int_eq-no}
use Rattle.f77_tree.specs.declared.programs.Exec.{Exec}
use Rattle.f77_tree.specs.declared.programs.ExecKind.{ExecKind}
use Rattle.f77_tree.specs.declared.programs.ExecKind.TheVariants.{DoNext}
use Rattle.f77_tree.specs.declared.programs.Program.{Program}
use Rattle.f77_tree.specs.Loops.{Loop, begun, begun_in, begun_at, incremented_in, incremented_at, is_number, do_start, do_next, IsLoop, AreLoops}
use Rattle.f77_tree.specs.Value.{place_of}
use Rattle.f77_tree.specs.WellFormed.{IsWellFormed}
use Rattle.alias_classes.specs.Classes.{ClassTable, IsClasses, class_of_word}
use Rattle.alias_classes.specs.Writes.{ExecWrites}
use Rattle.loop_ranges.specs.Plain.{Parameters, parameters_in, count_of, value_after, IsBetween, IsPlain}
use Rattle.loop_ranges.proofs.Starts.{incremented-next}
use Rattle.range_lines.specs.declared.reaches.Reach.{Reach}
use Rattle.range_lines.specs.Reaches.{reached, reach_with, increments_loop, IsReach, Writes, IsNextWrite, AreNextWrites}

-- ---- lists

get-inside : {X : Type 0} (xs : List X) (k : ℕ) (x : X) → slice_get xs k ≡ Some x → k < length xs
get-inside [] k x is = let no : None ≡ Some x = is in absurd cc
get-inside (y ∷ xs) zero x is = omega arith
get-inside (y ∷ xs) (suc k) x is = let lt = get-inside xs k x is in omega (arith, lt)

same-loop : (a b : Loop) → Some a ≡ Some b → a ≡ b
same-loop a b is = cc

-- ---- reaches of parameters

-- the parameters of a reach
pub record IsReached (o : Option Parameters) (next : ℕ) (r : Reach) : Type 0 where
  pub q : Parameters
  pub are : o ≡ Some q
  pub step : q.step ≢ pos 0
  pub some : 1 ≤ count_of q
  pub is : r ≡ record { first = q.first; last = value_after q (count_of q - 1); next = next }

some-reached : (q : Parameters) (next c : ℕ) (r : Reach) → reached next q c ≡ Some r → (1 ≤ c) × (r ≡ record { first = q.first; last = value_after q (c - 1); next = next })
some-reached q next zero r is = let no : None ≡ Some r = is in absurd cc
some-reached q next (suc m) r is =
    let same : record { first = q.first; last = value_after q m; next = next } ≡ r = cc in
    let less : m ≡ suc m - 1 = omega arith in
    (omega arith, sym same ∙ ap (λ i. record { first = q.first; last = value_after q i; next = next }) less)

reached-some : (q : Parameters) (next c : ℕ) → 1 ≤ c → reached next q c ≡ Some (record { first = q.first; last = value_after q (c - 1); next = next })
reached-some q next zero some = absurd (omega (arith, some))
reached-some q next (suc m) some = let less : m ≡ suc m - 1 = omega arith in ap (λ i. Some (record { first = q.first; last = value_after q i; next = next })) less

pub is_reached : (o : Option Parameters) (next : ℕ) (r : Reach) → reach_with next o ≡ Some r → IsReached o next r
is_reached None next r is = let no : None ≡ Some r = is in absurd cc
is_reached (Some q) next r is = by (int_eq q.step (pos 0)) refl is
  where
    by : (b : Bool) → int_eq q.step (pos 0) ≡ b → (if b then None else reached next q (count_of q)) ≡ Some r → IsReached (Some q) next r
    by true zero_step given = let no : None ≡ Some r = given in absurd cc
    by false other given =
        let got = some-reached q next (count_of q) r given in
        record {
          q = q;
          are = refl;
          step = λ zero_step. let no : true ≡ false = sym ((Decides-int_eq q.step (pos 0)).1 zero_step) ∙ other in absurd cc;
          some = got.0;
          is = got.1;
        }

pub reached_is : (q : Parameters) (next : ℕ) → q.step ≢ pos 0 → 1 ≤ count_of q → reach_with next (Some q) ≡ Some (record { first = q.first; last = value_after q (count_of q - 1); next = next })
reached_is q next step some = ap (λ b. if b then None else reached next q (count_of q)) (int_eq-no q.step (pos 0) step) ∙ reached-some q next (count_of q) some

-- ---- where a plain DO is incremented

number-is : (n : ℕ) (o : Option Loop) → is_number n o ≡ true → (loop : Loop) × (o ≡ Some loop) × (loop.number ≡ n)
number-is n None is = let no : false ≡ true = is in absurd cc
number-is n (Some loop) is = (loop, refl, eqb-true loop.number n is)

module _ (p : Program) (t : ClassTable) (well : IsWellFormed p) (classes : IsClasses p t) where
  loops : AreLoops p.execs p.loops
  loops = well.execs.loops_nest

  -- the increment of a plain DO writes the class of its variable
  next-writes : (n : ℕ) (loop : Loop) (q : Parameters) → IsPlain p t n loop q → Writes p t (do_next p.execs n) (class_of_word t (place_of p.names loop.variable))
  next-writes n loop q plain = by (slice_get p.execs (do_next p.execs n)) refl
    where
      here : IsLoop p.execs n
      here = loops.each n plain.known_loop

      is_loop : Some here.loop ≡ Some loop
      is_loop = sym here.begins ∙ plain.begins

      by : (o : Option Exec) → slice_get p.execs (do_next p.execs n) ≡ o → Writes p t (do_next p.execs n) (class_of_word t (place_of p.names loop.variable))
      by None is = let no : None ≡ Some here.loop = ap incremented_in (sym is) ∙ here.increments in absurd cc
      by (Some exec) is =
          let kind : exec.kind ≡ DoNext loop.number loop.variable loop.body loop.exit = incremented-next exec.kind loop (ap incremented_in (sym is) ∙ here.increments ∙ is_loop) in
          record {
            exec = exec;
            at = is;
            writes = subst (λ (k : ExecKind). ExecWrites t k (class_of_word t (place_of p.names loop.variable))) (sym kind) (ap (λ names. class_of_word t (place_of names loop.variable)) classes.names);
          }

  -- so it is where that class is written next
  pub next-is-next : (n : ℕ) (loop : Loop) (q : Parameters) (k at : ℕ) → IsPlain p t n loop q → do_start p.execs n ≡ k → IsNextWrite p t (k + 1) (class_of_word t (place_of p.names loop.variable)) at → at ≡ do_next p.execs n
  next-is-next n loop q k at plain here next =
      let last = next-writes n loop q plain in
      let inside = get-inside p.execs (do_next p.execs n) last.exec last.at in
      let later = (loops.each n plain.known_loop).later in
      let from = next.from in
      ⊎_elim
      (λ (before : at < do_next p.execs n).
      let writes = next.some (omega (arith, before, inside)) in
      let between : IsBetween p.execs n at = record { after_start = omega (arith, here, from); before_next = before } in
      absurd (plain.keeps at writes.exec between writes.at writes.writes))
      (λ (not_before : do_next p.execs n ≤ at). ⊎_elim
      (λ (behind : do_next p.execs n < at). absurd (next.none (do_next p.execs n) (omega (arith, here, later)) behind last))
      (λ (not_behind : at ≤ do_next p.execs n). omega (arith, not_before, not_behind))
      (cases_lt (do_next p.execs n) at))
      (cases_lt at (do_next p.execs n))

  -- ---- the reach at an executable that begins a DO

  module _ (k : ℕ) (exec : Exec) (executable : slice_get p.execs k ≡ Some exec) (loop : Loop) (begins : begun exec.kind ≡ Some loop) (o : Option Parameters) (are : parameters_in (Some exec) ≡ o) (at : ℕ) (next : IsNextWrite p t (k + 1) (class_of_word t (place_of p.names loop.variable)) at) where
    begins_here : begun_at p.execs k ≡ Some loop
    begins_here = ap begun_in executable ∙ begins

    known_loop : loop.number < p.loops
    known_loop = loops.starts k loop begins_here

    is_start : k ≡ do_start p.execs loop.number
    is_start = (loops.each loop.number known_loop).one_start k loop begins_here refl

    -- a plain DO that begins here is this one
    pub this_loop : (n : ℕ) (other : Loop) (q : Parameters) → IsPlain p t n other q → do_start p.execs n ≡ k → (other ≡ loop) × (n ≡ loop.number) × (o ≡ Some q)
    this_loop n other q plain here =
        let same : other ≡ loop = same-loop other loop (sym plain.begins ∙ ap (begun_at p.execs) here ∙ begins_here) in
        let is_loop = loops.each n plain.known_loop in
        let own : is_loop.loop ≡ loop = same-loop is_loop.loop loop (sym is_loop.begins ∙ ap (begun_at p.execs) here ∙ begins_here) in
        (same, sym is_loop.number ∙ ap (λ (l : Loop). l.number) own, sym are ∙ ap parameters_in (sym executable) ∙ ap (λ j. parameters_in (slice_get p.execs j)) (sym here) ∙ plain.are_known)

    next_of_this : (n : ℕ) (other : Loop) (q : Parameters) → IsPlain p t n other q → do_start p.execs n ≡ k → at ≡ do_next p.execs n
    next_of_this n other q plain here =
        next-is-next n other q k at plain here (subst (λ (l : Loop). IsNextWrite p t (k + 1) (class_of_word t (place_of p.names l.variable)) at) (sym (this_loop n other q plain here).0) next)

    -- where what writes the class next increments the DO
    pub incremented-reach : (r : Option Reach) → increments_loop p.execs at loop.number ≡ true → r ≡ reach_with at o → IsReach p t k r
    incremented-reach r increments is = record {
      sound = λ reach some.
          let got = is_reached o at reach (sym is ∙ some) in
          let incremented_there = number-is loop.number (incremented_at p.execs at) increments in
          let is_next : at ≡ do_next p.execs loop.number = (loops.each loop.number known_loop).one_next at incremented_there.0 incremented_there.1 incremented_there.2 in
          record {
            number = loop.number;
            loop = loop;
            parameters = got.q;
            plain = record {
              known_loop = known_loop;
              begins = ap (begun_at p.execs) (sym is_start) ∙ begins_here;
              are_known = ap (λ j. parameters_in (slice_get p.execs j)) (sym is_start) ∙ ap parameters_in executable ∙ are ∙ got.are;
              step = got.step;
              some = got.some;
              keeps = λ i other between there writes.
                  let after = between.after_start in
                  let before = between.before_next in
                  next.none i (omega (arith, is_start, after)) (omega (arith, is_next, before)) (record { exec = other; at = there; writes = writes });
            };
            here = sym is_start;
            is = got.is ∙ ap (λ j. record { first = got.q.first; last = value_after got.q (count_of got.q - 1); next = j }) is_next;
          };
      whole = λ n other q plain here.
          let this = this_loop n other q plain here in
          is ∙ ap (reach_with at) this.2 ∙ reached_is q at plain.step plain.some ∙ ap (λ j. Some (record { first = q.first; last = value_after q (count_of q - 1); next = j })) (next_of_this n other q plain here);
    }

    -- where it doesn't, no plain DO begins
    pub other-reach : increments_loop p.execs at loop.number ≡ false → IsReach p t k None
    other-reach increments = record {
      sound = λ reach some. let no : None ≡ Some reach = some in absurd cc;
      whole = λ n other q plain here.
          let this = this_loop n other q plain here in
          let is_loop = loops.each n plain.known_loop in
          let own : incremented_at p.execs at ≡ Some is_loop.loop = ap (incremented_at p.execs) (next_of_this n other q plain here) ∙ is_loop.increments in
          let told : increments_loop p.execs at loop.number ≡ true = ap (is_number loop.number) own ∙ eq-eqb is_loop.loop.number loop.number (is_loop.number ∙ this.1) in
          let no : true ≡ false = sym told ∙ increments in
          absurd cc;
    }

-- ---- the tables, one executable further

-- the reaches
pub reaches-next : (p : Program) (t : ClassTable) (reaches : List (Option Reach)) (k : ℕ) (r : Option Reach) → k < length reaches → length reaches ≡ length p.execs → IsReach p t k r → ((j : ℕ) → suc k ≤ j → j < length p.execs → IsReach p t j (slice_index_or reaches j None)) → (j : ℕ) → k ≤ j → j < length p.execs → IsReach p t j (slice_index_or (slice_set reaches k r) j None)
reaches-next p t reaches k r lt each here later j le inside = by (cases_eq k j)
  where
    by : (k ≡ j) ⊎ (k ≡ j → ⊥) → IsReach p t j (slice_index_or (slice_set reaches k r) j None)
    by (inl same) = subst (λ i. IsReach p t i (slice_index_or (slice_set reaches k r) i None)) same (subst (λ (o : Option Reach). IsReach p t k o) (sym (get_or-set_same reaches k r None lt)) here)
    by (inr other) = subst (λ (o : Option Reach). IsReach p t j o) (sym (get_or-set_other reaches k j r None (λ e. other (sym e)))) (later j (omega (arith, le, other)) inside)

-- where a class is written next
pub written-here : (p : Program) (t : ClassTable) (k class : ℕ) → k < length p.execs → Writes p t k class → IsNextWrite p t k class k
written-here p t k class lt writes = record { from = omega arith; within = omega (arith, lt); none = λ i from before other. absurd (omega (arith, from, before)); some = λ inside. writes }

pub written-later : (p : Program) (t : ClassTable) (k class j : ℕ) → (Writes p t k class → ⊥) → IsNextWrite p t (suc k) class j → IsNextWrite p t k class j
written-later p t k class j not next =
    let from = next.from in
    record {
      from = omega (arith, from);
      within = next.within;
      none = λ i least before writes. ⊎_elim
          (λ (same : k ≡ i). not (subst (λ x. Writes p t x class) (sym same) writes))
          (λ (other : k ≡ i → ⊥). next.none i (omega (arith, least, other)) before writes)
          (cases_eq k i);
      some = next.some;
    }

-- so for all classes, where `writes` tells those that the executable k writes
pub writes-next : (p : Program) (t : ClassTable) (k K bound : ℕ) (exec : Exec) (writes : ℕ → Bool) (old new : List ℕ) → K ≡ suc k → k < length p.execs → slice_get p.execs k ≡ Some exec → ((n : ℕ) → (writes n ≡ true) ↔ ExecWrites t exec.kind n) → length old ≡ bound → length new ≡ bound → ((j : ℕ) → j < bound → writes j ≡ true → slice_index new j ≡ k) → ((j : ℕ) → writes j ≡ false → slice_index new j ≡ slice_index old j) → AreNextWrites p t K old → AreNextWrites p t k new
writes-next p t k K bound exec writes old new is lt at tells all_old all_new noted kept before class inside = by (writes class) refl
  where
    same-exec : (a b : Exec) → Some a ≡ Some b → a ≡ b
    same-exec a b same = cc

    by : (b : Bool) → writes class ≡ b → IsNextWrite p t k class (slice_index new class)
    by true told = subst (λ j. IsNextWrite p t k class j) (sym (noted class (omega (arith, inside, all_new)) told)) (written-here p t k class lt (record { exec = exec; at = at; writes = (tells class).0 told }))
    by false told =
        subst (λ j. IsNextWrite p t k class j) (sym (kept class told))
        (written-later p t k class (slice_index old class)
        (λ w. let no : true ≡ false = sym ((tells class).1 (subst (λ (e : Exec). ExecWrites t e.kind class) (same-exec w.exec exec (sym w.at ∙ at)) w.writes)) ∙ told in absurd cc)
        (subst (λ i. IsNextWrite p t i class (slice_index old class)) is (before class (omega (arith, inside, all_new, all_old)))))
