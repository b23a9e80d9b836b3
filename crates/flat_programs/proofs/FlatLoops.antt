-- The DOs of a flat program: what lies in their ranges, and how control comes into them.
use Rattle.std.proofs.Common.{◌≡◌, ℕ, suc, ◌+◌, ◌-◌, ◌<◌, ◌≤◌, ◌⊎◌, inl, inr, true, List, [], ◌∷◌, length, Contains, refl, sym, ap, ◌∙◌, subst, ⊎_elim, arith}
use Rattle.std.specs.Prelude.{slice_get, Option, Some, None, option_to_list}
use Rattle.std.specs.List.{count_by}
use Rattle.std.proofs.lemmas.Bool.{cases_lt}
use Rattle.std.proofs.lemmas.Option.{slice_get_within}
use Rattle.list_laws.proofs.Members.{Member-from_Contains, Contains-from_Member}
use Rattle.f77_tree.specs.declared.programs.Exec.{Exec}
use Rattle.f77_tree.specs.declared.programs.ExecKind.{ExecKind}
use Rattle.f77_tree.specs.Control.{successors, successors_in}
use Rattle.f77_tree.specs.Loops.{Loop, begun_in, begun_at, incremented_at, do_start, InRange, IsLoop, IsEnteredAtStart, Holds, ShareNone, AreLoops}
use Rattle.flat_programs.specs.declared.statements.Flat.{Flat}
use Rattle.flat_programs.specs.declared.statements.Flat.TheVariants.{Mark, Assignment, Output, LogicalIf, ArithmeticIf, ComputedGoTo, DoLoop, Jump, Finish}
use Rattle.flat_programs.specs.declared.statements.FlatLine.{FlatLine}
use Rattle.flat_programs.specs.Marks.{is_loop, is_mark, mark_at, mark_count, place_of, loop_at, loop_count, loop_to, is_end, variable_in}
use Rattle.flat_programs.specs.Executables.{width, first_of, following, executables}
use Rattle.flat_programs.specs.FlatForm.{IsFlat, IsNumber, IsSpan, LiesIn, range_end, jumps}
use Rattle.flat_programs.proofs.FlowLemmas.{first_of-next}
use Rattle.flat_programs.proofs.MarkLemmas.{found, item_at, take_whole}
use Rattle.flat_programs.proofs.CountedItems.{one-place, counts-less, count-rises, All-member}
use Rattle.flat_programs.proofs.ExecutableRows.{IsOf, belongs, kinds-width, first-less, first-rises, before-first, leading-at}
use Rattle.flat_programs.proofs.FlatSuccessors.{GoesTo, Stays, Falls, Jumps, Skips, Repeats, goes, mark-of, end-number, loop-of, numbers-of, after-mark, next-exists, not-finish}
use Rattle.flat_programs.proofs.FlatDos.{is_loop_line, is_mark_line, loop-ends, IsDoAt, do-of, last, span, its-mark, started, start-is, one-start, next-at, head-is, ended-number, one-next, next-is, loop_ended, next-follows, begins, increments-it}

loop-width : (flat : List FlatLine) (place : ℕ) (stmt : Flat) → is_loop stmt ≡ true → width flat place stmt ≡ 1
loop-width flat place (DoLoop end var first last step) is = refl
loop-width flat place Mark is = absurd cc
loop-width flat place (LogicalIf cond target) is = absurd cc
loop-width flat place (Assignment target value) is = absurd cc
loop-width flat place (Output items) is = absurd cc
loop-width flat place (ArithmeticIf value below at above) is = absurd cc
loop-width flat place (ComputedGoTo value targets) is = absurd cc
loop-width flat place (Jump target) is = absurd cc
loop-width flat place Finish is = absurd cc

-- the executable with this index is one of a statement at a place
pub record StandsAt (flat : List FlatLine) (place k : ℕ) : Type 0 where
  pub from : first_of flat place ≤ k
  pub below : k < first_of flat (place + 1)

module _ (flat : List FlatLine) where
  pub of-stands : (place k : ℕ) (l : FlatLine) (kind : ExecKind) → IsOf flat place k l kind → StandsAt flat place k
  of-stands place k l kind of =
      let next = first_of-next flat place l of.is in
      let size = kinds-width flat place l.stmt in
      ⊎_elim
      (λ h. let e = h.0 in record { from = omega (arith, e); below = omega (arith, e, next, size) })
      (λ h.
      let e = h.0 in
      let two : length (option_to_list (following flat place l.stmt)) ≡ 1 = ap (λ (o : Option ExecKind). length (option_to_list o)) h.1 in
      record { from = omega (arith, e); below = omega (arith, e, next, size, two) })
      of.which

  pub first-stands : (place : ℕ) (l : FlatLine) → slice_get flat place ≡ Some l → StandsAt flat place (first_of flat place)
  first-stands place l is = record { from = omega arith; below = first-less flat place (place + 1) l is (omega arith) }

module _ (flat : List FlatLine) (form : IsFlat flat) (n : ℕ) (d : IsDoAt flat n) where
  abbrev end : ℕ
  end = last flat form n d

  later : d.head < end
  later = form.later d.head end (span flat form n d)

  after-head : first_of flat (d.head + 1) ≡ first_of flat d.head + 1
  after-head = first_of-next flat d.head d.line d.is ∙ ap (λ w. first_of flat d.head + w) (loop-width flat d.head d.line.stmt d.loops)

  after-end : first_of flat (end + 1) ≡ first_of flat end + 2
  after-end =
      let m = its-mark flat form n d in
      let size = kinds-width flat end m.line.stmt in
      let two : length (option_to_list (following flat end m.line.stmt)) ≡ 1 = ap (λ (o : Option ExecKind). length (option_to_list o)) (next-follows flat form n d) in
      let next = first_of-next flat end m.line m.is in
      omega (arith, size, two, next)

  -- ---- its range, by places

  pub in-lies : (place k : ℕ) → StandsAt flat place k → InRange (executables flat) n k → LiesIn d.head end place
  in-lies place k at range =
      let s = start-is flat form n d in
      let t = next-is flat form n d in
      let a = after-head in
      let b = after-end in
      let c : d.head + 1 < place + 1 = before-first flat (d.head + 1) (place + 1) (omega (arith, s, a, range.after_start, at.below)) in
      let e : place < end + 1 = before-first flat place (end + 1) (omega (arith, t, b, range.up_to_next, at.from)) in
      record { after = omega (arith, c); up_to = omega (arith, e) }

  pub lies-in : (place k : ℕ) → StandsAt flat place k → LiesIn d.head end place → InRange (executables flat) n k
  lies-in place k at lies =
      let s = start-is flat form n d in
      let t = next-is flat form n d in
      let b = after-end in
      let c = first-less flat d.head place d.line d.is lies.after in
      let e = first-rises flat (place + 1) (end + 1) (let u = lies.up_to in omega (arith, u)) in
      record { after_start = omega (arith, s, c, at.from); up_to_next = omega (arith, t, b, e, at.below) }

  -- ---- the DO itself

  same-loop : (a b : Loop) → a.number ≡ b.number → a.variable ≡ b.variable → a.body ≡ b.body → a.exit ≡ b.exit → a ≡ b
  same-loop a b number variable body exit = rw (number, variable, body, exit) refl

  ended-loop : loop_ended flat end ≡ (started flat form n d).loop
  ended-loop =
      let st = started flat form n d in
      let h = head-is flat form n d in
      same-loop (loop_ended flat end) st.loop (ended-number flat form n d ∙ sym st.number) (ap (λ p. variable_in (slice_get flat p)) h ∙ sym st.variable) (ap (λ p. first_of flat (p + 1)) h ∙ sym st.body) (sym st.exit)

  pub is-loop : IsLoop (executables flat) n
  is-loop =
      let st = started flat form n d in
      let s = start-is flat form n d in
      let t = next-is flat form n d in
      let a = after-head in
      let b = after-end in
      record {
        loop = st.loop;
        begins = ap (begun_at (executables flat)) s ∙ ap begun_in (leading-at flat d.head d.line d.is) ∙ st.made;
        increments = ap (incremented_at (executables flat)) t ∙ next-at flat form n d ∙ ap Some ended-loop;
        number = st.number;
        later = let r = first-less flat d.head end d.line d.is later in omega (arith, s, t, r);
        one_start = λ k other at number. one-start flat form n d k other at number ∙ sym s;
        one_next = λ k other at number. one-next flat form n d k other at number ∙ sym t;
        body = let e = st.body in omega (arith, e, a, s);
        exit = λ range. let e = st.exit in let u = range.up_to_next in absurd (omega (arith, e, b, t, u));
      }

  -- ---- how control comes into its range

  -- two DOs at one place end at one mark
  one-end : (l : FlatLine) (number : ℕ) → slice_get flat d.head ≡ Some l → range_end l.stmt ≡ number ∷ [] → number ≡ d.end
  one-end l number is ends =
      let both : Some l ≡ Some d.line = sym is ∙ d.is in
      let same : l ≡ d.line = cc in
      let also : number ∷ [] ≡ d.end ∷ [] = sym ends ∙ ap (λ (s : FlatLine). range_end s.stmt) same ∙ d.ends in
      cc

  -- the mark of a DO isn't a DO
  not-a-mark : (place : ℕ) (l : FlatLine) → slice_get flat place ≡ Some l → is_mark l.stmt ≡ true → place ≡ d.head → ⊥
  not-a-mark place l is mark same =
      let both : Some l ≡ Some d.line = sym is ∙ ap (slice_get flat) same ∙ d.is in
      let one : l ≡ d.line = cc in
      no-both d.line.stmt d.loops (ap (λ (s : FlatLine). is_mark s.stmt) (sym one) ∙ mark)
    where
      no-both : (stmt : Flat) → is_loop stmt ≡ true → is_mark stmt ≡ true → ⊥
      no-both Mark loops mark = absurd cc
      no-both (DoLoop end var first last step) loops mark = absurd cc
      no-both (LogicalIf cond target) loops mark = absurd cc
      no-both (Assignment target value) loops mark = absurd cc
      no-both (Output items) loops mark = absurd cc
      no-both (ArithmeticIf value below at above) loops mark = absurd cc
      no-both (ComputedGoTo value targets) loops mark = absurd cc
      no-both (Jump target) loops mark = absurd cc
      no-both Finish loops mark = absurd cc

  module _ (place k s : ℕ) (l : FlatLine) (is : slice_get flat place ≡ Some l) (at : StandsAt flat place k) (outside : InRange (executables flat) n k → ⊥) (inside : InRange (executables flat) n s) where
    abbrev Enters : Type 0
    Enters = (k ≡ do_start (executables flat) n) × (s ≡ suc (do_start (executables flat) n))

    not-in : LiesIn d.head end place → ⊥
    not-in lies = outside (lies-in place k at lies)

    -- the executable to which control goes is the first one of the statement at a place in the range
    lands : (target : ℕ) → target < length flat → s ≡ first_of flat target → LiesIn d.head end target
    lands target less to =
        let item = item_at flat target less in
        in-lies target s (subst (λ (j : ℕ). StandsAt flat target j) (sym to) (first-stands flat target item.0 item.1)) inside

    falls : s ≡ first_of flat (place + 1) → place + 1 < length flat → Enters
    falls to less =
        let lies = lands (place + 1) less to in
        let u = lies.up_to in
        let v = lies.after in
        ⊎_elim
        (λ (within : d.head < place). absurd (not-in (record { after = within; up_to = omega (arith, u) })))
        (λ (le : place ≤ d.head).
        let same : place ≡ d.head = omega (arith, le, v) in
        let a = after-head in
        let s1 = start-is flat form n d in
        let e = ap (first_of flat) same in
        let e1 = ap (λ p. first_of flat (p + 1)) same in
        let from = at.from in
        let below = at.below in
        (omega (arith, a, s1, e, e1, from, below), omega (arith, a, s1, e1, to)))
        (cases_lt d.head place)

    skips : (number : ℕ) → range_end l.stmt ≡ number ∷ [] → s ≡ first_of flat (place_of flat number + 1) → ⊥
    skips number ends to =
        let is-number = end-number flat form place number l is ends in
        let m = mark-of flat form number is-number in
        let lies = lands (place_of flat number + 1) (after-mark flat form number is-number) to in
        let other : IsSpan flat place (place_of flat number) = record { here = l; is = is; end = number; ends = ends; place = refl } in
        let before = form.later place (place_of flat number) other in
        let u = lies.up_to in
        let v = lies.after in
        let apart = not-a-mark (place_of flat number) m.line m.is (ap is_mark m.mark) in
        ⊎_elim
        (λ (within : d.head < place). not-in (record { after = within; up_to = omega (arith, before, u) }))
        (λ (le : place ≤ d.head). ⊎_elim
        (λ (less : place < d.head). ⊎_elim
        (λ (h : end < place_of flat number). absurd (omega (arith, h, u)))
        (λ (h : place_of flat number < d.head). absurd (omega (arith, h, v)))
        (form.nested place (place_of flat number) d.head end other (span flat form n d) less))
        (λ (ge : d.head ≤ place).
        let same : place ≡ d.head = omega (arith, le, ge) in
        let one = one-end l number (ap (slice_get flat) (sym same) ∙ is) ends in
        let e = ap (place_of flat) one in
        absurd (omega (arith, e, u)))
        (cases_lt place d.head))
        (cases_lt d.head place)

    repeats : l.stmt ≡ Mark → is_end flat (mark_at flat place) ≡ true → s ≡ first_of flat (loop_to flat (mark_at flat place) + 1) → ⊥
    repeats mark ends to =
        let number = mark_at flat place in
        let other-head = loop_to flat number in
        let r = loop-of flat form number ends in
        let is-number = end-number flat form other-head number r.line r.is r.ends in
        let m = mark-of flat form number is-number in
        let there : place_of flat number ≡ place = one-place is_mark_line flat (place_of flat number) place m.line l m.is (ap is_mark m.mark) is (ap is_mark mark) (let e = m.numbered in omega (arith, e)) in
        let other : IsSpan flat other-head place = record { here = r.line; is = r.is; end = number; ends = r.ends; place = sym there } in
        let before = form.later other-head place other in
        let lies = lands (other-head + 1) (next-exists flat form other-head r.line r.is (not-finish flat form r.line.stmt number r.ends)) to in
        let u = lies.up_to in
        let v = lies.after in
        ⊎_elim
        (λ (beyond : end < place). ⊎_elim
        (λ (less : d.head < other-head). ⊎_elim
        (λ (h : place < end). absurd (omega (arith, h, beyond)))
        (λ (h : end < other-head). absurd (omega (arith, h, u)))
        (form.nested d.head end other-head place (span flat form n d) other less))
        (λ (le : other-head ≤ d.head).
        let same : other-head ≡ d.head = omega (arith, le, v) in
        let one = one-end r.line number (ap (slice_get flat) (sym same) ∙ r.is) r.ends in
        let e = ap (place_of flat) one in
        absurd (omega (arith, e, there, beyond)))
        (cases_lt d.head other-head))
        (λ (within : place ≤ end). not-in (record { after = omega (arith, v, before); up_to = within }))
        (cases_lt end place)

    enters : GoesTo flat place k s l.stmt → Enters
    enters (Stays from to two) =
        let next = first_of-next flat place l is in
        absurd (not-in (in-lies place s (record { from = omega (arith, to); below = omega (arith, to, next, two) }) inside))
    enters (Falls to other) = falls to (next-exists flat form place l is other)
    enters (Jumps number among to) =
        let one = All-member (IsNumber (mark_count flat)) (jumps l.stmt) number (numbers-of flat form place l is).jumps among in
        let lies = lands (place_of flat number) (found flat number one).within to in
        absurd (not-in (form.kept_out d.head end place number l (span flat form n d) is (Contains-from_Member (jumps l.stmt) number among) lies))
    enters (Skips number ends to) = absurd (skips number ends to)
    enters (Repeats mark ends to) = absurd (repeats mark ends to)

  entered-by : (k s : ℕ) (o : Option Exec) → slice_get (executables flat) k ≡ o → (InRange (executables flat) n k → ⊥) → Contains (successors_in o) s → InRange (executables flat) n s → (k ≡ do_start (executables flat) n) × (s ≡ suc (do_start (executables flat) n))
  entered-by k s None at outside leads inside = absurd (Member-from_Contains [] s leads)
  entered-by k s (Some exec) at outside leads inside =
      let b = belongs flat k exec at in
      let m = Member-from_Contains (successors exec.kind) s leads in
      enters b.place k s b.line b.of.is (of-stands flat b.place k b.line exec.kind b.of) outside inside (goes flat b.place s k b.line exec.kind b.of m)

  pub is-entered : IsEnteredAtStart (executables flat) n
  is-entered k s outside leads inside = entered-by k s (slice_get (executables flat) k) refl outside leads inside

-- ---- two DOs

module _ (flat : List FlatLine) (form : IsFlat flat) (m n : ℕ) (c : IsDoAt flat m) (d : IsDoAt flat n) where
  abbrev execs : List Exec
  execs = executables flat

  pub heads-rise : m < n → c.head < d.head
  heads-rise less = ⊎_elim
      (λ lt. lt)
      (λ (le : d.head ≤ c.head).
      let e : d.head + (c.head - d.head) ≡ c.head = omega (arith, le) in
      let a = count-rises is_loop_line flat d.head (c.head - d.head) in
      let b = ap (loop_at flat) e in
      let x = c.number in
      let y = d.number in
      absurd (omega (arith, a, b, x, y, less)))
      (cases_lt c.head d.head)

  -- of two DOs the earlier one holds the other one, or they share nothing
  pub earlier : c.head < d.head → Holds execs m n ⊎ ShareNone execs m n
  earlier less =
      let c-end = last flat form m c in
      let d-end = last flat form n d in
      let c-start = start-is flat form m c in
      let d-start = start-is flat form n d in
      let c-next = next-is flat form m c in
      let d-next = next-is flat form n d in
      let c-after = after-end flat form m c in
      let starts = first-less flat c.head d.head c.line c.is less in
      ⊎_elim
      (λ (h : d-end < c-end).
      let ends = first-rises flat d-end c-end (omega (arith, h)) in
      inl (λ k range. let u = range.after_start in let v = range.up_to_next in record { after_start = omega (arith, u, c-start, d-start, starts); up_to_next = omega (arith, v, c-next, d-next, ends) }))
      (λ (h : c-end < d.head).
      let apart = first-rises flat (c-end + 1) d.head (omega (arith, h)) in
      inr (λ k one other. let u = one.up_to_next in let v = other.after_start in absurd (omega (arith, u, v, c-next, d-start, c-after, apart))))
      (form.nested c.head c-end d.head d-end (span flat form m c) (span flat form n d) less)

module _ (flat : List FlatLine) (form : IsFlat flat) where
  number-below : (place : ℕ) (l : FlatLine) → slice_get flat place ≡ Some l → is_loop_line l ≡ true → loop_at flat place < loop_count flat
  number-below place l is loops =
      let within = slice_get_within flat place l is in
      let a = counts-less is_loop_line flat place (length flat) l is loops within in
      let b = ap (count_by is_loop_line) (take_whole flat) in
      omega (arith, a, b)

  starts-below : (k : ℕ) (loop : Loop) → begun_at (executables flat) k ≡ Some loop → loop.number < loop_count flat
  starts-below k loop at =
      let b = begins flat k loop at in
      let less = number-below b.place b.line b.is b.loops in
      let e = b.number in
      omega (arith, less, e)

  nexts-below : (k : ℕ) (loop : Loop) → incremented_at (executables flat) k ≡ Some loop → loop.number < loop_count flat
  nexts-below k loop at =
      let i = increments-it flat k loop at in
      let r = loop-of flat form (mark_at flat i.place) i.ends in
      let less = number-below (loop_to flat (mark_at flat i.place)) r.line r.is (loop-ends r.line.stmt (mark_at flat i.place) r.ends) in
      let e = ap (λ (l : Loop). l.number) i.loop_is in
      omega (arith, less, e)

  nest : (m n : ℕ) → m < loop_count flat → n < loop_count flat → Holds (executables flat) m n ⊎ (Holds (executables flat) n m ⊎ ShareNone (executables flat) m n)
  nest m n less also =
      let c = do-of flat m less in
      let d = do-of flat n also in
      ⊎_elim
      (λ (lt : m < n). ⊎_elim (λ h. inl h) (λ h. inr (inr h)) (earlier flat form m n c d (heads-rise flat form m n c d lt)))
      (λ (le : n ≤ m). ⊎_elim
      (λ (lt : n < m). ⊎_elim (λ h. inr (inl h)) (λ h. inr (inr (λ k a b. h k b a))) (earlier flat form n m d c (heads-rise flat form n m d c lt)))
      (λ (ge : m ≤ n).
      let same : n ≡ m = omega (arith, le, ge) in
      inl (λ k range. subst (λ (i : ℕ). InRange (executables flat) i k) same range))
      (cases_lt n m))
      (cases_lt m n)

  pub are-loops : AreLoops (executables flat) (loop_count flat)
  are-loops = record {
    each = λ n less. is-loop flat form n (do-of flat n less);
    starts = starts-below;
    nexts = nexts-below;
    rising = λ m n lt less.
        let before : m < loop_count flat = omega (arith, lt, less) in
        let c = do-of flat m before in
        let d = do-of flat n less in
        let h = first-less flat c.head d.head c.line c.is (heads-rise flat form m n c d lt) in
        let a = start-is flat form m c in
        let b = start-is flat form n d in
        omega (arith, h, a, b);
    entered = λ n less. is-entered flat form n (do-of flat n less);
    nested = nest;
  }
