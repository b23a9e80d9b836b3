-- The executables that begin and increment each DO of a flat program.
use Rattle.std.proofs.Common.{rules, ◌≡◌, ℕ, ◌+◌, ◌<◌, Bool, true, false, List, [], ◌∷◌, length, refl, sym, ap, ◌∙◌, ⊎_elim, arith}
use Rattle.std.specs.Prelude.{slice_get, Option, Some, None, if◌then◌else◌, nat_lt, ◌==◌}
use Rattle.std.proofs.lemmas.Bool.{false_from_ne_true}
use Rattle.std.proofs.lemmas.Option.{slice_get_within}
use Rattle.f77_tree.specs.declared.programs.Exec.{Exec}
use Rattle.f77_tree.specs.declared.programs.ExecKind.{ExecKind}
use Rattle.f77_tree.specs.declared.programs.ExecKind.TheVariants.{Pass}
use Rattle.f77_tree.specs.Loops.{Loop, begun, incremented, begun_in, incremented_in, begun_at, incremented_at, is_number, do_start, do_next}
use Rattle.flat_programs.specs.declared.statements.Flat.{Flat}
use Rattle.flat_programs.specs.declared.statements.Flat.TheVariants.{Mark, Assignment, Output, LogicalIf, ArithmeticIf, ComputedGoTo, DoLoop, Jump, Finish}
use Rattle.flat_programs.specs.declared.statements.FlatLine.{FlatLine}
use Rattle.flat_programs.specs.Marks.{is_mark, mark_at, place_of, is_loop, loop_at, loop_count, loop_to, is_end, ends_at, variable_in}
use Rattle.flat_programs.specs.Executables.{first_of, marked, leading, following, increment, executables}
use Rattle.flat_programs.specs.FlatForm.{IsFlat, IsSpan, range_end}
use Rattle.flat_programs.proofs.CountedItems.{nth, one-place, position-is}
use Rattle.flat_programs.proofs.ExecutableRows.{with_line, belongs, leading-at, following-at}
use Rattle.flat_programs.proofs.FlatSuccessors.{IsMarkAt, mark-of, end-number, loop-of}

abbrev pub is_loop_line : FlatLine → Bool
is_loop_line l = is_loop l.stmt

abbrev pub is_mark_line : FlatLine → Bool
is_mark_line l = is_mark l.stmt

end-of : (stmt : Flat) → is_loop stmt ≡ true → (end : ℕ) × (range_end stmt ≡ end ∷ [])
end-of (DoLoop end var first last step) is = (end, refl)
end-of Mark is = absurd cc
end-of (LogicalIf cond target) is = absurd cc
end-of (Assignment target value) is = absurd cc
end-of (Output items) is = absurd cc
end-of (ArithmeticIf value below at above) is = absurd cc
end-of (ComputedGoTo value targets) is = absurd cc
end-of (Jump target) is = absurd cc
end-of Finish is = absurd cc

pub loop-ends : (stmt : Flat) (end : ℕ) → range_end stmt ≡ end ∷ [] → is_loop stmt ≡ true
loop-ends (DoLoop end var first last step) e is = refl
loop-ends Mark e is = absurd cc
loop-ends (LogicalIf cond target) e is = absurd cc
loop-ends (Assignment target value) e is = absurd cc
loop-ends (Output items) e is = absurd cc
loop-ends (ArithmeticIf value below at above) e is = absurd cc
loop-ends (ComputedGoTo value targets) e is = absurd cc
loop-ends (Jump target) e is = absurd cc
loop-ends Finish e is = absurd cc

ends-range : (number : ℕ) (stmt : Flat) → ends_at number stmt ≡ true → range_end stmt ≡ number ∷ []
ends-range number (DoLoop end var first last step) passes =
    let e : (end == number) ≡ true = passes in
    let same : end ≡ number = search rules in
    ap (λ n. n ∷ []) same
ends-range number Mark is = absurd cc
ends-range number (LogicalIf cond target) is = absurd cc
ends-range number (Assignment target value) is = absurd cc
ends-range number (Output items) is = absurd cc
ends-range number (ArithmeticIf value below at above) is = absurd cc
ends-range number (ComputedGoTo value targets) is = absurd cc
ends-range number (Jump target) is = absurd cc
ends-range number Finish is = absurd cc

range-ends : (number : ℕ) (stmt : Flat) → range_end stmt ≡ number ∷ [] → ends_at number stmt ≡ true
range-ends number (DoLoop end var first last step) is =
    let same : end ≡ number = cc in
    let r : (end == number) ≡ true = search rules in
    r
range-ends number Mark is = absurd cc
range-ends number (LogicalIf cond target) is = absurd cc
range-ends number (Assignment target value) is = absurd cc
range-ends number (Output items) is = absurd cc
range-ends number (ArithmeticIf value below at above) is = absurd cc
range-ends number (ComputedGoTo value targets) is = absurd cc
range-ends number (Jump target) is = absurd cc
range-ends number Finish is = absurd cc

abbrev number_in : Option Loop → ℕ
number_in None = 0
number_in (Some l) = l.number

pub number-is : (n : ℕ) (o : Option Loop) → is_number n o ≡ true → (loop : Loop) × (o ≡ Some loop) × (loop.number ≡ n)
number-is n None is = absurd cc
number-is n (Some loop) is =
    let e : (loop.number == n) ≡ true = is in
    let same : loop.number ≡ n = search rules in
    (loop, refl, same)

pub is-number : (n : ℕ) (loop : Loop) → loop.number ≡ n → is_number n (Some loop) ≡ true
is-number n loop is =
    let r : (loop.number == n) ≡ true = search rules in
    r

module _ (flat : List FlatLine) where
  -- ---- executables that begin a DO

  pub record Begins (k : ℕ) (loop : Loop) : Type 0 where
    pub place : ℕ
    pub line : FlatLine
    pub is : slice_get flat place ≡ Some line
    pub loops : is_loop_line line ≡ true
    pub index : k ≡ first_of flat place
    pub made : begun (leading flat place line.stmt) ≡ Some loop
    pub number : loop.number ≡ loop_at flat place

  begun-led : (place : ℕ) (stmt : Flat) (loop : Loop) → begun (leading flat place stmt) ≡ Some loop → (is_loop stmt ≡ true) × (loop.number ≡ loop_at flat place)
  begun-led place (DoLoop end var first last step) loop is = (refl, ap number_in (sym is))
  begun-led place Mark loop is = absurd cc
  begun-led place (LogicalIf cond target) loop is = absurd cc
  begun-led place (Assignment target value) loop is = absurd cc
  begun-led place (Output items) loop is = absurd cc
  begun-led place (ArithmeticIf value below at above) loop is = absurd cc
  begun-led place (ComputedGoTo value targets) loop is = absurd cc
  begun-led place (Jump target) loop is = absurd cc
  begun-led place Finish loop is = absurd cc

  none-begun : (b : Bool) (made kind : ExecKind) → begun made ≡ None → (if b then Some made else None) ≡ Some kind → begun kind ≡ None
  none-begun true made kind none is = let same : made ≡ kind = cc in ap begun (sym same) ∙ none
  none-begun false made kind none is = absurd cc

  begun-following : (place : ℕ) (stmt : Flat) (kind : ExecKind) → following flat place stmt ≡ Some kind → begun kind ≡ None
  begun-following place Mark kind is = none-begun (is_end flat (mark_at flat place)) (increment flat (loop_to flat (mark_at flat place)) (first_of flat (place + 1))) kind refl is
  begun-following place (LogicalIf cond target) kind is = let same : Pass (marked flat target) ≡ kind = cc in ap begun (sym same)
  begun-following place (DoLoop end var first last step) kind is = absurd cc
  begun-following place (Assignment target value) kind is = absurd cc
  begun-following place (Output items) kind is = absurd cc
  begun-following place (ArithmeticIf value below at above) kind is = absurd cc
  begun-following place (ComputedGoTo value targets) kind is = absurd cc
  begun-following place (Jump target) kind is = absurd cc
  begun-following place Finish kind is = absurd cc

  begins-by : (k : ℕ) (loop : Loop) (o : Option Exec) → slice_get (executables flat) k ≡ o → begun_in o ≡ Some loop → Begins k loop
  begins-by k loop None at is = absurd cc
  begins-by k loop (Some exec) at is =
      let b = belongs flat k exec at in
      ⊎_elim
      (λ h.
      let made : begun (leading flat b.place b.line.stmt) ≡ Some loop = ap begun h.1 ∙ is in
      let led = begun-led b.place b.line.stmt loop made in
      record { place = b.place; line = b.line; is = b.of.is; loops = led.0; index = h.0; made = made; number = led.1 })
      (λ h. let both : None ≡ Some loop = sym (begun-following b.place b.line.stmt exec.kind h.1) ∙ is in absurd cc)
      b.of.which

  pub begins : (k : ℕ) (loop : Loop) → begun_at (executables flat) k ≡ Some loop → Begins k loop
  begins k loop is = begins-by k loop (slice_get (executables flat) k) refl is

  -- ---- executables that increment a DO

  -- what the increment at a place names
  abbrev pub loop_ended : ℕ → Loop
  loop_ended place = record {
    number = loop_at flat (loop_to flat (mark_at flat place));
    variable = variable_in (slice_get flat (loop_to flat (mark_at flat place)));
    body = first_of flat (loop_to flat (mark_at flat place) + 1);
    exit = first_of flat (place + 1);
  }

  pub record Increments (k : ℕ) (loop : Loop) : Type 0 where
    pub place : ℕ
    pub line : FlatLine
    pub is : slice_get flat place ≡ Some line
    pub mark : line.stmt ≡ Mark
    pub ends : is_end flat (mark_at flat place) ≡ true
    pub index : k ≡ first_of flat place + 1
    pub loop_is : loop_ended place ≡ loop

  incremented-led : (place : ℕ) (stmt : Flat) → incremented (leading flat place stmt) ≡ None
  incremented-led place (DoLoop end var first last step) = refl
  incremented-led place Mark = refl
  incremented-led place (LogicalIf cond target) = refl
  incremented-led place (Assignment target value) = refl
  incremented-led place (Output items) = refl
  incremented-led place (ArithmeticIf value below at above) = refl
  incremented-led place (ComputedGoTo value targets) = refl
  incremented-led place (Jump target) = refl
  incremented-led place Finish = refl

  mark-incremented : (place : ℕ) (kind : ExecKind) (loop : Loop) (b : Bool) → is_end flat (mark_at flat place) ≡ b → (if b then Some (increment flat (loop_to flat (mark_at flat place)) (first_of flat (place + 1))) else None) ≡ Some kind → incremented kind ≡ Some loop → (is_end flat (mark_at flat place) ≡ true) × (loop_ended place ≡ loop)
  mark-incremented place kind loop true ends follows is =
      let same : increment flat (loop_to flat (mark_at flat place)) (first_of flat (place + 1)) ≡ kind = cc in
      let both : Some (loop_ended place) ≡ Some loop = ap incremented same ∙ is in
      (ends, cc)
  mark-incremented place kind loop false ends follows is = absurd cc

  incremented-following : (place : ℕ) (stmt : Flat) (kind : ExecKind) (loop : Loop) → following flat place stmt ≡ Some kind → incremented kind ≡ Some loop → (stmt ≡ Mark) × ((is_end flat (mark_at flat place) ≡ true) × (loop_ended place ≡ loop))
  incremented-following place Mark kind loop follows is =
      let e : (if is_end flat (mark_at flat place) then Some (increment flat (loop_to flat (mark_at flat place)) (first_of flat (place + 1))) else None) ≡ Some kind = follows in
      (refl, mark-incremented place kind loop (is_end flat (mark_at flat place)) refl e is)
  incremented-following place (LogicalIf cond target) kind loop follows is =
      let same : Pass (marked flat target) ≡ kind = cc in
      let both : None ≡ Some loop = ap incremented same ∙ is in
      absurd cc
  incremented-following place (DoLoop end var first last step) kind loop follows is = absurd cc
  incremented-following place (Assignment target value) kind loop follows is = absurd cc
  incremented-following place (Output items) kind loop follows is = absurd cc
  incremented-following place (ArithmeticIf value below at above) kind loop follows is = absurd cc
  incremented-following place (ComputedGoTo value targets) kind loop follows is = absurd cc
  incremented-following place (Jump target) kind loop follows is = absurd cc
  incremented-following place Finish kind loop follows is = absurd cc

  increments-by : (k : ℕ) (loop : Loop) (o : Option Exec) → slice_get (executables flat) k ≡ o → incremented_in o ≡ Some loop → Increments k loop
  increments-by k loop None at is = absurd cc
  increments-by k loop (Some exec) at is =
      let b = belongs flat k exec at in
      ⊎_elim
      (λ h. let both : None ≡ Some loop = sym (incremented-led b.place b.line.stmt) ∙ ap incremented h.1 ∙ is in absurd cc)
      (λ h.
      let r = incremented-following b.place b.line.stmt exec.kind loop h.1 is in
      record { place = b.place; line = b.line; is = b.of.is; mark = r.0; ends = r.1.0; index = h.0; loop_is = r.1.1 })
      b.of.which

  pub increments-it : (k : ℕ) (loop : Loop) → incremented_at (executables flat) k ≡ Some loop → Increments k loop
  increments-it k loop is = increments-by k loop (slice_get (executables flat) k) refl is

-- ---- the DO with a number

-- a DO with this number: where it stands, and the number of its mark
pub record IsDoAt (flat : List FlatLine) (n : ℕ) : Type 0 where
  pub head : ℕ
  pub line : FlatLine
  pub is : slice_get flat head ≡ Some line
  pub loops : is_loop_line line ≡ true
  pub number : loop_at flat head ≡ n
  pub end : ℕ
  pub ends : range_end line.stmt ≡ end ∷ []

pub do-of : (flat : List FlatLine) (n : ℕ) → n < loop_count flat → IsDoAt flat n
do-of flat n less =
    let r = nth is_loop_line flat n less in
    let e = end-of r.item.stmt r.passes in
    record { head = r.place; line = r.item; is = r.is; loops = r.passes; number = r.above; end = e.0; ends = e.1 }

module _ (flat : List FlatLine) (form : IsFlat flat) (n : ℕ) (d : IsDoAt flat n) where
  abbrev pub last : ℕ
  last = place_of flat d.end

  pub span : IsSpan flat d.head last
  span = record { here = d.line; is = d.is; end = d.end; ends = d.ends; place = refl }

  pub its-mark : IsMarkAt flat form d.end last
  its-mark = mark-of flat form d.end (end-number flat form d.head d.end d.line d.is d.ends)

  -- the same DO, if it has the same number
  pub one-do : (place : ℕ) (l : FlatLine) → slice_get flat place ≡ Some l → is_loop_line l ≡ true → loop_at flat place ≡ n → place ≡ d.head
  one-do place l is loops number = one-place is_loop_line flat place d.head l d.line is loops d.is d.loops (number ∙ sym d.number)

  -- ---- its start

  started-elsewhere : (k : ℕ) (exec : Exec) → k < first_of flat d.head → slice_get (executables flat) k ≡ Some exec → is_number n (begun exec.kind) ≡ true → ⊥
  started-elsewhere k exec less at is =
      let r = number-is n (begun exec.kind) is in
      let b = begins flat k r.0 (ap begun_in at ∙ r.1) in
      let same = one-do b.place b.line b.is b.loops (sym b.number ∙ r.2) in
      let e = ap (first_of flat) same in
      let i = b.index in
      absurd (omega (arith, less, e, i))

  -- what the DO at its start names
  pub record IsStarted : Type 0 where
    pub loop : Loop
    pub made : begun (leading flat d.head d.line.stmt) ≡ Some loop
    pub number : loop.number ≡ n
    pub variable : loop.variable ≡ variable_in (slice_get flat d.head)
    pub body : loop.body ≡ first_of flat (d.head + 1)
    pub exit : loop.exit ≡ first_of flat (last + 1)

  started-by : (stmt : Flat) → range_end stmt ≡ d.end ∷ [] → (loop : Loop) × (begun (leading flat d.head stmt) ≡ Some loop) × (loop.number ≡ loop_at flat d.head) × (loop.variable ≡ variable_in (Some (record { line = d.line.line; stmt = stmt }))) × (loop.body ≡ first_of flat (d.head + 1)) × (loop.exit ≡ first_of flat (last + 1))
  started-by (DoLoop end var first last' step) is =
      let same : end ≡ d.end = cc in
      (record { number = loop_at flat d.head; variable = var; body = first_of flat (d.head + 1); exit = first_of flat (place_of flat end + 1) }, refl, refl, refl, refl, ap (λ e. first_of flat (place_of flat e + 1)) same)
  started-by Mark is = absurd cc
  started-by (LogicalIf cond target) is = absurd cc
  started-by (Assignment target value) is = absurd cc
  started-by (Output items) is = absurd cc
  started-by (ArithmeticIf value below at above) is = absurd cc
  started-by (ComputedGoTo value targets) is = absurd cc
  started-by (Jump target) is = absurd cc
  started-by Finish is = absurd cc

  pub started : IsStarted
  started =
      let r = started-by d.line.stmt d.ends in
      record { loop = r.0; made = r.1; number = r.2 ∙ d.number; variable = r.3 ∙ ap variable_in (sym d.is); body = r.4; exit = r.5 }

  pub start-is : do_start (executables flat) n ≡ first_of flat d.head
  start-is = position-is (λ (exec : Exec). is_number n (begun exec.kind)) (executables flat) (first_of flat d.head) (with_line d.line.line (leading flat d.head d.line.stmt)) (leading-at flat d.head d.line d.is)
      (ap (is_number n) started.made ∙ is-number n started.loop started.number)
      (λ k exec less at. false_from_ne_true (is_number n (begun exec.kind)) (started-elsewhere k exec less at))

  pub one-start : (k : ℕ) (other : Loop) → begun_at (executables flat) k ≡ Some other → other.number ≡ n → k ≡ first_of flat d.head
  one-start k other at number =
      let b = begins flat k other at in
      b.index ∙ ap (first_of flat) (one-do b.place b.line b.is b.loops (sym b.number ∙ number))

  -- ---- its increment

  ended-elsewhere : (k : ℕ) (l : FlatLine) → k < d.head → slice_get flat k ≡ Some l → ends_at d.end l.stmt ≡ true → ⊥
  ended-elsewhere k l less at is =
      let other : IsSpan flat k last = record { here = l; is = at; end = d.end; ends = ends-range d.end l.stmt is; place = refl } in
      let same = form.one_range k d.head last other span in
      absurd (omega (arith, less, same))

  pub loop_to-is : loop_to flat d.end ≡ d.head
  loop_to-is = position-is (λ (l : FlatLine). ends_at d.end l.stmt) flat d.head d.line d.is (range-ends d.end d.line.stmt d.ends) (λ k l less at. false_from_ne_true (ends_at d.end l.stmt) (ended-elsewhere k l less at))

  pub is-end : is_end flat d.end ≡ true
  is-end =
      let within = slice_get_within flat d.head d.line d.is in
      let less : loop_to flat d.end < length flat = let e = loop_to-is in omega (arith, e, within) in
      let r : nat_lt (loop_to flat d.end) (length flat) ≡ true = search rules in
      r

  abbrev pub next_kind : ExecKind
  next_kind = increment flat (loop_to flat (mark_at flat last)) (first_of flat (last + 1))

  pub next-follows : following flat last its-mark.line.stmt ≡ Some next_kind
  next-follows =
      ap (following flat last) its-mark.mark ∙ ap (λ b. if b then Some next_kind else None) (ap (is_end flat) its-mark.numbered ∙ is-end)

  pub next-at : incremented_at (executables flat) (first_of flat last + 1) ≡ Some (loop_ended flat last)
  next-at = ap incremented_in (following-at flat last its-mark.line next_kind its-mark.is next-follows)

  pub head-is : loop_to flat (mark_at flat last) ≡ d.head
  head-is = ap (loop_to flat) its-mark.numbered ∙ loop_to-is

  pub ended-number : (loop_ended flat last).number ≡ n
  ended-number = ap (loop_at flat) head-is ∙ d.number

  pub one-next : (k : ℕ) (other : Loop) → incremented_at (executables flat) k ≡ Some other → other.number ≡ n → k ≡ first_of flat last + 1
  one-next k other at number =
      let i = increments-it flat k other at in
      let r = loop-of flat form (mark_at flat i.place) i.ends in
      let its : loop_at flat (loop_to flat (mark_at flat i.place)) ≡ n = ap (λ (l : Loop). l.number) i.loop_is ∙ number in
      let same : loop_to flat (mark_at flat i.place) ≡ d.head = one-do (loop_to flat (mark_at flat i.place)) r.line r.is (loop-ends r.line.stmt (mark_at flat i.place) r.ends) its in
      let here : Some r.line ≡ Some d.line = sym r.is ∙ ap (slice_get flat) same ∙ d.is in
      let line : r.line ≡ d.line = cc in
      let both : mark_at flat i.place ∷ [] ≡ d.end ∷ [] = sym r.ends ∙ ap (λ (l : FlatLine). range_end l.stmt) line ∙ d.ends in
      let end : mark_at flat i.place ≡ d.end = cc in
      let m = its-mark in
      let place : i.place ≡ last = one-place is_mark_line flat i.place last i.line m.line i.is (ap is_mark i.mark) m.is (ap is_mark m.mark) (let e = end in let f = m.numbered in omega (arith, e, f)) in
      i.index ∙ ap (λ p. first_of flat p + 1) place

  incremented-elsewhere : (k : ℕ) (exec : Exec) → k < first_of flat last + 1 → slice_get (executables flat) k ≡ Some exec → is_number n (incremented exec.kind) ≡ true → ⊥
  incremented-elsewhere k exec less at is =
      let r = number-is n (incremented exec.kind) is in
      let same = one-next k r.0 (ap incremented_in at ∙ r.1) r.2 in
      absurd (omega (arith, less, same))

  pub next-is : do_next (executables flat) n ≡ first_of flat last + 1
  next-is = position-is (λ (exec : Exec). is_number n (incremented exec.kind)) (executables flat) (first_of flat last + 1) (with_line its-mark.line.line next_kind) (following-at flat last its-mark.line next_kind its-mark.is next-follows)
      (is-number n (loop_ended flat last) ended-number)
      (λ k exec less at. false_from_ne_true (is_number n (incremented exec.kind)) (incremented-elsewhere k exec less at))
