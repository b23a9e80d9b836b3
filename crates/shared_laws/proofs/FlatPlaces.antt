-- The executables, the marks and the DOs of flat statements, by their places.
use Rattle.std.proofs.Common.{◌≡◌, ℕ, zero, suc, ◌+◌, ◌-◌, ◌<◌, ◌≤◌, ◌⊎◌, inl, inr, ⊎_elim, Bool, true, List, [], ◌∷◌, length, map, take, Option, Some, None, option_to_list, refl, sym, ap, subst, ◌∙◌, arith}
use Rattle.std.specs.Prelude.{slice_get}
use Rattle.std.specs.List.{count_by, range_with_len}
use Rattle.std.proofs.lemmas.Bool.{cases_lt, ltb-true}
use Rattle.std.proofs.lemmas.Option.{slice_get_within, get_or_from_slice_get}
use Rattle.list_laws.proofs.Counts.{bit, count-append, count-cons}
use Rattle.list_laws.proofs.Ranges.{range_more}
use Rattle.f77_tree.specs.declared.programs.Exec.{Exec}
use Rattle.f77_tree.specs.declared.programs.ExecKind.{ExecKind}
use Rattle.f77_tree.proofs.AllLemmas.{All-get}
use Rattle.flat_programs.specs.declared.statements.Flat.{Flat}
use Rattle.flat_programs.specs.declared.statements.Flat.TheVariants.{Mark, Assignment, Output, LogicalIf, ArithmeticIf, ComputedGoTo, DoLoop, Jump, Finish}
use Rattle.flat_programs.specs.declared.statements.FlatLine.{FlatLine}
use Rattle.flat_programs.specs.Executables.{executables, executables_at, executables_in, first_of, following, leading, width, width_in}
use Rattle.flat_programs.specs.FlatForm.{HasNumbers, IsFlat, IsNumber}
use Rattle.flat_programs.specs.Marks.{ends_at, is_end, is_mark, is_mark_in, loop_to, mark_at, mark_count, mark_places, place_of}
use Rattle.shared_laws.proofs.ListPlaces.{count-next, first-found, in_row, item_at, nth, row_at, start, start-more, IsInRow}
use Rattle.shared_forms.proofs.SharedLineLemmas.{executables_in-length, first-more, first-up}
use Rattle.shared_forms.proofs.TemporaryTable.{place-passed}

abbrev pub with_line : ℕ → ExecKind → Exec
with_line line kind = record { line = line; kind = kind }

module _ (flat : List FlatLine) where
  -- ---- first executables

  pub first_of-next : (place : ℕ) (l : FlatLine) → slice_get flat place ≡ Some l → first_of flat (place + 1) ≡ first_of flat place + width flat place l.stmt
  first_of-next place l is = first-more flat place ∙ ap (λ (o : Option FlatLine). first_of flat place + width_in flat place o) is

  first-start : (place : ℕ) → first_of flat place ≡ start (executables_at flat) place
  first-start zero = refl
  first-start (suc place) =
      let add : place + 1 ≡ suc place = omega arith in
      let a = first-more flat place in
      let b = start-more (executables_at flat) place in
      let c = first-start place in
      let d = executables_in-length flat place (slice_get flat place) in
      subst (λ m. first_of flat m ≡ start (executables_at flat) m) add (omega (arith, a, b, c, d))

  first-rises : (a b : ℕ) → a ≤ b → first_of flat a ≤ first_of flat b
  first-rises a b le = let e : a + (b - a) ≡ b = omega (arith, le) in let up = first-up flat a (b - a) in let same = ap (first_of flat) e in omega (arith, up, same)

  -- an executable before the first one of a place is one of a place before it
  pub before-place : (a b : ℕ) → first_of flat a < first_of flat b → a < b
  before-place a b less = ⊎_elim (λ lt. lt) (λ (le : b ≤ a). let up = first-rises b a le in absurd (omega (arith, up, less))) (cases_lt a b)

  -- ---- executables of a statement

  pub leading-at : (place : ℕ) (l : FlatLine) → slice_get flat place ≡ Some l → slice_get (executables flat) (first_of flat place) ≡ Some (with_line l.line (leading flat place l.stmt))
  leading-at place l is =
      let here : slice_get (executables_at flat place) 0 ≡ Some (with_line l.line (leading flat place l.stmt)) = ap (λ (o : Option FlatLine). slice_get (executables_in flat place o) 0) is in
      let none : first_of flat place ≡ start (executables_at flat) place + 0 = let s = first-start place in omega (arith, s) in
      ap (slice_get (executables flat)) none ∙ row_at (executables_at flat) (length flat) place 0 (with_line l.line (leading flat place l.stmt)) (slice_get_within flat place l is) here

  pub following-at : (place : ℕ) (l : FlatLine) (kind : ExecKind) → slice_get flat place ≡ Some l → following flat place l.stmt ≡ Some kind → slice_get (executables flat) (first_of flat place + 1) ≡ Some (with_line l.line kind)
  following-at place l kind is follows =
      let here : slice_get (executables_at flat place) 1 ≡ Some (with_line l.line kind) =
      ap (λ (o : Option FlatLine). slice_get (executables_in flat place o) 1) is
      ∙ ap (λ (o : Option ExecKind). slice_get (map (with_line l.line) (leading flat place l.stmt ∷ option_to_list o)) 1) follows
      in
      let one : first_of flat place + 1 ≡ start (executables_at flat) place + 1 = let s = first-start place in omega (arith, s) in
      ap (slice_get (executables flat)) one ∙ row_at (executables_at flat) (length flat) place 1 (with_line l.line kind) (slice_get_within flat place l is) here

  -- an executable is the first or the second one of a statement
  pub record Belongs (exec : Exec) : Type 0 where
    pub place : ℕ
    pub l : FlatLine
    pub is : slice_get flat place ≡ Some l
    pub which : (leading flat place l.stmt ≡ exec.kind) ⊎ (following flat place l.stmt ≡ Some exec.kind)

  row-kind : (j line : ℕ) (first : ExecKind) (second : Option ExecKind) (exec : Exec) → slice_get (map (with_line line) (first ∷ option_to_list second)) j ≡ Some exec → (first ≡ exec.kind) ⊎ (second ≡ Some exec.kind)
  row-kind zero line first second exec is = let same : with_line line first ≡ exec = cc in inl (ap (λ (e : Exec). e.kind) same)
  row-kind (suc j) line first None exec is = absurd cc
  row-kind (suc zero) line first (Some kind) exec is = let same : with_line line kind ≡ exec = cc in inr (ap (λ (e : Exec). Some e.kind) same)
  row-kind (suc (suc j)) line first (Some kind) exec is = absurd cc

  in-statement : (place j : ℕ) (exec : Exec) (o : Option FlatLine) → slice_get flat place ≡ o → slice_get (executables_in flat place o) j ≡ Some exec → Belongs exec
  in-statement place j exec None is at = absurd cc
  in-statement place j exec (Some l) is at = record { place = place; l = l; is = is; which = row-kind j l.line (leading flat place l.stmt) (following flat place l.stmt) exec at }

  pub belongs : (k : ℕ) (exec : Exec) → slice_get (executables flat) k ≡ Some exec → Belongs exec
  belongs k exec is = let r : IsInRow (executables_at flat) (length flat) k exec = in_row (executables_at flat) (length flat) k exec is in in-statement r.row r.place exec (slice_get flat r.row) refl r.is

  -- ---- marks

  abbrev test : ℕ → Bool
  test place = is_mark_in (slice_get flat place)

  marks-more : (n : ℕ) → count_by test (range_with_len 0 (n + 1)) ≡ count_by test (range_with_len 0 n) + bit (test n)
  marks-more n =
      let one : count_by test (n ∷ []) ≡ bit (test n) = let c = count-cons test n [] in omega (arith, c) in
      ap (count_by test) (range_more n) ∙ count-append test (range_with_len 0 n) (n ∷ []) ∙ ap (λ m. count_by test (range_with_len 0 n) + m) one

  marks-before : (place : ℕ) → place ≤ length flat → count_by test (range_with_len 0 place) ≡ count_by (λ l. is_mark l.stmt) (take place flat)
  marks-before zero few = refl
  marks-before (suc place) few =
      let t : FlatLine → Bool = λ l. is_mark l.stmt in
      let add : place + 1 ≡ suc place = omega arith in
      let item = item_at flat place (omega (arith, few)) in
      let own = marks-more place in
      let same = ap (λ (o : Option FlatLine). bit (is_mark_in o)) item.1 in
      let next = count-next t flat place item.0 item.1 in
      let rest = marks-before place (omega (arith, few)) in
      subst (λ n. count_by test (range_with_len 0 n) ≡ count_by t (take n flat)) add (omega (arith, own, same, next, rest))

  -- a mark is the one with its number
  pub mark-numbered : (place number : ℕ) (l : FlatLine) → slice_get flat place ≡ Some l → is_mark l.stmt ≡ true → mark_at flat place ≡ number → place_of flat number ≡ place
  mark-numbered place number l is mark numbered =
      let within = slice_get_within flat place l is in
      let there = place-passed test place (length flat) within (ap is_mark_in is ∙ mark) in
      let before = marks-before place (omega (arith, within)) in
      let index : count_by test (range_with_len 0 place) ≡ number - 1 = omega (arith, before, numbered) in
      get_or_from_slice_get (mark_places flat) (number - 1) place 0 (ap (slice_get (mark_places flat)) (sym index) ∙ there)

  pub record IsMarkAt (number place : ℕ) : Type 0 where
    pub line : FlatLine
    pub is : slice_get flat place ≡ Some line
    pub mark : line.stmt ≡ Mark
    pub numbered : mark_at flat place ≡ number

  is-mark : (stmt : Flat) → is_mark stmt ≡ true → stmt ≡ Mark
  is-mark Mark is = refl
  is-mark (Assignment target value) is = absurd cc
  is-mark (Output items) is = absurd cc
  is-mark (LogicalIf cond target) is = absurd cc
  is-mark (ArithmeticIf value below at above) is = absurd cc
  is-mark (ComputedGoTo value targets) is = absurd cc
  is-mark (DoLoop end var first last step) is = absurd cc
  is-mark (Jump target) is = absurd cc
  is-mark Finish is = absurd cc

  -- the mark with a number
  pub mark-of : (number : ℕ) → IsNumber (mark_count flat) number → IsMarkAt number (place_of flat number)
  mark-of number is =
      let m = nth (λ (l : FlatLine). is_mark l.stmt) flat (number - 1) (omega (arith, is.least, is.most)) in
      let before = m.before in
      let numbered : mark_at flat m.place ≡ number = omega (arith, before, is.least) in
      subst (IsMarkAt number) (sym (mark-numbered m.place number m.item m.is m.passes numbered))
      (record { line = m.item; is = m.is; mark = is-mark m.item.stmt m.passes; numbered = numbered })

  -- ---- DOs

  -- the DO whose range ends at a mark
  pub record IsLoopTo (number head : ℕ) : Type 0 where
    pub line : FlatLine
    pub is : slice_get flat head ≡ Some line

  pub loop-of : (number : ℕ) → is_end flat number ≡ true → IsLoopTo number (loop_to flat number)
  loop-of number is =
      let r = first-found (λ (l : FlatLine). ends_at number l.stmt) flat (ltb-true (loop_to flat number) (length flat) is) in
      record { line = r.item; is = r.is }

  pub numbers-of : IsFlat flat → (place : ℕ) (l : FlatLine) → slice_get flat place ≡ Some l → HasNumbers (mark_count flat) l.stmt
  numbers-of form place l is = All-get (λ (y : FlatLine). HasNumbers (mark_count flat) y.stmt) flat place l form.numbered is
