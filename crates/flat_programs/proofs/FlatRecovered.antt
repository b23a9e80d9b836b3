-- The executables of a flat program tell its statements.
use Rattle.std.proofs.Common.{rules, ◌≡◌, ℕ, zero, suc, ◌+◌, ◌-◌, ◌<◌, ◌≤◌, Bool, true, false, List, [], ◌∷◌, ◌++◌, length, map, take, All, refl, sym, ap, ◌∙◌, subst, ⊎_elim, arith, append-nil}
use Rattle.std.specs.Prelude.{slice_get, Option, Some, None, option_to_list, if◌then◌else◌, count_by, not, ◌&&◌, ◌==◌}
use Rattle.std.proofs.lemmas.Bool.{cases_lt, false_from_ne_true}
use Rattle.std.proofs.lemmas.Option.{slice_get_within}
use Rattle.list_laws.proofs.Counts.{bit}
use Rattle.f77_tree.specs.declared.expressions.Expr.{Expr}
use Rattle.f77_tree.specs.declared.programs.Exec.{Exec}
use Rattle.f77_tree.specs.declared.programs.ExecKind.{ExecKind}
use Rattle.f77_tree.specs.declared.programs.ExecKind.TheVariants.{Pass}
use Rattle.f77_tree.proofs.AllLemmas.{All-first, All-rest}
use Rattle.flat_programs.specs.declared.statements.Flat.{Flat}
use Rattle.flat_programs.specs.declared.statements.Flat.TheVariants.{Mark, Assignment, Output, LogicalIf, ArithmeticIf, ComputedGoTo, DoLoop, Jump, Finish}
use Rattle.flat_programs.specs.declared.statements.FlatLine.{FlatLine}
use Rattle.flat_programs.specs.Marks.{is_mark, mark_at, mark_count, place_of, is_end, is_loop, loop_at, loop_to}
use Rattle.flat_programs.specs.Executables.{width_by, width, first_of, marked, beyond, leading, following, increment, executables}
use Rattle.flat_programs.specs.FlatForm.{IsFlat, HasNumbers, IsNumber, jumps, range_end}
use Rattle.flat_programs.specs.Recovered.{is_test, is_test_in, follows_test, goes_on, goes_on_in, is_mark_at, number_at, idle_statement, statement_of, lines_in, lines_at, recovered}
use Rattle.flat_programs.proofs.FlowLemmas.{first_of-next}
use Rattle.flat_programs.proofs.MarkLemmas.{item_at, take_next, take_whole, marks_above-next}
use Rattle.flat_programs.proofs.Rows.{rows, rows-more}
use Rattle.flat_programs.proofs.ExecutableRows.{with_line, kinds-width, execs-length, first-less, leading-at, following-at}
use Rattle.flat_programs.proofs.RecoveredLemmas.{passed, passed-more, value-at}
use Rattle.flat_programs.proofs.FlatSuccessors.{mark-of, first-exists, numbers-of, end-number}
use Rattle.flat_programs.proofs.FlatDos.{IsDoAt, is-end}

and-false : (b : Bool) → (b && false) ≡ false
and-false true = refl
and-false false = refl

-- ---- tests

module _ (flat : List FlatLine) where
  abbrev pub execs : List Exec
  execs = executables flat

  -- what has no second executable is no test
  untested-alone : (place : ℕ) (stmt : Flat) → following flat place stmt ≡ None → is_test (leading flat place stmt) ≡ false
  untested-alone place (LogicalIf cond target) none = absurd cc
  untested-alone place Mark none = refl
  untested-alone place (Assignment target value) none = refl
  untested-alone place (Output items) none = refl
  untested-alone place (ArithmeticIf value below at above) none = refl
  untested-alone place (ComputedGoTo value targets) none = refl
  untested-alone place (DoLoop end var first last step) none = refl
  untested-alone place (Jump target) none = refl
  untested-alone place Finish none = refl

  untested-by : (b : Bool) (made kind : ExecKind) → is_test made ≡ false → (if b then Some made else None) ≡ Some kind → is_test kind ≡ false
  untested-by true made kind none is = let same : made ≡ kind = cc in ap is_test (sym same) ∙ none
  untested-by false made kind none is = absurd cc

  -- no second executable is a test
  untested-second : (place : ℕ) (stmt : Flat) (kind : ExecKind) → following flat place stmt ≡ Some kind → is_test kind ≡ false
  untested-second place Mark kind is = untested-by (is_end flat (mark_at flat place)) (increment flat (loop_to flat (mark_at flat place)) (first_of flat (place + 1))) kind refl is
  untested-second place (LogicalIf cond target) kind is = let same : Pass (marked flat target) ≡ kind = cc in ap is_test (sym same)
  untested-second place (Assignment target value) kind is = absurd cc
  untested-second place (Output items) kind is = absurd cc
  untested-second place (ArithmeticIf value below at above) kind is = absurd cc
  untested-second place (ComputedGoTo value targets) kind is = absurd cc
  untested-second place (DoLoop end var first last step) kind is = absurd cc
  untested-second place (Jump target) kind is = absurd cc
  untested-second place Finish kind is = absurd cc

  -- the last executable of a statement is no test
  untested-last : (place : ℕ) (l : FlatLine) (o : Option ExecKind) → slice_get flat place ≡ Some l → following flat place l.stmt ≡ o → is_test_in (slice_get execs (first_of flat place + length (option_to_list o))) ≡ false
  untested-last place l None is follows =
      let e : first_of flat place + 0 ≡ first_of flat place = omega arith in
      ap (λ k. is_test_in (slice_get execs k)) e ∙ ap is_test_in (leading-at flat place l is) ∙ untested-alone place l.stmt follows
  untested-last place l (Some kind) is follows =
      ap is_test_in (following-at flat place l kind is follows) ∙ untested-second place l.stmt kind follows

  -- no first executable stands right after a test
  pub first-untested : (place : ℕ) → place ≤ length flat → follows_test execs (first_of flat place) ≡ false
  first-untested zero le = refl
  first-untested (suc place) le =
      let item = item_at flat place (omega (arith, le)) in
      let l = item.0 in
      let add : place + 1 ≡ suc place = omega arith in
      let size = kinds-width flat place l.stmt in
      let next = first_of-next flat place l item.1 in
      let index : first_of flat (place + 1) ≡ suc (first_of flat place + length (option_to_list (following flat place l.stmt))) = omega (arith, size, next) in
      ap (λ m. follows_test execs (first_of flat m)) (sym add) ∙ ap (follows_test execs) index ∙ untested-last place l (following flat place l.stmt) item.1 refl

  -- the GO TO of a logical IF stands right after its test
  pub second-tested : (place : ℕ) (l : FlatLine) (cond : Expr) (target : ℕ) → slice_get flat place ≡ Some l → l.stmt ≡ LogicalIf cond target → follows_test execs (first_of flat place + 1) ≡ true
  second-tested place l cond target is same =
      let e : first_of flat place + 1 ≡ suc (first_of flat place) = omega arith in
      ap (follows_test execs) e ∙ ap is_test_in (leading-at flat place l is) ∙ ap (λ stmt. is_test (leading flat place stmt)) same

-- ---- marks

module _ (flat : List FlatLine) (form : IsFlat flat) where
  abbrev at_mark : ℕ → Bool
  at_mark = is_mark_at (executables flat)

  zero-differs : (n : ℕ) → (0 == n + 1) ≡ false
  zero-differs n = search rules

  next-same : (n : ℕ) → (n + 1 == n + 1) ≡ true
  next-same n = search rules

  -- a GO TO never leads to the executable after it
  jump-away : (place number : ℕ) (l : FlatLine) → slice_get flat place ≡ Some l → l.stmt ≡ Jump number → (marked flat number == first_of flat place + 1) ≡ false
  jump-away place number l is jump =
      let numbers : All (IsNumber (mark_count flat)) (number ∷ []) = subst (λ (stmt : Flat). All (IsNumber (mark_count flat)) (jumps stmt)) jump (numbers-of flat form place l is).jumps in
      let n : IsNumber (mark_count flat) number = All-first (IsNumber (mark_count flat)) number [] numbers in
      let m = mark-of flat form number n in
      let next : first_of flat (place + 1) ≡ first_of flat place + 1 = first_of-next flat place l is ∙ ap (λ stmt. first_of flat place + width flat place stmt) jump in
      false_from_ne_true (marked flat number == first_of flat place + 1) (λ same.
      let e : first_of flat (place_of flat number) ≡ first_of flat place + 1 = search rules in
      let there : place_of flat number ≡ suc place = ⊎_elim
      (λ (less : place_of flat number < place + 1). let a = first-less flat (place_of flat number) (place + 1) m.line m.is less in absurd (omega (arith, a, e, next)))
      (λ (le : place + 1 ≤ place_of flat number). ⊎_elim
      (λ (less : place + 1 < place_of flat number).
      let item = item_at flat (place + 1) (let w = slice_get_within flat (place_of flat number) m.line m.is in omega (arith, w, less)) in
      let a = first-less flat (place + 1) (place_of flat number) item.0 item.1 less in
      absurd (omega (arith, a, e, next)))
      (λ (ge : place_of flat number ≤ place + 1). omega (arith, le, ge))
      (cases_lt (place + 1) (place_of flat number)))
      (cases_lt (place_of flat number) (place + 1))
      in
      form.moves place number l is jump there)

  led-mark : (place : ℕ) (l : FlatLine) (stmt : Flat) → slice_get flat place ≡ Some l → l.stmt ≡ stmt → (goes_on (leading flat place stmt) == first_of flat place + 1) ≡ is_mark stmt
  led-mark place l Mark is same = next-same (first_of flat place)
  led-mark place l (Jump target) is same = jump-away place target l is same
  led-mark place l (LogicalIf cond target) is same = zero-differs (first_of flat place)
  led-mark place l (Assignment target value) is same = zero-differs (first_of flat place)
  led-mark place l (Output items) is same = zero-differs (first_of flat place)
  led-mark place l (ArithmeticIf value below at above) is same = zero-differs (first_of flat place)
  led-mark place l (ComputedGoTo value targets) is same = zero-differs (first_of flat place)
  led-mark place l (DoLoop end var first last step) is same = zero-differs (first_of flat place)
  led-mark place l Finish is same = zero-differs (first_of flat place)

  -- the first executable of a mark, and of no other statement, is a mark
  pub first-mark : (place : ℕ) (l : FlatLine) → slice_get flat place ≡ Some l → at_mark (first_of flat place) ≡ is_mark l.stmt
  first-mark place l is =
      let free = first-untested flat place (let w = slice_get_within flat place l is in omega (arith, w)) in
      ap (λ b. not b && (goes_on_in (slice_get (executables flat) (first_of flat place)) == first_of flat place + 1)) free
      ∙ ap (λ (o : Option Exec). goes_on_in o == first_of flat place + 1) (leading-at flat place l is)
      ∙ led-mark place l l.stmt is refl

  idle-by : (b : Bool) (made kind : ExecKind) → goes_on made ≡ 0 → (if b then Some made else None) ≡ Some kind → goes_on kind ≡ 0
  idle-by true made kind none is = let same : made ≡ kind = cc in ap goes_on (sym same) ∙ none
  idle-by false made kind none is = absurd cc

  following-mark : (place : ℕ) (l : FlatLine) (stmt : Flat) (kind : ExecKind) → slice_get flat place ≡ Some l → l.stmt ≡ stmt → following flat place stmt ≡ Some kind → slice_get (executables flat) (first_of flat place + 1) ≡ Some (with_line l.line kind) → at_mark (first_of flat place + 1) ≡ false
  following-mark place l Mark kind is same follows stands =
      let none : goes_on kind ≡ 0 = idle-by (is_end flat (mark_at flat place)) (increment flat (loop_to flat (mark_at flat place)) (first_of flat (place + 1))) kind refl follows in
      let away : (goes_on_in (slice_get (executables flat) (first_of flat place + 1)) == (first_of flat place + 1) + 1) ≡ false = ap (λ (o : Option Exec). goes_on_in o == (first_of flat place + 1) + 1) stands ∙ ap (λ n. n == (first_of flat place + 1) + 1) none ∙ zero-differs (first_of flat place + 1) in
      ap (λ b. not (follows_test (executables flat) (first_of flat place + 1)) && b) away ∙ and-false (not (follows_test (executables flat) (first_of flat place + 1)))
  following-mark place l (LogicalIf cond target) kind is same follows stands =
      ap (λ b. not b && (goes_on_in (slice_get (executables flat) (first_of flat place + 1)) == (first_of flat place + 1) + 1)) (second-tested flat place l cond target is same)
  following-mark place l (Assignment target value) kind is same follows stands = absurd cc
  following-mark place l (Output items) kind is same follows stands = absurd cc
  following-mark place l (ArithmeticIf value below at above) kind is same follows stands = absurd cc
  following-mark place l (ComputedGoTo value targets) kind is same follows stands = absurd cc
  following-mark place l (DoLoop end var first last step) kind is same follows stands = absurd cc
  following-mark place l (Jump target) kind is same follows stands = absurd cc
  following-mark place l Finish kind is same follows stands = absurd cc

  -- no second executable is a mark
  pub second-unmarked : (place : ℕ) (l : FlatLine) (kind : ExecKind) → slice_get flat place ≡ Some l → following flat place l.stmt ≡ Some kind → at_mark (first_of flat place + 1) ≡ false
  second-unmarked place l kind is follows = following-mark place l l.stmt kind is refl follows (following-at flat place l kind is follows)

  -- ---- marks, counted

  abbrev marks_before : ℕ → ℕ
  marks_before k = passed at_mark k

  abbrev marks_above : ℕ → ℕ
  marks_above place = count_by (λ (l : FlatLine). is_mark l.stmt) (take place flat)

  counted-first : (place : ℕ) (l : FlatLine) → slice_get flat place ≡ Some l → marks_before (first_of flat place) ≡ marks_above place → marks_before (first_of flat place + 1) ≡ marks_above (place + 1)
  counted-first place l is so_far =
      let more = passed-more at_mark (first_of flat place) ∙ ap (λ b. marks_before (first_of flat place) + bit b) (first-mark place l is) in
      let next = marks_above-next flat place l is in
      omega (arith, more, next, so_far)

  counted-next : (place : ℕ) (l : FlatLine) (o : Option ExecKind) → slice_get flat place ≡ Some l → following flat place l.stmt ≡ o → marks_before (first_of flat place) ≡ marks_above place → marks_before (first_of flat (place + 1)) ≡ marks_above (place + 1)
  counted-next place l None is follows so_far =
      let size : suc 0 ≡ width flat place l.stmt = ap (λ (o : Option ExecKind). suc (length (option_to_list o))) (sym follows) ∙ kinds-width flat place l.stmt in
      let next = first_of-next flat place l is in
      let index : first_of flat (place + 1) ≡ first_of flat place + 1 = omega (arith, size, next) in
      ap marks_before index ∙ counted-first place l is so_far
  counted-next place l (Some kind) is follows so_far =
      let size : suc 1 ≡ width flat place l.stmt = ap (λ (o : Option ExecKind). suc (length (option_to_list o))) (sym follows) ∙ kinds-width flat place l.stmt in
      let next = first_of-next flat place l is in
      let index : first_of flat (place + 1) ≡ (first_of flat place + 1) + 1 = omega (arith, size, next) in
      let more : marks_before ((first_of flat place + 1) + 1) ≡ marks_before (first_of flat place + 1) + 0 = passed-more at_mark (first_of flat place + 1) ∙ ap (λ b. marks_before (first_of flat place + 1) + bit b) (second-unmarked place l kind is follows) in
      let first = counted-first place l is so_far in
      ap marks_before index ∙ (omega (arith, more, first))

  -- before the executables of a place there are as many marks as above the place
  pub marks-counted : (place : ℕ) → place ≤ length flat → marks_before (first_of flat place) ≡ marks_above place
  marks-counted zero le = refl
  marks-counted (suc place) le =
      let add : place + 1 ≡ suc place = omega arith in
      let item = item_at flat place (omega (arith, le)) in
      subst (λ m. marks_before (first_of flat m) ≡ marks_above m) add (counted-next place item.0 (following flat place item.0.stmt) item.1 refl (marks-counted place (omega (arith, le))))

  -- the executable of a mark tells its number
  pub number-told : (number : ℕ) → IsNumber (mark_count flat) number → number_at (executables flat) (marked flat number) ≡ number
  number-told number is =
      let m = mark-of flat form number is in
      let place = place_of flat number in
      let within = slice_get_within flat place m.line m.is in
      let exists = first-exists flat form place within in
      let value = value-at (λ k. passed at_mark (k + 1)) (length (executables flat)) (first_of flat place) exists in
      let counted = counted-first place m.line m.is (marks-counted place (omega (arith, within))) in
      let next : marks_above (place + 1) ≡ marks_above place + 1 = marks_above-next flat place m.line m.is ∙ ap (λ stmt. marks_above place + bit (is_mark stmt)) m.mark in
      let numbered = m.numbered in
      value ∙ counted ∙ next ∙ numbered

  pub numbers-told : (numbers : List ℕ) → All (IsNumber (mark_count flat)) numbers → map (number_at (executables flat)) (map (marked flat) numbers) ≡ numbers
  numbers-told [] all = refl
  numbers-told (n ∷ ns) all =
      ap (λ k. k ∷ map (number_at (executables flat)) (map (marked flat) ns)) (number-told n (All-first (IsNumber (mark_count flat)) n ns all))
      ∙ ap (λ ks. n ∷ ks) (numbers-told ns (All-rest (IsNumber (mark_count flat)) n ns all))

  -- ---- the mark of a DO

  range-exit : (place end : ℕ) (l : FlatLine) → slice_get flat place ≡ Some l → is_loop l.stmt ≡ true → range_end l.stmt ≡ end ∷ [] → beyond flat end - 2 ≡ marked flat end
  range-exit place end l is loops ends =
      let number = end-number flat form place end l is ends in
      let m = mark-of flat form end number in
      let d : IsDoAt flat (loop_at flat place) = record { head = place; line = l; is = is; loops = loops; number = refl; end = end; ends = ends } in
      let closed : is_end flat (mark_at flat (place_of flat end)) ≡ true = ap (is_end flat) m.numbered ∙ is-end flat form (loop_at flat place) d in
      let two : width flat (place_of flat end) m.line.stmt ≡ 2 = ap (width flat (place_of flat end)) m.mark ∙ ap (λ b. width_by b Mark) closed in
      let next = first_of-next flat (place_of flat end) m.line m.is in
      omega (arith, next, two)

  -- ---- statements

  told : (place : ℕ) (l : FlatLine) (stmt : Flat) → slice_get flat place ≡ Some l → l.stmt ≡ stmt → HasNumbers (mark_count flat) stmt → statement_of (executables flat) (first_of flat place) (leading flat place stmt) ≡ Some stmt
  told place l Mark is same numbers =
      let free = first-untested flat place (let w = slice_get_within flat place l is in omega (arith, w)) in
      rw (free, next-same (first_of flat place)) refl
  told place l (Jump target) is same numbers =
      let free = first-untested flat place (let w = slice_get_within flat place l is in omega (arith, w)) in
      rw (free, jump-away place target l is same) (ap (λ n. Some (Jump n)) (number-told target (All-first (IsNumber (mark_count flat)) target [] numbers.jumps)))
  told place l (LogicalIf cond target) is same numbers =
      let follows : following flat place l.stmt ≡ Some (Pass (marked flat target)) = ap (following flat place) same in
      let at = following-at flat place l (Pass (marked flat target)) is follows in
      ap (λ (o : Option Exec). Some (LogicalIf cond (number_at (executables flat) (goes_on_in o)))) at
      ∙ ap (λ n. Some (LogicalIf cond n)) (number-told target (All-first (IsNumber (mark_count flat)) target [] numbers.jumps))
  told place l (ArithmeticIf value below at above) is same numbers =
      let all = numbers.jumps in
      let a = number-told below (All-first (IsNumber (mark_count flat)) below (at ∷ above ∷ []) all) in
      let rest = All-rest (IsNumber (mark_count flat)) below (at ∷ above ∷ []) all in
      let b = number-told at (All-first (IsNumber (mark_count flat)) at (above ∷ []) rest) in
      let c = number-told above (All-first (IsNumber (mark_count flat)) above [] (All-rest (IsNumber (mark_count flat)) at (above ∷ []) rest)) in
      rw (a, b, c) refl
  told place l (ComputedGoTo value targets) is same numbers = ap (λ ns. Some (ComputedGoTo value ns)) (numbers-told targets numbers.jumps)
  told place l (DoLoop end var first last step) is same numbers =
      let ends : range_end l.stmt ≡ end ∷ [] = ap range_end same in
      let exit = range-exit place end l is (ap is_loop same) ends in
      ap (λ k. Some (DoLoop (number_at (executables flat) k) var first last step)) exit
      ∙ ap (λ n. Some (DoLoop n var first last step)) (number-told end (All-first (IsNumber (mark_count flat)) end [] numbers.range_end))
  told place l (Assignment target value) is same numbers = refl
  told place l (Output items) is same numbers = refl
  told place l Finish is same numbers = refl

  silent-by : (k : ℕ) (b : Bool) (made kind : ExecKind) → statement_of (executables flat) k made ≡ None → (if b then Some made else None) ≡ Some kind → statement_of (executables flat) k kind ≡ None
  silent-by k true made kind none is = let same : made ≡ kind = cc in ap (statement_of (executables flat) k) (sym same) ∙ none
  silent-by k false made kind none is = absurd cc

  silent : (place : ℕ) (l : FlatLine) (stmt : Flat) (kind : ExecKind) → slice_get flat place ≡ Some l → l.stmt ≡ stmt → following flat place stmt ≡ Some kind → statement_of (executables flat) (first_of flat place + 1) kind ≡ None
  silent place l Mark kind is same follows = silent-by (first_of flat place + 1) (is_end flat (mark_at flat place)) (increment flat (loop_to flat (mark_at flat place)) (first_of flat (place + 1))) kind refl follows
  silent place l (LogicalIf cond target) kind is same follows =
      let made : Pass (marked flat target) ≡ kind = cc in
      let tested = second-tested flat place l cond target is same in
      let none : idle_statement (executables flat) (first_of flat place + 1) (marked flat target) ≡ None = rw tested refl in
      ap (statement_of (executables flat) (first_of flat place + 1)) (sym made) ∙ none
  silent place l (Assignment target value) kind is same follows = absurd cc
  silent place l (Output items) kind is same follows = absurd cc
  silent place l (ArithmeticIf value below at above) kind is same follows = absurd cc
  silent place l (ComputedGoTo value targets) kind is same follows = absurd cc
  silent place l (DoLoop end var first last step) kind is same follows = absurd cc
  silent place l (Jump target) kind is same follows = absurd cc
  silent place l Finish kind is same follows = absurd cc

  -- ---- lines

  abbrev lines_of : ℕ → List FlatLine
  lines_of = lines_at (executables flat)

  abbrev with_stmt : ℕ → Flat → FlatLine
  with_stmt line stmt = record { line = line; stmt = stmt }

  first-line : (place : ℕ) (l : FlatLine) → slice_get flat place ≡ Some l → lines_of (first_of flat place) ≡ l ∷ []
  first-line place l is =
      ap (lines_in (executables flat) (first_of flat place)) (leading-at flat place l is)
      ∙ ap (λ (o : Option Flat). map (with_stmt l.line) (option_to_list o)) (told place l l.stmt is refl (numbers-of flat form place l is))

  second-line : (place : ℕ) (l : FlatLine) (kind : ExecKind) → slice_get flat place ≡ Some l → following flat place l.stmt ≡ Some kind → lines_of (first_of flat place + 1) ≡ []
  second-line place l kind is follows =
      ap (lines_in (executables flat) (first_of flat place + 1)) (following-at flat place l kind is follows)
      ∙ ap (λ (o : Option Flat). map (with_stmt l.line) (option_to_list o)) (silent place l l.stmt kind is refl follows)

  lines-first : (place : ℕ) (l : FlatLine) → slice_get flat place ≡ Some l → rows lines_of (first_of flat place) ≡ take place flat → rows lines_of (first_of flat place + 1) ≡ take (place + 1) flat
  lines-first place l is so_far =
      rows-more lines_of (first_of flat place) ∙ ap (λ ls. ls ++ lines_of (first_of flat place)) so_far ∙ ap (λ ls. take place flat ++ ls) (first-line place l is) ∙ sym (take_next flat place l is)

  lines-next : (place : ℕ) (l : FlatLine) (o : Option ExecKind) → slice_get flat place ≡ Some l → following flat place l.stmt ≡ o → rows lines_of (first_of flat place) ≡ take place flat → rows lines_of (first_of flat (place + 1)) ≡ take (place + 1) flat
  lines-next place l None is follows so_far =
      let size : suc 0 ≡ width flat place l.stmt = ap (λ (o : Option ExecKind). suc (length (option_to_list o))) (sym follows) ∙ kinds-width flat place l.stmt in
      let next = first_of-next flat place l is in
      let index : first_of flat (place + 1) ≡ first_of flat place + 1 = omega (arith, size, next) in
      ap (rows lines_of) index ∙ lines-first place l is so_far
  lines-next place l (Some kind) is follows so_far =
      let size : suc 1 ≡ width flat place l.stmt = ap (λ (o : Option ExecKind). suc (length (option_to_list o))) (sym follows) ∙ kinds-width flat place l.stmt in
      let next = first_of-next flat place l is in
      let index : first_of flat (place + 1) ≡ (first_of flat place + 1) + 1 = omega (arith, size, next) in
      ap (rows lines_of) index ∙ rows-more lines_of (first_of flat place + 1)
      ∙ ap (λ ls. rows lines_of (first_of flat place + 1) ++ ls) (second-line place l kind is follows) ∙ append-nil (rows lines_of (first_of flat place + 1))
      ∙ lines-first place l is so_far

  lines-told : (place : ℕ) → place ≤ length flat → rows lines_of (first_of flat place) ≡ take place flat
  lines-told zero le = refl
  lines-told (suc place) le =
      let add : place + 1 ≡ suc place = omega arith in
      let item = item_at flat place (omega (arith, le)) in
      subst (λ m. rows lines_of (first_of flat m) ≡ take m flat) add (lines-next place item.0 (following flat place item.0.stmt) item.1 refl (lines-told place (omega (arith, le))))

  pub recovered-is : recovered (executables flat) ≡ flat
  recovered-is = ap (rows lines_of) (execs-length flat) ∙ lines-told (length flat) (omega arith) ∙ take_whole flat
