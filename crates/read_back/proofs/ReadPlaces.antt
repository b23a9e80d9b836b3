-- The executables of the statements that a printed program is read as stand at the places of those of its flat statements.
use Rattle.std.proofs.Common.{◌≡◌, ℕ, zero, suc, ◌+◌, ◌-◌, ◌<◌, ◌≤◌, Bool, true, false, cond, ◌&&◌, List, [], ◌∷◌, length, filter, take, drop, refl, sym, ap, ◌∙◌, subst, ⊎_elim, arith, Option, Some, None}
use Rattle.std.specs.Prelude.{All, sum_by, slice_get, reverse}
use Rattle.std.specs.List.{range_with_len}
use Rattle.std.proofs.lemmas.Bool.{cases_Bool, cases_lt, cases_eq, eqb-true, ltb-true, ltb-false, lt-ltb, true≢false}
use Rattle.std.proofs.lemmas.List.Sums.{sum_by_push, passes_at_first, fails_before_first}
use Rattle.std.proofs.lemmas.Option.{get_or_from_slice_get}
use Rattle.list_laws.proofs.Ranges.{range_more}
use Rattle.f77_tree.specs.declared.expressions.Access.{Access}
use Rattle.f77_tree.specs.declared.expressions.Expr.{Expr}
use Rattle.f77_tree.specs.declared.programs.NameInfo.{NameInfo}
use Rattle.f77_tree.specs.declared.programs.Program.{Program}
use Rattle.f77_tree.specs.declared.statements.Labelled.{Labelled}
use Rattle.f77_tree.specs.declared.statements.RawExpr.{RawExpr}
use Rattle.f77_tree.specs.declared.statements.Stmt.{Stmt}
use Rattle.f77_tree.specs.declared.statements.Stmt.TheVariants.{GoTo, ThenIf}
use Rattle.f77_tree.specs.StatementGrammar.{WrittenStatement, statement_of}
use Rattle.f77_tree.proofs.AllLemmas.{All-first, All-get}
use Rattle.layout_rules.specs.Executables.{own_executables, is_do_to, is_do_in, loops_to, executables_with_ends, first_of, met_after, met}
use Rattle.layout_rules.specs.Labels.{is_arm, is_executable}
use Rattle.flat_programs.specs.declared.statements.Flat.{Flat}
use Rattle.flat_programs.specs.declared.statements.FlatLine.{FlatLine}
use Rattle.flat_programs.specs.Declarations.{declared}
use Rattle.flat_programs.specs.Executables.{width_by, width, width_at, width_in, first_of as first_flat_of}
use Rattle.flat_programs.specs.FlatForm.{IsSpan, IsNumber, HasNumbers, range_end}
use Rattle.flat_programs.specs.Marks.{is_mark, mark_at, mark_count, place_of, ends_at, loop_to, is_end}
use Rattle.flat_programs.specs.Text.{label_at}
use Rattle.read_back.specs.PrintedArrays.{HasNoPrintedArrays}
use Rattle.read_back.specs.PrintedStatements.{CanBeText}
use Rattle.read_back.specs.SourceStatements.{statements_read}
use Rattle.read_back.proofs.DeclaredEach.{declared_each}
use Rattle.read_back.proofs.MarkPlaces.{take_next}
use Rattle.read_back.proofs.PrintedPlaces.{get_some, got_within, first_flat, statement_count, has_statement, declared_at}
use Rattle.read_back.proofs.PrintedTable.{flat_form}
use Rattle.read_back.proofs.ReadForms.{read_form, assigned_form}

-- ---- lists

drop_from : {X : Type 0} (xs : List X) (k : ℕ) (x : X) → slice_get xs k ≡ Some x → drop k xs ≡ x ∷ drop (suc k) xs
drop_from [] k x is = absurd cc
drop_from (y ∷ ys) zero x is = let same : y ≡ x = cc in ap (λ z. z ∷ ys) same
drop_from (y ∷ ys) (suc k) x is = drop_from ys k x is

drop_whole : {X : Type 0} (xs : List X) → drop (length xs) xs ≡ []
drop_whole [] = refl
drop_whole (x ∷ xs) = drop_whole xs

-- of the numbers in a row none passes, or one alone does
none_of : (p : ℕ → Bool) (a m : ℕ) → ((j : ℕ) → a ≤ j → j < a + m → p j ≡ false) → filter p (range_with_len a m) ≡ []
none_of p a zero none = refl
none_of p a (suc m) none = grind (arith, none_of p (a + 1) m)

one_of : (p : ℕ → Bool) (a m k : ℕ) → a ≤ k → k < a + m → p k ≡ true → ((j : ℕ) → a ≤ j → j < a + m → p j ≡ true → j ≡ k) → filter p (range_with_len a m) ≡ k ∷ []
one_of p a zero k low high is only = absurd (omega (arith, low, high))
one_of p a (suc m) k low high is only =
    let rest = filter p (range_with_len (a + 1) m) in
    ⊎_elim
    (λ (same : a ≡ k).
    let here : p a ≡ true = ap p same ∙ is in
    ap (λ b. cond b (a ∷ rest) rest) here
    ∙ ap (λ xs. a ∷ xs) (none_of p (a + 1) m (λ j from to.
    ⊎_elim
    (λ (passes : p j ≡ true). let e = only j (omega (arith, from)) (omega (arith, to)) passes in absurd (omega (arith, e, from, same)))
    (λ (fails : p j ≡ false). fails)
    (cases_Bool (p j))))
    ∙ ap (λ x. x ∷ []) same)
    (λ differ.
    ⊎_elim
    (λ (passes : p a ≡ true). let e = only a (omega arith) (omega arith) passes in absurd (differ e))
    (λ (fails : p a ≡ false).
    ap (λ b. cond b (a ∷ rest) rest) fails ∙ one_of p (a + 1) m k (omega (arith, low, differ)) (omega (arith, high)) is (λ j from to passes. only j (omega (arith, from)) (omega (arith, to)) passes))
    (cases_Bool (p a)))
    (cases_eq a k)

-- ---- what flat statements are read as

-- a condition and the GO TO after it
guarded_own : (condition : RawExpr) (target : ℕ) → own_executables (ThenIf condition (GoTo target)) ≡ 2
unfolding Rattle.f77_tree.specs.declared.statements.Stmt.TheBlock.hidden-the_row-Stmt-0 denote.Hole.Carrier.hidden
guarded_own condition target = refl

module _ (names : List NameInfo) where
  either : {X : Type 0} (f : Stmt → X) (b : Bool) (target : Access) (value : Expr) (x : X) → f (assigned_form names true target value) ≡ x → f (assigned_form names false target value) ≡ x → f (assigned_form names b target value) ≡ x
  either f true target value x a c = a
  either f false target value x a c = c

  pub do_same : (label : ℕ) (stmt : Flat) → is_do_to label (read_form names stmt) ≡ ends_at label stmt
  do_same label h = grind (arith, either)

  own_width : (stmt : Flat) → own_executables (read_form names stmt) ≡ width_by false stmt
  own_width h = grind (arith, either, guarded_own)

  pub no_arm : (stmt : Flat) → is_arm (read_form names stmt) ≡ false
  no_arm h = grind (arith, either)

  acts : (stmt : Flat) → is_executable (read_form names stmt) ≡ true
  acts h = grind (arith, either)

-- a mark at which a range ends has one executable more
width_split : (ends : Bool) (stmt : Flat) → width_by ends stmt ≡ width_by false stmt + cond (is_mark stmt && ends) 1 0
width_split ends h = grind arith

range_told : (number : ℕ) (stmt : Flat) → ends_at number stmt ≡ true → range_end stmt ≡ number ∷ []
range_told number h is = grind (arith, eqb-true)

module _ (q : Program) (flat : List FlatLine) (given : CanBeText q flat) (free : HasNoPrintedArrays q.names) where
  abbrev stmts : List Labelled
  stmts = statements_read q flat

  abbrev front : ℕ
  front = first_flat q flat

  -- the statement that a flat one is read as
  pub record IsRead (place : ℕ) (l : FlatLine) : Type 0 where
    pub s : Labelled
    pub stands : slice_get stmts (front + place) ≡ Some s
    pub label : s.label ≡ label_at flat place l
    pub stmt : s.stmt ≡ read_form q.names l.stmt

  pub read_at : (place : ℕ) (l : FlatLine) → slice_get flat place ≡ Some l → IsRead place l
  read_at place l there =
      let has = has_statement q flat place l there in
      record { s = has.s; stands = has.stands; label = has.label; stmt = has.stmt ∙ flat_form q flat given free place l there }

  -- ---- declarations

  record IsIdle (s : Labelled) : Type 0 where
    label : s.label ≡ 0
    none : (label : ℕ) → is_do_to label s.stmt ≡ false
    own : own_executables s.stmt ≡ 0

  record IsIdleStatement (w : WrittenStatement) : Type 0 where
    none : (label : ℕ) → is_do_to label (statement_of w) ≡ false
    own : own_executables (statement_of w) ≡ 0

  idle : (k : ℕ) (s : Labelled) → k < front → slice_get stmts k ≡ Some s → IsIdle s
  idle k s lt there = grind (arith, declared_at q flat k s lt there, All-get IsIdleStatement (declared q) k, declared_each IsIdleStatement q)

  -- ---- the DO that ends at a mark

  module _ (label : ℕ) where
    abbrev here : ℕ → Bool
    here k = is_do_in label (slice_get stmts k)

    abbrev test : FlatLine → Bool
    test l = ends_at label l.stmt

    here_flat : (place : ℕ) (l : FlatLine) → slice_get flat place ≡ Some l → here (front + place) ≡ test l
    here_flat place l there = grind (arith, read_at place l there, do_same q.names label l.stmt)

    here_before : (k : ℕ) → k < front → here k ≡ false
    here_before k lt =
        let size = statement_count q flat in
        let found = get_some stmts k (omega (arith, size, lt)) in
        ap (is_do_in label) found.1 ∙ (idle k found.0 lt found.1).none label

    -- a flat statement that the place k has
    at_flat : (k : ℕ) → front ≤ k → k < 0 + length stmts → (place : ℕ) × (k ≡ front + place) × ((l : FlatLine) × (slice_get flat place ≡ Some l))
    at_flat k low high = grind (arith, statement_count q flat, get_some flat (k - front))

    span_at : (place : ℕ) (l : FlatLine) → slice_get flat place ≡ Some l → test l ≡ true → IsSpan flat place (place_of flat label)
    span_at place l there is = record { here = l; is = there; end = label; ends = range_told label l.stmt is; place = refl }

    abbrev head : ℕ
    head = loop_to flat label

    one_loop : (l : FlatLine) → slice_get flat head ≡ Some l → test l ≡ true → loops_to stmts label ≡ (front + head) ∷ []
    one_loop l there is =
        let size = statement_count q flat in
        let within = got_within flat head l there in
        ap reverse (one_of here 0 (length stmts) (front + head) (omega arith) (omega (arith, size, within)) (here_flat head l there ∙ is) (λ k low high passes.
        ⊎_elim
        (λ (lt : k < front). absurd (true≢false (sym passes ∙ here_before k lt)))
        (λ (le : front ≤ k).
        let other = at_flat k le high in
        let e = other.1 in
        let found = other.2 in
        let passes_there : test found.0 ≡ true = sym (here_flat other.0 found.0 found.1) ∙ ap here (sym e) ∙ passes in
        let same : other.0 ≡ head = given.form.one_range other.0 head (place_of flat label) (span_at other.0 found.0 found.1 passes_there) (span_at head l there is) in
        omega (arith, e, same))
        (cases_lt k front)))

    no_loop : ((place : ℕ) (l : FlatLine) → slice_get flat place ≡ Some l → test l ≡ false) → loops_to stmts label ≡ []
    no_loop none =
        ap reverse (none_of here 0 (length stmts) (λ k low high.
        ⊎_elim
        (λ (lt : k < front). here_before k lt)
        (λ (le : front ≤ k).
        let other = at_flat k le high in
        let found = other.2 in
        ap here other.1 ∙ here_flat other.0 found.0 found.1 ∙ none other.0 found.0 found.1)
        (cases_lt k front)))

    -- the DOs that end at the mark
    pub loops_of : (ends : Bool) → is_end flat label ≡ ends → loops_to stmts label ≡ cond ends ((front + head) ∷ []) []
    loops_of true is =
        let lt : head < length flat = ltb-true head (length flat) is in
        let found = get_some flat head lt in
        one_loop found.0 found.1 (ap test (sym (get_or_from_slice_get flat head found.0 found.0 found.1)) ∙ passes_at_first test flat found.0 lt)
    loops_of false is =
        let le : length flat ≤ head = ltb-false head (length flat) is in
        no_loop (λ place l there.
        let within = got_within flat place l there in
        ap test (sym (get_or_from_slice_get flat place l l there)) ∙ fails_before_first test flat place l (omega (arith, within, le)))

  -- no range ends at a statement without a label
  pub none_unlabelled : loops_to stmts 0 ≡ []
  none_unlabelled =
      no_loop 0 (λ place l there.
      ⊎_elim
      (λ (passes : ends_at 0 l.stmt ≡ true).
      let numbers = All-get (λ (k : FlatLine). HasNumbers (mark_count flat) k.stmt) flat place l given.form.numbered there in
      let number = All-first (IsNumber (mark_count flat)) 0 [] (subst (All (IsNumber (mark_count flat))) (range_told 0 l.stmt passes) numbers.range_end) in
      let least = number.least in
      absurd (omega (arith, least)))
      (λ (fails : ends_at 0 l.stmt ≡ false). fails)
      (cases_Bool (ends_at 0 l.stmt)))

  -- ---- executables

  length_if : (b : Bool) (k : ℕ) → length (cond b (k ∷ []) []) ≡ cond b 1 0
  length_if true k = refl
  length_if false k = refl

  loops_counted : (place : ℕ) (l : FlatLine) (mark : Bool) → is_mark l.stmt ≡ mark → length (loops_to stmts (cond mark (mark_at flat place) 0)) ≡ cond (mark && is_end flat (mark_at flat place)) 1 0
  loops_counted place l true is =
      let number = mark_at flat place in
      ap length (loops_of number (is_end flat number) refl) ∙ length_if (is_end flat number) (front + head number)
  loops_counted place l false is = ap length none_unlabelled

  -- a statement has as many executables as the flat one
  width_same : (place : ℕ) (l : FlatLine) (is : IsRead place l) → executables_with_ends stmts is.s ≡ width flat place l.stmt
  width_same place l is = grind (arith, own_width q.names l.stmt, loops_counted place l (is_mark l.stmt), width_split)

  first_next : (k : ℕ) (s : Labelled) → slice_get stmts k ≡ Some s → first_of stmts (suc k) ≡ first_of stmts k + executables_with_ends stmts s
  first_next k s there = ap (sum_by (executables_with_ends stmts)) (take_next stmts k s there) ∙ sum_by_push (executables_with_ends stmts) (take k stmts) s

  first_declared : (k : ℕ) → k ≤ front → first_of stmts k ≡ 0
  first_declared zero le = refl
  first_declared (suc k) le =
      let size = statement_count q flat in
      let found = get_some stmts k (omega (arith, size, le)) in
      let is = idle k found.0 (omega (arith, le)) found.1 in
      let none : executables_with_ends stmts found.0 ≡ 0 = ap (λ label. own_executables found.0.stmt + length (loops_to stmts label)) is.label ∙ ap (λ xs. own_executables found.0.stmt + length xs) none_unlabelled ∙ ap (λ n. n + 0) is.own in
      let before = first_declared k (omega (arith, le)) in
      let next = first_next k found.0 found.1 in
      omega (arith, next, none, before)

  -- each statement begins at the executable of the flat one
  pub first_same : (place : ℕ) → place ≤ length flat → first_of stmts (front + place) ≡ first_flat_of flat place
  first_same zero le = let e : front + 0 ≡ front = omega arith in ap (first_of stmts) e ∙ first_declared front (omega arith)
  first_same (suc place) le =
      let found = get_some flat place (omega (arith, le)) in
      let is = read_at place found.0 found.1 in
      let e : front + suc place ≡ suc (front + place) = omega arith in
      let add : suc place ≡ place + 1 = omega arith in
      let own : width flat place found.0.stmt ≡ width_at flat place = ap (width_in flat place) (sym found.1) in
      ap (first_of stmts) e ∙ first_next (front + place) is.s is.stands
      ∙ ap (λ n. n + executables_with_ends stmts is.s) (first_same place (omega (arith, le)))
      ∙ ap (λ n. first_flat_of flat place + n) (width_same place found.0 is ∙ own)
      ∙ sym (sum_by_push (width_at flat) (range_with_len 0 place) place)
      ∙ ap (sum_by (width_at flat)) (sym (range_more place))
      ∙ ap (first_flat_of flat) (sym add)

  -- control that falls to a statement comes to its first executable
  met_from : (place : ℕ) (rest : List Labelled) (found : Option FlatLine) → slice_get flat place ≡ found → drop (front + place) stmts ≡ rest → place ≤ length flat → met_after stmts rest (front + place) ≡ first_of stmts (front + place)
  met_from place [] found is left le = refl
  met_from place (s ∷ rest) None is left le =
      ⊎_elim
      (λ (lt : place < length flat). let some = get_some flat place lt in let no : None ≡ Some some.0 = sym is ∙ some.1 in absurd cc)
      (λ (ge : length flat ≤ place).
      let size = statement_count q flat in
      let e : front + place ≡ length stmts = omega (arith, size, ge, le) in
      let none : [] ≡ s ∷ rest = sym (drop_whole stmts) ∙ ap (λ n. drop n stmts) (sym e) ∙ left in
      absurd cc)
      (cases_lt place (length flat))
  met_from place (s ∷ rest) (Some l) is left le =
      grind (arith, read_at place l is, drop_from stmts (front + place), read_form q.names, no_arm q.names, acts q.names)

  pub met_same : (place : ℕ) → place ≤ length flat → met stmts (front + place) ≡ first_flat_of flat place
  met_same place le = met_from place (drop (front + place) stmts) (slice_get flat place) refl refl le ∙ first_same place le

  -- the DO of which this is the end
  pub record IsHead (label place : ℕ) : Type 0 where
    pub ends : is_end flat label ≡ true
    pub place_is : loop_to flat label ≡ place

  pub head_is : (label place : ℕ) (l : FlatLine) → slice_get flat place ≡ Some l → ends_at label l.stmt ≡ true → IsHead label place
  head_is label place l there is =
      let p : FlatLine → Bool = λ k. ends_at label k.stmt in
      let within = got_within flat place l there in
      ⊎_elim
      (λ (lt : loop_to flat label < length flat).
      let found = get_some flat (loop_to flat label) lt in
      let passes : p found.0 ≡ true = ap p (sym (get_or_from_slice_get flat (loop_to flat label) found.0 found.0 found.1)) ∙ passes_at_first p flat found.0 lt in
      record { ends = lt-ltb (loop_to flat label) (length flat) lt; place_is = given.form.one_range (loop_to flat label) place (place_of flat label) (span_at label (loop_to flat label) found.0 found.1 passes) (span_at label place l there is) })
      (λ (le : length flat ≤ loop_to flat label).
      let fails : p l ≡ false = ap p (sym (get_or_from_slice_get flat place l l there)) ∙ fails_before_first p flat place l (omega (arith, within, le)) in
      absurd (true≢false (sym is ∙ fails)))
      (cases_lt (loop_to flat label) (length flat))
