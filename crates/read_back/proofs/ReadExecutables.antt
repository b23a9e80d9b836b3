-- A printed program is read with its executables.
use Rattle.std.proofs.Common.{◌≡◌, ◌==◌, ℕ, zero, suc, ◌+◌, ◌<◌, ◌≤◌, Bool, true, false, cond, nat_lt, List, [], ◌∷◌, ◌++◌, length, map, take, refl, sym, ap, ◌∙◌, arith, Option, Some, None, append-nil}
use Rattle.std.specs.Prelude.{All, flat_map, slice_get, option_to_list, sum_by}
use Rattle.std.specs.List.{count_by, range_with_len}
use Rattle.std.proofs.lemmas.Bool.{eq-eqb, ltb-true}
use Rattle.std.proofs.lemmas.List.{map-append}
use Rattle.std.proofs.lemmas.List.Concat.{flat_map-append}
use Rattle.std.proofs.lemmas.List.Sums.{sum_by_push, passes_at_first}
use Rattle.std.proofs.lemmas.Option.{get_or_from_slice_get}
use Rattle.list_laws.proofs.Counts.{bit, count-append}
use Rattle.list_laws.proofs.Ranges.{range_more}
use Rattle.f77_tree.specs.declared.expressions.Access.{Access}
use Rattle.f77_tree.specs.declared.expressions.Expr.{Expr}
use Rattle.f77_tree.specs.declared.expressions.Expr.TheVariants.{Read}
use Rattle.f77_tree.specs.declared.programs.Exec.{Exec}
use Rattle.f77_tree.specs.declared.programs.ExecKind.{ExecKind}
use Rattle.f77_tree.specs.declared.programs.ExecKind.TheVariants.{Assign, Print, Pass, Test, Sign, Pick, DoStart, DoNext}
use Rattle.f77_tree.specs.declared.programs.NameInfo.{NameInfo}
use Rattle.f77_tree.specs.declared.programs.Program.{Program}
use Rattle.f77_tree.specs.declared.statements.Labelled.{Labelled}
use Rattle.f77_tree.specs.declared.statements.RawExpr.{RawExpr}
use Rattle.f77_tree.specs.declared.statements.Stmt.{Stmt}
use Rattle.f77_tree.specs.declared.statements.Stmt.TheVariants.{GoTo, ThenIf}
use Rattle.f77_tree.specs.declared.declarations.Kind.TheVariants.{Integer}
use Rattle.f77_tree.specs.Declarations.{index_of}
use Rattle.f77_tree.specs.Dialects.{ExecHasDialect}
use Rattle.f77_tree.specs.Execution.{words_taken}
use Rattle.f77_tree.specs.Kinds.{IsOfKind, IsAssignment, taken_as}
use Rattle.f77_tree.specs.OtherPlaces.{without_places}
use Rattle.f77_tree.specs.StatementGrammar.{WrittenStatement, statement_of as statement_read}
use Rattle.f77_tree.specs.WellFormed.{IsDo}
use Rattle.f77_tree.proofs.AllLemmas.{All-first, All-rest, All-get}
use Rattle.f77_expr.specs.Printing.{name_at, raw_form}
use Rattle.layout_rules.specs.Executables.{own_executables, is_do, kind_or_integer, loops_to, first_of, met, labelled, beyond, loop_number, exit_among, exit_after, exit_of, increments_at, own_kinds, do_variable, variable_of, increments, kinds_at, executables_if_any, executables}
use Rattle.layout_rules.specs.Labels.{statement_of}
use Rattle.layout_rules.specs.Layout.{names_of}
use Rattle.layout_rules.specs.Resolved.{resolved, resolved_step}
use Rattle.layout_rules.specs.Types.{kind_in}
use Rattle.flat_programs.specs.declared.statements.Flat.{Flat}
use Rattle.flat_programs.specs.declared.statements.Flat.TheVariants.{Mark, Assignment, Output, LogicalIf, ArithmeticIf, ComputedGoTo, DoLoop, Jump, Finish}
use Rattle.flat_programs.specs.declared.statements.FlatLine.{FlatLine}
use Rattle.flat_programs.specs.Declarations.{declared}
use Rattle.flat_programs.specs.Executables.{width_by, width, width_at, width_in, marked, leading, following, increment, first_of as first_flat_of, beyond as beyond_mark, executables as flat_executables, executables_at as flat_executables_at, executables_in}
use Rattle.flat_programs.specs.FlatForm.{IsNumber, HasNumbers, IsProperFlat}
use Rattle.flat_programs.specs.Marks.{is_mark, mark_at, mark_count, place_of, ends_at, is_loop, loop_at, loop_to, is_end, variable_in}
use Rattle.read_back.specs.PrintedArrays.{HasNoPrintedArrays}
use Rattle.read_back.specs.PrintedStatements.{CanBeText}
use Rattle.read_back.specs.SourceStatements.{statements_read}
use Rattle.read_back.proofs.DeclaredEach.{declared_each}
use Rattle.read_back.proofs.LoopTotals.{loops_next}
use Rattle.read_back.proofs.MarkPlaces.{take_next, mark_of}
use Rattle.read_back.proofs.PrintedJumps.{label_place}
use Rattle.read_back.proofs.PrintedKinds.{index-name}
use Rattle.read_back.proofs.PrintedPlaces.{get_some, got_within, first_flat, statement_count, declared_at}
use Rattle.read_back.proofs.PrintedTable.{table_same}
use Rattle.read_back.proofs.PrintedTypes.{bare-index, value_of}
use Rattle.read_back.proofs.ReadForms.{read_form, assigned_form, step_form}
use Rattle.read_back.proofs.ReadLoops.{counted}
use Rattle.read_back.proofs.ReadPlaces.{IsRead, read_at, first_same, met_same, loops_of, none_unlabelled, head_is}
use Rattle.read_back.proofs.ReadValues.{tree_again, target_again, items_again, step_again, taken_again}

-- ---- what flat statements are read as

-- the executables of a condition and the GO TO after it
guarded_kinds : (names : List NameInfo) (checked : Bool) (whole : List Labelled) (place index next : ℕ) (condition : RawExpr) (target : ℕ) → own_kinds names checked whole place index next (ThenIf condition (GoTo target)) ≡ Test (resolved names checked condition) (index + 1) next ∷ Pass (labelled whole target) ∷ []
unfolding Rattle.f77_tree.specs.declared.statements.Stmt.TheBlock.hidden-the_row-Stmt-0 denote.Hole.Carrier.hidden
guarded_kinds names checked whole place index next condition target = refl

do_if : (names : List NameInfo) (b : Bool) (target : Access) (value : Expr) → is_do (assigned_form names b target value) ≡ false
do_if names true target value = refl
do_if names false target value = refl

loop_same : (names : List NameInfo) (stmt : Flat) → is_do (read_form names stmt) ≡ is_loop stmt
loop_same names Mark = refl
loop_same names (Assignment target value) = do_if names (words_taken value == 1) target value
loop_same names (Output items) = refl
loop_same names (LogicalIf condition target) = refl
loop_same names (ArithmeticIf value below at above) = refl
loop_same names (ComputedGoTo value targets) = refl
loop_same names (DoLoop end var first last step) = refl
loop_same names (Jump target) = refl
loop_same names Finish = refl

loop_width : (ends : Bool) (number : ℕ) (stmt : Flat) → ends_at number stmt ≡ true → width_by ends stmt ≡ 1
loop_width ends number Mark is = absurd cc
loop_width ends number (Assignment target value) is = absurd cc
loop_width ends number (Output items) is = absurd cc
loop_width ends number (LogicalIf condition target) is = absurd cc
loop_width ends number (ArithmeticIf value below at above) is = absurd cc
loop_width ends number (ComputedGoTo value targets) is = absurd cc
loop_width ends number (DoLoop end var first last step) is = refl
loop_width ends number (Jump target) is = absurd cc
loop_width ends number Finish is = absurd cc

-- what comes after the first executable, but for an increment
abbrev second : List FlatLine → Flat → List ExecKind
second flat (LogicalIf condition target) = Pass (marked flat target) ∷ []
second flat _ = []

abbrev kinds_of : List Exec → List ExecKind
kinds_of execs = map (λ (e : Exec). e.kind) execs

kinds-lined : (line : ℕ) (kinds : List ExecKind) → kinds_of (map (λ kind. record { line = line; kind = kind }) kinds) ≡ kinds
kinds-lined line [] = refl
kinds-lined line (kind ∷ kinds) = ap (λ ks. kind ∷ ks) (kinds-lined line kinds)

kinds-flat : (f : ℕ → List Exec) (xs : List ℕ) → kinds_of (flat_map f xs) ≡ flat_map (λ x. kinds_of (f x)) xs
kinds-flat f [] = refl
kinds-flat f (x ∷ xs) = map-append (λ (e : Exec). e.kind) (f x) (flat_map f xs) ∙ ap (λ ks. kinds_of (f x) ++ ks) (kinds-flat f xs)

module _ (q : Program) (flat : List FlatLine) (given : CanBeText q flat) (free : HasNoPrintedArrays q.names) (checked : Bool) where
  abbrev stmts : List Labelled
  stmts = statements_read q flat

  abbrev table : List NameInfo
  table = names_of stmts

  abbrev bare : List NameInfo
  bare = without_places q.names

  abbrev front : ℕ
  front = first_flat q flat

  flat_few : length flat ≤ 4000
  flat_few = let few = given.few in omega (arith, few)

  after : (place : ℕ) → met stmts (front + place + 1) ≡ met stmts (front + (place + 1))
  after place = let e : front + place + 1 ≡ front + (place + 1) = omega arith in ap (met stmts) e

  met_next : (place : ℕ) (l : FlatLine) → slice_get flat place ≡ Some l → met stmts (front + place + 1) ≡ first_flat_of flat (place + 1)
  met_next place l there = let within = got_within flat place l there in after place ∙ met_same q flat given free (place + 1) (omega (arith, within))

  first_here : (place : ℕ) (l : FlatLine) → slice_get flat place ≡ Some l → first_of stmts (front + place) ≡ first_flat_of flat place
  first_here place l there = let within = got_within flat place l there in first_same q flat given free place (omega (arith, within))

  first_next : (place : ℕ) (l : FlatLine) → slice_get flat place ≡ Some l → first_flat_of flat (place + 1) ≡ first_flat_of flat place + width flat place l.stmt
  first_next place l there = ap (sum_by (width_at flat)) (range_more place) ∙ sum_by_push (width_at flat) (range_with_len 0 place) place ∙ ap (λ found. first_flat_of flat place + width_in flat place found) there

  -- ---- labels

  label_same : (number : ℕ) → IsNumber (mark_count flat) number → labelled stmts number ≡ marked flat number
  label_same number is =
      let mark = mark_of flat number is in
      ap (first_of stmts) (label_place q flat given.form flat_few number is) ∙ first_here (place_of flat number) mark.l mark.there

  labels_same : (numbers : List ℕ) → All (IsNumber (mark_count flat)) numbers → map (labelled stmts) numbers ≡ map (marked flat) numbers
  labels_same [] each = refl
  labels_same (number ∷ numbers) each =
      ap (λ k. k ∷ map (labelled stmts) numbers) (label_same number (All-first (IsNumber (mark_count flat)) number numbers each))
      ∙ ap (λ ks. marked flat number ∷ ks) (labels_same numbers (All-rest (IsNumber (mark_count flat)) number numbers each))

  numbers_of : (place : ℕ) (l : FlatLine) → slice_get flat place ≡ Some l → HasNumbers (mark_count flat) l.stmt
  numbers_of place l there = All-get (λ (k : FlatLine). HasNumbers (mark_count flat) k.stmt) flat place l given.form.numbered there

  -- ---- numbers of DOs

  abbrev dos_above : ℕ → ℕ
  dos_above k = count_by (λ (s : Labelled). is_do s.stmt) (take k stmts)

  dos_next : (k : ℕ) (s : Labelled) → slice_get stmts k ≡ Some s → dos_above (suc k) ≡ dos_above k + bit (is_do s.stmt)
  dos_next k s there =
      let p : Labelled → Bool = λ t. is_do t.stmt in
      let one : count_by p (s ∷ []) ≡ bit (is_do s.stmt) = omega arith in
      ap (count_by p) (take_next stmts k s there) ∙ count-append p (take k stmts) (s ∷ []) ∙ ap (λ n. dos_above k + n) one

  dos_declared : (k : ℕ) → k ≤ front → dos_above k ≡ 0
  dos_declared zero le = refl
  dos_declared (suc k) le =
      let size = statement_count q flat in
      let found = get_some stmts k (omega (arith, size, le)) in
      let is = declared_at q flat k found.0 (omega (arith, le)) found.1 in
      let none : is_do found.0.stmt ≡ false = ap is_do is.stmt ∙ All-get (λ w. is_do (statement_read w) ≡ false) (declared q) k is.w (declared_each (λ w. is_do (statement_read w) ≡ false) q (λ block. refl) (λ info. refl) (λ group. refl) (λ part. refl)) is.there in
      let next : dos_above (suc k) ≡ dos_above k + 0 = dos_next k found.0 found.1 ∙ ap (λ b. dos_above k + bit b) none in
      let before = dos_declared k (omega (arith, le)) in
      omega (arith, next, before)

  dos_same : (place : ℕ) → place ≤ length flat → dos_above (front + place) ≡ loop_at flat place
  dos_same zero le = let e : front + 0 ≡ front = omega arith in ap dos_above e ∙ dos_declared front (omega arith)
  dos_same (suc place) le =
      let found = get_some flat place (omega (arith, le)) in
      let is = read_at q flat given free place found.0 found.1 in
      let e : front + suc place ≡ suc (front + place) = omega arith in
      ap dos_above e ∙ dos_next (front + place) is.s is.stands
      ∙ ap (λ n. n + bit (is_do is.s.stmt)) (dos_same place (omega (arith, le)))
      ∙ ap (λ b. loop_at flat place + bit b) (ap is_do is.stmt ∙ loop_same q.names found.0.stmt)
      ∙ sym (loops_next flat place found.0 found.1)

  number_same : (place : ℕ) (l : FlatLine) → slice_get flat place ≡ Some l → loop_number stmts (front + place) ≡ loop_at flat place
  number_same place l there = let within = got_within flat place l there in counted (λ (s : Labelled). is_do s.stmt) (take (front + place) stmts) ∙ dos_same place (omega (arith, within))

  -- ---- where control goes on

  module _ (place : ℕ) (l : FlatLine) (there : slice_get flat place ≡ Some l) where
    abbrev is : IsRead q flat given free place l
    is = read_at q flat given free place l there

    abbrev number : ℕ
    number = mark_at flat place

    -- after a statement that is no mark
    plain_next : is_mark l.stmt ≡ false → beyond stmts (front + place) is.s ≡ first_flat_of flat (place + 1)
    plain_next none =
        let unlabelled : is.s.label ≡ 0 = is.label ∙ ap (λ b. cond b number 0) none in
        ap (λ label. cond (nat_lt 0 (length (loops_to stmts label))) (first_of stmts (front + place) + own_executables is.s.stmt) (met stmts (front + place + 1))) unlabelled
        ∙ ap (λ (xs : List ℕ). cond (nat_lt 0 (length xs)) (first_of stmts (front + place) + own_executables is.s.stmt) (met stmts (front + place + 1))) (none_unlabelled q flat given free)
        ∙ met_next place l there

    -- after a mark comes the increment or the next statement
    mark_next : l.stmt ≡ Mark → (ends : Bool) → is_end flat number ≡ ends → beyond stmts (front + place) is.s ≡ first_flat_of flat place + 1
    mark_next same ends told =
        let own : own_executables is.s.stmt ≡ 1 = ap own_executables is.stmt ∙ ap (λ stmt. own_executables (read_form q.names stmt)) same in
        let label : is.s.label ≡ number = is.label ∙ ap (λ stmt. cond (is_mark stmt) number 0) same in
        ap (λ n. cond (nat_lt 0 (length (loops_to stmts n))) (first_of stmts (front + place) + own_executables is.s.stmt) (met stmts (front + place + 1))) label
        ∙ ap (λ (xs : List ℕ). cond (nat_lt 0 (length xs)) (first_of stmts (front + place) + own_executables is.s.stmt) (met stmts (front + place + 1))) (loops_of q flat given free number ends told)
        ∙ by ends told own
      where
        by : (b : Bool) → is_end flat number ≡ b → own_executables is.s.stmt ≡ 1 → cond (nat_lt 0 (length (cond b ((front + loop_to flat number) ∷ []) []))) (first_of stmts (front + place) + own_executables is.s.stmt) (met stmts (front + place + 1)) ≡ first_flat_of flat place + 1
        by true e own = ap (λ n. first_of stmts (front + place) + n) own ∙ ap (λ n. n + 1) (first_here place l there)
        by false e own =
            let one : width flat place l.stmt ≡ 1 = ap (width flat place) same ∙ ap (λ b. cond b 2 1) e in
            met_next place l there ∙ first_next place l there ∙ ap (λ n. first_flat_of flat place + n) one

  -- where control goes after a DO
  exit_same : (place : ℕ) (l : FlatLine) → slice_get flat place ≡ Some l → (end : ℕ) → ends_at end l.stmt ≡ true → IsNumber (mark_count flat) end → exit_of stmts end (front + place) ≡ beyond_mark flat end
  exit_same place l there end ends number =
      let head = head_is q flat given free end place l there ends in
      let mark = mark_of flat end number in
      let terminal = statement_of stmts end in
      let incremented = increments_at stmts terminal (slice_get stmts terminal) in
      let onward = met stmts (terminal + 1) in
      let loops : loops_to stmts end ≡ (front + place) ∷ [] = loops_of q flat given free end true head.ends ∙ ap (λ k. (front + k) ∷ []) head.place_is in
      ap (λ (ds : List ℕ). exit_among stmts terminal incremented ds (front + place)) loops
      ∙ ap (λ b. cond b onward onward) (eq-eqb (front + place) (front + place) refl)
      ∙ ap (λ t. met stmts (t + 1)) (label_place q flat given.form flat_few end number)
      ∙ met_next (place_of flat end) mark.l mark.there

  -- ---- increments

  proper_of : (place : ℕ) (l : FlatLine) → slice_get flat place ≡ Some l → IsProperFlat q.names l.stmt
  proper_of place l there = All-get (λ (k : FlatLine). IsProperFlat q.names k.stmt) flat place l given.proper there

  name_same : (var : ℕ) → var < length q.names → index_of table (name_at q.names var) ≡ var
  name_same var known =
      ap (λ (names : List NameInfo). index_of names (name_at q.names var)) (table_same q flat given free) ∙ bare-index q.names (name_at q.names var) ∙ index-name q.names var given.declarations.differ known

  variable_by : (number line : ℕ) (stmt : Flat) → ends_at number stmt ≡ true → IsProperFlat q.names stmt → index_of table (do_variable (read_form q.names stmt)) ≡ variable_in (Some (record { line = line; stmt = stmt }))
  variable_by number line Mark ends proper = absurd cc
  variable_by number line (Assignment target value) ends proper = absurd cc
  variable_by number line (Output items) ends proper = absurd cc
  variable_by number line (LogicalIf condition target) ends proper = absurd cc
  variable_by number line (ArithmeticIf value below at above) ends proper = absurd cc
  variable_by number line (ComputedGoTo value targets) ends proper = absurd cc
  variable_by number line (DoLoop end var first last step) ends proper = name_same var proper.variable.known
  variable_by number line (Jump target) ends proper = absurd cc
  variable_by number line Finish ends proper = absurd cc

  module _ (place : ℕ) (l : FlatLine) (there : slice_get flat place ≡ Some l) where
    incremented_by : (head : ℕ) (h : FlatLine) (index : ℕ) → slice_get flat head ≡ Some h → ends_at (mark_at flat place) h.stmt ≡ true → increments table stmts (front + place) index ((front + head) ∷ []) ≡ increment flat head (first_flat_of flat (place + 1)) ∷ []
    incremented_by head h index is_there ends =
        let read = read_at q flat given free head h is_there in
        let number : loop_number stmts (front + head) ≡ loop_at flat head = number_same head h is_there in
        let variable : index_of table (variable_of (slice_get stmts (front + head))) ≡ variable_in (slice_get flat head) =
        ap (λ (o : Option Labelled). index_of table (variable_of o)) read.stands ∙ ap (λ s. index_of table (do_variable s)) read.stmt
        ∙ variable_by (mark_at flat place) h.line h.stmt ends (proper_of head h is_there) ∙ ap variable_in (sym is_there)
        in
        let body : first_of stmts (front + head) + 1 ≡ first_flat_of flat (head + 1) =
        ap (λ n. n + 1) (first_here head h is_there) ∙ ap (λ n. first_flat_of flat head + n) (sym (loop_width (is_end flat (mark_at flat head)) (mark_at flat place) h.stmt ends)) ∙ sym (first_next head h is_there)
        in
        let onward : exit_after stmts (front + place) index [] ≡ first_flat_of flat (place + 1) = met_next place l there in
        ap (λ n. DoNext n (index_of table (variable_of (slice_get stmts (front + head)))) (first_of stmts (front + head) + 1) (exit_after stmts (front + place) index []) ∷ []) number
        ∙ ap (λ v. DoNext (loop_at flat head) v (first_of stmts (front + head) + 1) (exit_after stmts (front + place) index []) ∷ []) variable
        ∙ ap (λ b. DoNext (loop_at flat head) (variable_in (slice_get flat head)) b (exit_after stmts (front + place) index []) ∷ []) body
        ∙ ap (λ n. DoNext (loop_at flat head) (variable_in (slice_get flat head)) (first_flat_of flat (head + 1)) n ∷ []) onward

    increments_if : (ends : Bool) (index : ℕ) → is_end flat (mark_at flat place) ≡ ends → increments table stmts (front + place) index (loops_to stmts (mark_at flat place)) ≡ option_to_list (cond ends (Some (increment flat (loop_to flat (mark_at flat place)) (first_flat_of flat (place + 1)))) None)
    increments_if false index told = ap (increments table stmts (front + place) index) (loops_of q flat given free (mark_at flat place) false told)
    increments_if true index told =
        let p : FlatLine → Bool = λ k. ends_at (mark_at flat place) k.stmt in
        let head = loop_to flat (mark_at flat place) in
        let lt : head < length flat = ltb-true head (length flat) told in
        let found = get_some flat head lt in
        let passes : p found.0 ≡ true = ap p (sym (get_or_from_slice_get flat head found.0 found.0 found.1)) ∙ passes_at_first p flat found.0 lt in
        ap (increments table stmts (front + place) index) (loops_of q flat given free (mark_at flat place) true told) ∙ incremented_by head found.0 index found.1 passes

    -- ---- the executables of one statement

    abbrev index : ℕ
    index = first_of stmts (front + place)

    abbrev own : ℕ → Stmt → List ExecKind
    own next stmt = own_kinds bare checked stmts (front + place) index next stmt

    assigned_own : (target : Access) (value : Expr) (takes : Bool) (next : ℕ) → (words_taken value == 1) ≡ takes → IsAssignment q.names target value → ExecHasDialect checked (Assign target value next) → own next (assigned_form q.names takes target value) ≡ Assign target value next ∷ []
    assigned_own target value true next told is dialect =
        let e = raw_form q.names (Read target) in
        ap (λ t. Assign t (taken_as (kind_or_integer (kind_in bare e))) next ∷ []) (target_again q.names checked given.declarations.differ free target is.access dialect.0)
        ∙ ap (λ v. Assign target v next ∷ []) (taken_again q.names checked given.declarations.differ free target value is told)
    assigned_own target value false next told is dialect =
        ap (λ t. Assign t (resolved bare checked (raw_form q.names value)) next ∷ []) (target_again q.names checked given.declarations.differ free target is.access dialect.0)
        ∙ ap (λ v. Assign target v next ∷ []) (tree_again q.names checked given.declarations.differ free value (value_of q.names given.declarations.differ free target value is told).proper dialect.1)

    loop_own : (end var : ℕ) (first last step : Expr) (next : ℕ) → l.stmt ≡ DoLoop end var first last step → IsDo q.names var (first ∷ last ∷ step ∷ []) → IsNumber (mark_count flat) end → ExecHasDialect checked (leading flat place (DoLoop end var first last step)) → own next (read_form q.names (DoLoop end var first last step)) ≡ leading flat place (DoLoop end var first last step) ∷ []
    loop_own end var first last step next same of number dialect =
        let integer = IsOfKind q.names Integer in
        let later = All-rest integer first (last ∷ step ∷ []) of.integers in
        let a = tree_again q.names checked given.declarations.differ free first (All-first integer first (last ∷ step ∷ []) of.integers).proper dialect.0 in
        let b = tree_again q.names checked given.declarations.differ free last (All-first integer last (step ∷ []) later).proper dialect.1 in
        let c = step_again q.names checked given.declarations.differ free step (All-first integer step [] (All-rest integer last (step ∷ []) later)).proper dialect.2 in
        let ends : ends_at end l.stmt ≡ true = ap (ends_at end) same ∙ eq-eqb end end refl in
        let name = name_at q.names var in
        let raws = resolved bare checked (raw_form q.names first) in
        let rawl = resolved bare checked (raw_form q.names last) in
        let known : index_of bare name ≡ var = bare-index q.names name ∙ index-name q.names var given.declarations.differ of.variable.known in
        let body : index + 1 ≡ first_flat_of flat (place + 1) =
        ap (λ n. n + 1) (first_here place l there) ∙ ap (λ n. first_flat_of flat place + n) (sym (loop_width (is_end flat (mark_at flat place)) end l.stmt ends)) ∙ sym (first_next place l there)
        in
        let exit = exit_of stmts end (front + place) in
        ap (λ n. DoStart n (index_of bare name) raws rawl (resolved_step bare checked (step_form q.names step)) (index + 1) exit ∷ []) (number_same place l there)
        ∙ ap (λ v. DoStart (loop_at flat place) v raws rawl (resolved_step bare checked (step_form q.names step)) (index + 1) exit ∷ []) known
        ∙ ap (λ (e : Expr). DoStart (loop_at flat place) var e rawl (resolved_step bare checked (step_form q.names step)) (index + 1) exit ∷ []) a
        ∙ ap (λ (e : Expr). DoStart (loop_at flat place) var first e (resolved_step bare checked (step_form q.names step)) (index + 1) exit ∷ []) b
        ∙ ap (λ (e : Expr). DoStart (loop_at flat place) var first last e (index + 1) exit ∷ []) c
        ∙ ap (λ n. DoStart (loop_at flat place) var first last step n exit ∷ []) body
        ∙ ap (λ n. DoStart (loop_at flat place) var first last step (first_flat_of flat (place + 1)) n ∷ []) (exit_same place l there end ends number)

    abbrev numbered : ℕ → Type 0
    numbered = IsNumber (mark_count flat)

    own_by : (stmt : Flat) (next : ℕ) → l.stmt ≡ stmt → IsProperFlat q.names stmt → HasNumbers (mark_count flat) stmt → ExecHasDialect checked (leading flat place stmt) → (is_mark stmt ≡ true → next ≡ first_flat_of flat place + 1) → (is_mark stmt ≡ false → next ≡ first_flat_of flat (place + 1)) → own next (read_form q.names stmt) ≡ leading flat place stmt ∷ second flat stmt
    own_by Mark next same proper has dialect marks plain = ap (λ n. Pass n ∷ []) (marks refl)
    own_by (Assignment target value) next same proper has dialect marks plain =
        assigned_own target value (words_taken value == 1) next refl proper dialect ∙ ap (λ n. Assign target value n ∷ []) (plain refl)
    own_by (Output items) next same proper has dialect marks plain =
        ap (λ (is : _). Print is next ∷ []) (items_again q.names checked given.declarations.differ free items proper dialect) ∙ ap (λ n. Print items n ∷ []) (plain refl)
    own_by (LogicalIf condition target) next same proper has dialect marks plain =
        guarded_kinds bare checked stmts (front + place) index next (raw_form q.names condition) target
        ∙ ap (λ (e : Expr). Test e (index + 1) next ∷ Pass (labelled stmts target) ∷ []) (tree_again q.names checked given.declarations.differ free condition proper.proper dialect)
        ∙ ap (λ n. Test condition (n + 1) next ∷ Pass (labelled stmts target) ∷ []) (first_here place l there)
        ∙ ap (λ n. Test condition (first_flat_of flat place + 1) n ∷ Pass (labelled stmts target) ∷ []) (plain refl)
        ∙ ap (λ n. Test condition (first_flat_of flat place + 1) (first_flat_of flat (place + 1)) ∷ Pass n ∷ []) (label_same target (All-first numbered target [] has.jumps))
    own_by (ArithmeticIf value below at above) next same proper has dialect marks plain =
        let later = All-rest numbered below (at ∷ above ∷ []) has.jumps in
        ap (λ (e : Expr). Sign e (labelled stmts below) (labelled stmts at) (labelled stmts above) ∷ []) (tree_again q.names checked given.declarations.differ free value proper.proper dialect)
        ∙ ap (λ n. Sign value n (labelled stmts at) (labelled stmts above) ∷ []) (label_same below (All-first numbered below (at ∷ above ∷ []) has.jumps))
        ∙ ap (λ n. Sign value (marked flat below) n (labelled stmts above) ∷ []) (label_same at (All-first numbered at (above ∷ []) later))
        ∙ ap (λ n. Sign value (marked flat below) (marked flat at) n ∷ []) (label_same above (All-first numbered above [] (All-rest numbered at (above ∷ []) later)))
    own_by (ComputedGoTo value targets) next same proper has dialect marks plain =
        ap (λ (e : Expr). Pick e (map (labelled stmts) targets) next ∷ []) (tree_again q.names checked given.declarations.differ free value proper.0.proper dialect)
        ∙ ap (λ (ns : List ℕ). Pick value ns next ∷ []) (labels_same targets has.jumps)
        ∙ ap (λ n. Pick value (map (marked flat) targets) n ∷ []) (plain refl)
    own_by (DoLoop end var first last step) next same proper has dialect marks plain = loop_own end var first last step next same proper (All-first numbered end [] has.range_end) dialect
    own_by (Jump target) next same proper has dialect marks plain = ap (λ n. Pass n ∷ []) (label_same target (All-first numbered target [] has.jumps))
    own_by Finish next same proper has dialect marks plain = refl

    -- what a statement is read as has the executables of the flat one
    mark_or_none : (stmt : Flat) → is_mark stmt ≡ true → stmt ≡ Mark
    mark_or_none Mark is = refl
    mark_or_none (Assignment target value) is = absurd cc
    mark_or_none (Output items) is = absurd cc
    mark_or_none (LogicalIf condition target) is = absurd cc
    mark_or_none (ArithmeticIf value below at above) is = absurd cc
    mark_or_none (ComputedGoTo value targets) is = absurd cc
    mark_or_none (DoLoop end var first last step) is = absurd cc
    mark_or_none (Jump target) is = absurd cc
    mark_or_none Finish is = absurd cc

    pub own_same : ExecHasDialect checked (leading flat place l.stmt) → own_kinds table checked stmts (front + place) index (beyond stmts (front + place) (is place l there).s) (is place l there).s.stmt ≡ leading flat place l.stmt ∷ second flat l.stmt
    own_same dialect =
        let next = beyond stmts (front + place) (is place l there).s in
        ap (λ (names : List NameInfo). own_kinds names checked stmts (front + place) index next (is place l there).s.stmt) (table_same q flat given free)
        ∙ ap (own next) (is place l there).stmt
        ∙ own_by l.stmt next refl (proper_of place l there) (numbers_of place l there) dialect
        (λ marks. mark_next place l there (mark_or_none l.stmt marks) (is_end flat (mark_at flat place)) refl)
        (λ none. plain_next place l there none)

    -- the increments that come after, by what the statement is
    later_by : (stmt : Flat) (at : ℕ) → l.stmt ≡ stmt → leading flat place stmt ∷ second flat stmt ++ increments table stmts (front + place) at (loops_to stmts (cond (is_mark stmt) (mark_at flat place) 0)) ≡ leading flat place stmt ∷ option_to_list (following flat place stmt)
    later_by Mark at same = ap (λ (ks : List ExecKind). leading flat place Mark ∷ ks) (increments_if (is_end flat (mark_at flat place)) at refl)
    later_by (Assignment target value) at same = ap (λ (ds : List ℕ). leading flat place (Assignment target value) ∷ increments table stmts (front + place) at ds) (none_unlabelled q flat given free)
    later_by (Output items) at same = ap (λ (ds : List ℕ). leading flat place (Output items) ∷ increments table stmts (front + place) at ds) (none_unlabelled q flat given free)
    later_by (LogicalIf condition target) at same = ap (λ (ds : List ℕ). leading flat place (LogicalIf condition target) ∷ Pass (marked flat target) ∷ increments table stmts (front + place) at ds) (none_unlabelled q flat given free)
    later_by (ArithmeticIf value below on above) at same = ap (λ (ds : List ℕ). leading flat place (ArithmeticIf value below on above) ∷ increments table stmts (front + place) at ds) (none_unlabelled q flat given free)
    later_by (ComputedGoTo value targets) at same = ap (λ (ds : List ℕ). leading flat place (ComputedGoTo value targets) ∷ increments table stmts (front + place) at ds) (none_unlabelled q flat given free)
    later_by (DoLoop end var first last step) at same = ap (λ (ds : List ℕ). leading flat place (DoLoop end var first last step) ∷ increments table stmts (front + place) at ds) (none_unlabelled q flat given free)
    later_by (Jump target) at same = ap (λ (ds : List ℕ). leading flat place (Jump target) ∷ increments table stmts (front + place) at ds) (none_unlabelled q flat given free)
    later_by Finish at same = ap (λ (ds : List ℕ). leading flat place Finish ∷ increments table stmts (front + place) at ds) (none_unlabelled q flat given free)

    pub statement_same : ExecHasDialect checked (leading flat place l.stmt) → kinds_at table checked stmts (front + place) (is place l there).s ≡ leading flat place l.stmt ∷ option_to_list (following flat place l.stmt)
    statement_same dialect =
        let at = index + own_executables (is place l there).s.stmt in
        let s = (is place l there).s in
        ap (λ (ks : List ExecKind). ks ++ increments table stmts (front + place) at (loops_to stmts s.label)) (own_same dialect)
        ∙ ap (λ n. (leading flat place l.stmt ∷ second flat l.stmt) ++ increments table stmts (front + place) at (loops_to stmts n)) (is place l there).label
        ∙ later_by l.stmt at refl

  -- ---- all of them

  abbrev read_kinds : ℕ → List ExecKind
  read_kinds k = kinds_of (executables_if_any table checked stmts k (slice_get stmts k))

  abbrev own_at : ℕ → List ExecKind
  own_at place = kinds_of (flat_executables_at flat place)

  record HasNoKinds (w : WrittenStatement) : Type 0 where
    none : (names : List NameInfo) (whole : List Labelled) (place at next : ℕ) → own_kinds names checked whole place at next (statement_read w) ≡ []

  none_declared : (k : ℕ) → k < front → read_kinds k ≡ []
  none_declared k lt =
      let size = statement_count q flat in
      let found = get_some stmts k (omega (arith, size, lt)) in
      let is = declared_at q flat k found.0 lt found.1 in
      let s = found.0 in
      let idle = All-get HasNoKinds (declared q) k is.w (declared_each HasNoKinds q (λ block. record { none = λ names whole place at next. refl }) (λ info. record { none = λ names whole place at next. refl }) (λ group. record { none = λ names whole place at next. refl }) (λ part. record { none = λ names whole place at next. refl })) is.there in
      let at = first_of stmts k + own_executables s.stmt in
      let nothing : kinds_at table checked stmts k s ≡ [] =
      ap (λ stmt. own_kinds table checked stmts k (first_of stmts k) (beyond stmts k s) stmt ++ increments table stmts k at (loops_to stmts s.label)) is.stmt
      ∙ ap (λ (ks : List ExecKind). ks ++ increments table stmts k at (loops_to stmts s.label)) (idle.none table stmts k (first_of stmts k) (beyond stmts k s))
      ∙ ap (λ n. increments table stmts k at (loops_to stmts n)) is.label
      ∙ ap (increments table stmts k at) (none_unlabelled q flat given free)
      in
      ap (λ (o : Option Labelled). kinds_of (executables_if_any table checked stmts k o)) found.1 ∙ kinds-lined s.line (kinds_at table checked stmts k s) ∙ nothing

  module _ (dialect : (place : ℕ) (l : FlatLine) → slice_get flat place ≡ Some l → ExecHasDialect checked (leading flat place l.stmt)) where
    place_same : (place : ℕ) → place < length flat → read_kinds (front + place) ≡ own_at place
    place_same place lt =
        let found = get_some flat place lt in
        let l = found.0 in
        let read = read_at q flat given free place l found.1 in
        ap (λ (o : Option Labelled). kinds_of (executables_if_any table checked stmts (front + place) o)) read.stands
        ∙ kinds-lined read.s.line (kinds_at table checked stmts (front + place) read.s)
        ∙ statement_same place l found.1 (dialect place l found.1)
        ∙ sym (kinds-lined l.line (leading flat place l.stmt ∷ option_to_list (following flat place l.stmt)))
        ∙ ap (λ (o : Option FlatLine). kinds_of (executables_in flat place o)) (sym found.1)

    read_next : (k : ℕ) → flat_map read_kinds (range_with_len 0 (k + 1)) ≡ flat_map read_kinds (range_with_len 0 k) ++ read_kinds k
    read_next k = ap (flat_map read_kinds) (range_more k) ∙ flat_map-append read_kinds (range_with_len 0 k) (k ∷ []) ∙ ap (λ (ks : List ExecKind). flat_map read_kinds (range_with_len 0 k) ++ ks) (append-nil (read_kinds k))

    own_next : (k : ℕ) → flat_map own_at (range_with_len 0 (k + 1)) ≡ flat_map own_at (range_with_len 0 k) ++ own_at k
    own_next k = ap (flat_map own_at) (range_more k) ∙ flat_map-append own_at (range_with_len 0 k) (k ∷ []) ∙ ap (λ (ks : List ExecKind). flat_map own_at (range_with_len 0 k) ++ ks) (append-nil (own_at k))

    none_upto : (k : ℕ) → k ≤ front → flat_map read_kinds (range_with_len 0 k) ≡ []
    none_upto zero le = refl
    none_upto (suc k) le =
        let add : suc k ≡ k + 1 = omega arith in
        ap (λ n. flat_map read_kinds (range_with_len 0 n)) add ∙ read_next k ∙ ap (λ (ks : List ExecKind). ks ++ read_kinds k) (none_upto k (omega (arith, le))) ∙ none_declared k (omega (arith, le))

    same_upto : (place : ℕ) → place ≤ length flat → flat_map read_kinds (range_with_len 0 (front + place)) ≡ flat_map own_at (range_with_len 0 place)
    same_upto zero le = let e : front + 0 ≡ front = omega arith in ap (λ n. flat_map read_kinds (range_with_len 0 n)) e ∙ none_upto front (omega arith)
    same_upto (suc place) le =
        let e : front + suc place ≡ front + place + 1 = omega arith in
        let add : suc place ≡ place + 1 = omega arith in
        ap (λ n. flat_map read_kinds (range_with_len 0 n)) e ∙ read_next (front + place)
        ∙ ap (λ (ks : List ExecKind). ks ++ read_kinds (front + place)) (same_upto place (omega (arith, le)))
        ∙ ap (λ (ks : List ExecKind). flat_map own_at (range_with_len 0 place) ++ ks) (place_same place (omega (arith, le)))
        ∙ sym (own_next place)
        ∙ ap (λ n. flat_map own_at (range_with_len 0 n)) (sym add)

    -- the executables are those of the flat statements, on other lines
    pub executables_same : map (λ (e : Exec). e.kind) (executables (names_of (statements_read q flat)) checked (statements_read q flat)) ≡ map (λ (e : Exec). e.kind) (flat_executables flat)
    executables_same =
        let size = statement_count q flat in
        kinds-flat (λ k. executables_if_any table checked stmts k (slice_get stmts k)) (range_with_len 0 (length stmts))
        ∙ ap (λ n. flat_map read_kinds (range_with_len 0 n)) size
        ∙ same_upto (length flat) (omega arith)
        ∙ sym (kinds-flat (flat_executables_at flat) (range_with_len 0 (length flat)))
