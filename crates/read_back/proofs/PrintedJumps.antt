-- No statement of a printed program jumps into the range of a DO from outside of it.
use Rattle.std.proofs.Common.{◌≡◌, ◌==◌, ℕ, ◌+◌, ◌-◌, ◌<◌, ◌≤◌, Bool, true, false, cond, not, List, [], ◌∷◌, length, take, ◌&&◌, ◌||◌, refl, sym, ap, ◌∙◌, subst, ⊎_elim, arith, Option, Some, None}
use Rattle.std.specs.Prelude.{All, Contains, decimal, flat_map, slice_get}
use Rattle.std.specs.List.{list_any, range_with_len}
use Rattle.std.proofs.lemmas.Bool.{cases_lt, ltb-true, leb-true, lt-ltb, le-leb}
use Rattle.std.proofs.lemmas.List.{length-take}
use Rattle.std.proofs.lemmas.List.Elements.{Contains-get_or}
use Rattle.std.proofs.lemmas.List.Folds.{list_any-append}
use Rattle.std.proofs.lemmas.Option.{get_or_from_slice_get}
use Rattle.f77_tree.specs.declared.programs.Program.{Program}
use Rattle.f77_tree.specs.declared.statements.Labelled.{Labelled}
use Rattle.f77_tree.specs.Execution.{words_taken}
use Rattle.f77_tree.specs.Grammar.{number_of}
use Rattle.f77_tree.specs.StatementGrammar.{WrittenStatement, statement_of as statement_read}
use Rattle.f77_tree.proofs.AllLemmas.{All-first, All-get}
use Rattle.layout_rules.specs.Faults.{first_line}
use Rattle.layout_rules.specs.Jumps.{Span, span_of, span_if_any, lies_in, leads_into, jumps_into}
use Rattle.layout_rules.specs.Labels.{statement_of, jumps as jumps_read}
use Rattle.control_structure.proofs.LabelLemmas.{statement_of-own}
use Rattle.flat_programs.specs.declared.statements.Flat.{Flat}
use Rattle.flat_programs.specs.declared.statements.Flat.TheVariants.{Mark, Assignment, Output, LogicalIf, ArithmeticIf, ComputedGoTo, DoLoop, Jump, Finish}
use Rattle.flat_programs.specs.declared.statements.FlatLine.{FlatLine}
use Rattle.flat_programs.specs.Declarations.{declared}
use Rattle.flat_programs.specs.FlatForm.{IsFlat, IsSpan, IsNumber, HasNumbers, jumps, range_end}
use Rattle.flat_programs.specs.Marks.{mark_at, mark_count, place_of}
use Rattle.flat_programs.specs.Shown.{shown}
use Rattle.read_back.specs.SourceStatements.{statements_read}
use Rattle.read_back.proofs.DeclaredEach.{declared_each}
use Rattle.read_back.proofs.FirstFaults.{none_faulty, none_passes}
use Rattle.read_back.proofs.MarkPlaces.{mark_of}
use Rattle.read_back.proofs.PrintedLabels.{again, marks_few, jumps_same, none_labelled_twice}
use Rattle.read_back.proofs.PrintedPlaces.{got_within, IsDeclaredAt, IsFlatAt, first_flat, has_statement, flat_at, declared_at}

none_flat : {X Y : Type 0} (p : Y → Bool) (f : X → List Y) (xs : List X) → ((x : X) → list_any p (f x) ≡ false) → list_any p (flat_map f xs) ≡ false
none_flat p f [] none = refl
none_flat p f (x ∷ xs) none = list_any-append p (f x) (flat_map f xs) ∙ ap (λ b. b || list_any p (flat_map f xs)) (none x) ∙ none_flat p f xs none

-- what holds the target holds the jump
not_into : (span : Span) (from to : ℕ) → ((span.head < to) → (to ≤ span.last) → (span.head < from) × (from ≤ span.last)) → (lies_in span to && not (lies_in span from)) ≡ false
not_into span from to both = grind (arith, ltb-true, leb-true, lt-ltb, le-leb from)

module _ (q : Program) (flat : List FlatLine) (form : IsFlat flat) (few : length flat ≤ 4000) where
  abbrev stmts : List Labelled
  stmts = statements_read q flat

  -- the place of a label
  pub label_place : (n : ℕ) → IsNumber (mark_count flat) n → statement_of stmts n ≡ first_flat q flat + place_of flat n
  label_place n is =
      let mark = mark_of flat n is in
      let has = has_statement q flat (place_of flat n) mark.l mark.there in
      let label : has.s.label ≡ n = has.label ∙ ap (λ b. cond b (mark_at flat (place_of flat n)) 0) mark.marks ∙ mark.number_is in
      let least = is.least in
      ap (statement_of stmts) (sym label) ∙ statement_of-own stmts (none_labelled_twice q flat) (first_flat q flat + place_of flat n) has.s has.stands (λ none. omega (arith, label, least, none))

  module _ (from number : ℕ) (l : FlatLine) (there : slice_get flat from ≡ Some l) (jump : Contains (jumps l.stmt) number) (is : IsNumber (mark_count flat) number) where
    abbrev leads : Span → Bool
    leads span = lies_in span (statement_of stmts number) && not (lies_in span (first_flat q flat + from))

    leads_not : (head last : ℕ) → IsSpan flat head last → leads (record { head = first_flat q flat + head; last = first_flat q flat + last }) ≡ false
    leads_not head last span =
        let outer : Span = record { head = first_flat q flat + head; last = first_flat q flat + last } in
        ap (λ to. lies_in outer to && not (lies_in outer (first_flat q flat + from))) (label_place number is)
        ∙ not_into outer (first_flat q flat + from) (first_flat q flat + place_of flat number) (λ after up_to.
        let lies = form.kept_out head last from number l span there jump (record { after = omega (arith, after); up_to = omega (arith, up_to) }) in
        let a = lies.after in
        let b = lies.up_to in
        (omega (arith, a), omega (arith, b)))

    no_span_if : (b : Bool) (v w : WrittenStatement) (i : ℕ) → span_of stmts i (statement_read v) ≡ [] → span_of stmts i (statement_read w) ≡ [] → span_of stmts i (statement_read (cond b v w)) ≡ []
    no_span_if true v w i a c = a
    no_span_if false v w i a c = c

    from_flat : (head : ℕ) (h : FlatLine) → slice_get flat head ≡ Some h → (stmt : Flat) → h.stmt ≡ stmt → list_any leads (span_of stmts (first_flat q flat + head) (statement_read (shown q.names stmt))) ≡ false
    from_flat head h is_there Mark same = refl
    from_flat head h is_there (Assignment target value) same = ap (list_any leads) (no_span_if (words_taken value == 1) _ _ (first_flat q flat + head) refl refl)
    from_flat head h is_there (Output items) same = refl
    from_flat head h is_there (LogicalIf condition target) same = refl
    from_flat head h is_there (ArithmeticIf value below at above) same = refl
    from_flat head h is_there (ComputedGoTo value targets) same = refl
    from_flat head h is_there (DoLoop end var first last step) same =
        let span : IsSpan flat head (place_of flat end) = record { here = h; is = is_there; end = end; ends = ap range_end same; place = refl } in
        let numbers = All-get (λ (k : FlatLine). HasNumbers (mark_count flat) k.stmt) flat head h form.numbered is_there in
        let number_is : IsNumber (mark_count flat) end = All-first (IsNumber (mark_count flat)) end [] (subst (All (IsNumber (mark_count flat))) (ap range_end same) numbers.range_end) in
        let at : statement_of stmts (number_of (decimal end)) ≡ first_flat q flat + place_of flat end = ap (statement_of stmts) (again end (mark_count flat) (marks_few q flat form few) number_is) ∙ label_place end number_is in
        ap (λ place. leads (record { head = first_flat q flat + head; last = place }) || false) at
        ∙ ap (λ b. b || false) (leads_not head (place_of flat end) span)
    from_flat head h is_there (Jump target) same = refl
    from_flat head h is_there Finish same = refl

    no_declared_span : (i : ℕ) (t : Labelled) → IsDeclaredAt q i t → span_of stmts i t.stmt ≡ []
    no_declared_span i t is_declared =
        ap (span_of stmts i) is_declared.stmt ∙ All-get (λ w. span_of stmts i (statement_read w) ≡ []) (declared q) i is_declared.w (declared_each (λ w. span_of stmts i (statement_read w) ≡ []) q (λ block. refl) (λ info. refl) (λ group. refl) (λ part. refl)) is_declared.there

    from_any : (i : ℕ) (t : Labelled) → slice_get stmts i ≡ Some t → list_any leads (span_of stmts i t.stmt) ≡ false
    from_any i t is_there =
        ⊎_elim
        (λ (lt : i < first_flat q flat). ap (list_any leads) (no_declared_span i t (declared_at q flat i t lt is_there)))
        (λ (le : first_flat q flat ≤ i).
        let head = i - first_flat q flat in
        let e : i ≡ first_flat q flat + head = omega (arith, le) in
        let found = flat_at q flat head t (ap (slice_get stmts) (sym e) ∙ is_there) in
        ap (λ j. list_any leads (span_of stmts j t.stmt)) e
        ∙ ap (λ s. list_any leads (span_of stmts (first_flat q flat + head) s)) found.stmt
        ∙ from_flat head found.l found.there found.l.stmt refl)
        (cases_lt i (first_flat q flat))

    from_place : (i : ℕ) (t : Option Labelled) → slice_get stmts i ≡ t → list_any leads (span_if_any stmts i t) ≡ false
    from_place i None is_there = refl
    from_place i (Some t) is_there = from_any i t is_there

    leads_nowhere : leads_into stmts (first_flat q flat + from) (statement_of stmts number) ≡ false
    leads_nowhere = none_flat leads (λ i. span_if_any stmts i (slice_get stmts i)) (range_with_len 0 (length stmts)) (λ i. from_place i (slice_get stmts i) refl)

  jumps_none : (k : ℕ) (s : Labelled) → IsDeclaredAt q k s → jumps_read s.stmt ≡ []
  jumps_none k s is =
      ap jumps_read is.stmt ∙ All-get (λ w. jumps_read (statement_read w) ≡ []) (declared q) k is.w (declared_each (λ w. jumps_read (statement_read w) ≡ []) q (λ block. refl) (λ info. refl) (λ group. refl) (λ part. refl)) is.there

  stays_out : (place : ℕ) (s : Labelled) → IsFlatAt q flat place s → list_any (λ label. leads_into stmts (first_flat q flat + place) (statement_of stmts label)) (jumps_read s.stmt) ≡ false
  stays_out place s is =
      let numbers = (All-get (λ (l : FlatLine). HasNumbers (mark_count flat) l.stmt) flat place is.l form.numbered is.there).jumps in
      let same : jumps_read s.stmt ≡ jumps is.l.stmt = ap jumps_read is.stmt ∙ jumps_same (mark_count flat) (marks_few q flat form few) q.names is.l.stmt numbers in
      let into : ℕ → Bool = λ label. leads_into stmts (first_flat q flat + place) (statement_of stmts label) in
      ap (list_any into) same
      ∙ none_passes into (jumps is.l.stmt) (λ j n there. leads_nowhere place n is.l is.there (contains-get (jumps is.l.stmt) j n there) (All-get (IsNumber (mark_count flat)) (jumps is.l.stmt) j n numbers there))
    where
      contains-get : (ns : List ℕ) (j n : ℕ) → slice_get ns j ≡ Some n → Contains ns n
      contains-get ns j n there = subst (Contains ns) (get_or_from_slice_get ns j n 0 there) (Contains-get_or ns j 0 (got_within ns j n there))

  at_length : (k : ℕ) → k < length stmts → length (take k stmts) ≡ k
  at_length k lt = let size = length-take k stmts in omega (arith, size, lt)

  pub none_jumps_into : first_line (jumps_into (statements_read q flat)) (statements_read q flat) ≡ None
  none_jumps_into =
      none_faulty (jumps_into stmts) stmts (λ k s is.
      let into : ℕ → ℕ → Bool = λ from label. leads_into stmts from (statement_of stmts label) in
      ap (λ n. list_any (into n) (jumps_read s.stmt)) (at_length k (got_within stmts k s is))
      ∙ ⊎_elim
      (λ (lt : k < first_flat q flat). ap (list_any (into k)) (jumps_none k s (declared_at q flat k s lt is)))
      (λ (le : first_flat q flat ≤ k).
      let place = k - first_flat q flat in
      let e : k ≡ first_flat q flat + place = omega (arith, le) in
      ap (λ n. list_any (into n) (jumps_read s.stmt)) e ∙ stays_out place s (flat_at q flat place s (ap (slice_get stmts) (sym e) ∙ is)))
      (cases_lt k (first_flat q flat)))
