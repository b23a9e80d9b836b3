-- The DOs of a printed program are nested: what is open at a flat statement are the DOs above it whose ranges end there or after it, the
-- innermost first.
use Rattle.std.proofs.Common.{◌≡◌, ◌≢◌, ℕ, suc, ◌+◌, ◌-◌, ◌<◌, ◌≤◌, Bool, true, false, cond, List, [], ◌∷◌, length, map, ◌&&◌, ◌||◌, refl, sym, ap, ◌∙◌, subst, ⊎_elim, arith, Option, Some, None}
use Rattle.std.specs.Prelude.{All, decimal, slice_get, slice_index}
use Rattle.std.proofs.lemmas.Bool.{cases_eq, cases_lt, ne_eqb, eq-eqb}
use Rattle.f77_tree.specs.declared.programs.Program.{Program}
use Rattle.f77_tree.specs.declared.statements.Labelled.{Labelled}
use Rattle.f77_tree.specs.Grammar.{number_of}
use Rattle.f77_tree.specs.StatementGrammar.{WrittenStatement, statement_of}
use Rattle.f77_tree.proofs.AllLemmas.{All-first, All-get}
use Rattle.layout_rules.specs.Nesting.{has_loop_to, without_loops, after_ends, after_role, itself, open_after, line_or, first_unnested}
use Rattle.layout_rules.specs.Roles.{role_of, is_no_end}
use Rattle.layout_rules.specs.declared.nesting.Opened.{Opened}
use Rattle.layout_rules.specs.declared.nesting.Opened.TheVariants.{Loop}
use Rattle.layout_rules.specs.declared.nesting.Role.{Role}
use Rattle.layout_rules.specs.declared.nesting.Role.TheVariants.{Declaration, BeginLoop, Plain}
use Rattle.flat_programs.specs.declared.statements.Flat.{Flat}
use Rattle.flat_programs.specs.declared.statements.FlatLine.{FlatLine}
use Rattle.flat_programs.specs.Declarations.{declared}
use Rattle.flat_programs.specs.FlatForm.{IsFlat, IsSpan, IsNumber, HasNumbers, range_end}
use Rattle.flat_programs.specs.Marks.{is_mark, mark_at, mark_count, place_of}
use Rattle.flat_programs.specs.Shown.{shown}
use Rattle.read_back.specs.SourceStatements.{statements_read}
use Rattle.read_back.proofs.DeclaredEach.{declared_each}
use Rattle.read_back.proofs.MarkPlaces.{IsMarkAt, mark_of, place_of-mark}
use Rattle.read_back.proofs.PrintedLabels.{again, marks_few}
use Rattle.read_back.proofs.PrintedPlaces.{got_within, IsDeclaredAt, IsFlatAt, first_flat, flat_at, declared_at}
use Rattle.std.proofs.lemmas.Grind.{elements}

-- ---- walks

-- a walk whose stack keeps an invariant meets no fault
record GoesOn (Inv : ℕ → List Opened → Type 0) (k : ℕ) (s : Labelled) (stack : List Opened) : Type 0 where
  beyond : List Opened
  is : open_after s stack ≡ Some beyond
  keeps : Inv (suc k) beyond

walk : (Inv : ℕ → List Opened → Type 0) (stmts : List Labelled) → ((k : ℕ) (s : Labelled) (stack : List Opened) → slice_get stmts k ≡ Some s → Inv k stack → GoesOn Inv k s stack) → (k : ℕ) (rest : List Labelled) → ((j : ℕ) (s : Labelled) → slice_get rest j ≡ Some s → slice_get stmts (k + j) ≡ Some s) → (stack : List Opened) → Inv k stack → first_unnested stack rest ≡ None
walk Inv stmts step k [] there stack holds = refl
walk Inv stmts step k (s ∷ rest) there stack holds =
    let here : k + 0 ≡ k = omega arith in
    let goes = step k s stack (ap (slice_get stmts) (sym here) ∙ there 0 s refl) holds in
    let later : (j : ℕ) (t : Labelled) → slice_get rest j ≡ Some t → slice_get stmts (suc k + j) ≡ Some t =
    λ j t is. let e : suc k + j ≡ k + suc j = omega arith in ap (slice_get stmts) e ∙ there (suc j) t is
    in
    ap (λ found. line_or s.line found (λ beyond. first_unnested beyond rest)) goes.is ∙ walk Inv stmts step (suc k) rest later goes.beyond goes.keeps

never_unnested : (Inv : ℕ → List Opened → Type 0) (stmts : List Labelled) → ((k : ℕ) (s : Labelled) (stack : List Opened) → slice_get stmts k ≡ Some s → Inv k stack → GoesOn Inv k s stack) → Inv 0 [] → first_unnested [] stmts ≡ None
never_unnested Inv stmts step holds = walk Inv stmts step 0 stmts (λ j s is. let e : 0 + j ≡ j = omega arith in ap (slice_get stmts) e ∙ is) [] holds

-- ---- stacks

without_none : (label : ℕ) (stack : List Opened) → has_loop_to itself label stack ≡ false → without_loops itself label stack ≡ stack
without_none label [] none = refl
without_none label (top ∷ rest) none = grind arith

ends_none : (label : ℕ) (stack : List Opened) → has_loop_to itself label stack ≡ false → after_ends itself label (without_loops itself label stack) ≡ Some stack
ends_none label stack none = grind (arith, without_none label stack none)

abbrev gone_by : Role → (label : ℕ) → List Opened → Option (List Opened)
gone_by role label stack = after_role itself itself role label stack

never : (b : Bool) → (b && false) ≡ false
never true = refl
never false = refl

-- a statement at which no range ends
passes_on : (s : Labelled) (stack : List Opened) → has_loop_to itself s.label stack ≡ false → open_after s stack ≡ gone_by (role_of s.stmt) s.label stack
passes_on s stack none = ap (λ b. cond (b && is_no_end (role_of s.stmt)) None (gone_by (role_of s.stmt) s.label stack)) none

-- one at which ranges may end, or a declaration
may_end : (s : Labelled) (stack : List Opened) (role : Role) → role_of s.stmt ≡ role → is_no_end role ≡ false → open_after s stack ≡ gone_by role s.label stack
may_end s stack role is can = grind (arith, never (has_loop_to itself s.label stack))

-- ---- what is open

abbrev end_number : Option FlatLine → ℕ
end_number None = 0
end_number (Some l) = slice_index (range_end l.stmt) 0

module _ (flat : List FlatLine) (form : IsFlat flat) where
  abbrev loop_from : ℕ → Opened
  loop_from head = Loop (end_number (slice_get flat head))

  -- the DO at a place, whose range ends at this place or after it, is the innermost one of those above the bound
  record IsOpen (place bound head : ℕ) : Type 0 where
    above : head < bound
    last : ℕ
    span : IsSpan flat head last
    up_to : place ≤ last
    innermost : (other end : ℕ) → IsSpan flat other end → head < other → other < bound → end < place

  -- the DOs above a bound whose ranges end at this place or after it
  abbrev AreOpen : (place bound : ℕ) → List ℕ → Type 0
  AreOpen place bound [] = (head last : ℕ) → IsSpan flat head last → head < bound → last < place
  AreOpen place bound (head ∷ heads) = IsOpen place bound head × AreOpen place head heads

  number-of : (head last : ℕ) → (span : IsSpan flat head last) → IsNumber (mark_count flat) span.end
  number-of head last span =
      All-first (IsNumber (mark_count flat)) span.end [] (subst (All (IsNumber (mark_count flat))) span.ends (All-get (λ (l : FlatLine). HasNumbers (mark_count flat) l.stmt) flat head span.here form.numbered span.is).range_end)

  number-is : (head last : ℕ) → (span : IsSpan flat head last) → end_number (slice_get flat head) ≡ span.end
  number-is head last span = ap end_number span.is ∙ ap (λ ns. slice_index ns 0) span.ends

  -- a range ends at a mark
  ends_at_mark : (head last : ℕ) → (span : IsSpan flat head last) → IsMarkAt flat span.end last
  ends_at_mark head last span = subst (IsMarkAt flat span.end) (sym span.place) (mark_of flat span.end (number-of head last span))

  ends_at_no_other : (place : ℕ) (l : FlatLine) → slice_get flat place ≡ Some l → is_mark l.stmt ≡ false → (head last : ℕ) → IsSpan flat head last → last ≢ place
  ends_at_no_other place l is other head last span same = grind (arith, ends_at_mark head last span)

  -- ---- one place on

  later : (place bound : ℕ) (heads : List ℕ) → ((head last : ℕ) → IsSpan flat head last → head < bound → last ≢ place) → AreOpen place bound heads → AreOpen (suc place) bound heads
  later place bound [] none are = λ head last span lt. let less = are head last span lt in omega (arith, less)
  later place bound (head ∷ heads) none are =
      let is = are.0 in
      let above = is.above in
      let up_to = is.up_to in
      let differs = none head is.last is.span above in (
        record {
          above = above;
          last = is.last;
          span = is.span;
          up_to = omega (arith, up_to, differs);
          innermost = λ other end span lt less. let ends = is.innermost other end span lt less in omega (arith, ends);
        },
        later place head heads (λ other last span lt. none other last span (omega (arith, lt, above))) are.1,
      )

  wider : (place bound more : ℕ) (heads : List ℕ) → bound ≤ more → ((head last : ℕ) → IsSpan flat head last → bound ≤ head → head < more → last < place) → AreOpen place bound heads → AreOpen place more heads
  wider place bound more [] le none are = λ head last span lt.
      ⊎_elim
      (λ (less : head < bound). are head last span less)
      (λ (not_less : bound ≤ head). none head last span not_less lt)
      (cases_lt head bound)
  wider place bound more (head ∷ heads) le none are =
      let is = are.0 in
      let above = is.above in (
        record {
          above = omega (arith, above, le);
          last = is.last;
          span = is.span;
          up_to = is.up_to;
          innermost = λ other end span lt less.
              ⊎_elim
              (λ (within : other < bound). is.innermost other end span lt within)
              (λ (beyond : bound ≤ other). none other end span beyond less)
              (cases_lt other bound);
        },
        are.1,
      )

  -- ---- labels of what is open

  no_loop_to : (label place bound : ℕ) (heads : List ℕ) → ((head last : ℕ) → (span : IsSpan flat head last) → place ≤ last → span.end ≢ label) → AreOpen place bound heads → has_loop_to itself label (map loop_from heads) ≡ false
  no_loop_to label place bound [] none are = refl
  no_loop_to label place bound (head ∷ heads) none are =
      let is = are.0 in
      let differs : end_number (slice_get flat head) ≢ label = λ same. none head is.last is.span is.up_to (sym (number-is head is.last is.span) ∙ same) in
      ap (λ b. b || has_loop_to itself label (map loop_from heads)) (ne_eqb (end_number (slice_get flat head)) label differs) ∙ no_loop_to label place head heads none are.1

  no_loop_to_zero : (place bound : ℕ) (heads : List ℕ) → AreOpen place bound heads → has_loop_to itself 0 (map loop_from heads) ≡ false
  no_loop_to_zero place bound heads are =
      no_loop_to 0 place bound heads (λ head last span le same. let least = (number-of head last span).least in omega (arith, least, same)) are

  -- ---- spans

  one_last : (head last other : ℕ) → IsSpan flat head last → IsSpan flat head other → last ≡ other
  one_last head last other a b = cc

  begins_no_range : (place : ℕ) (l : FlatLine) → slice_get flat place ≡ Some l → range_end l.stmt ≡ [] → (last : ℕ) → IsSpan flat place last → ⊥
  begins_no_range place l is none last span = cc

  -- what is open after a statement
  record NextOpen (place : ℕ) (s : Labelled) (old : List ℕ) : Type 0 where
    heads : List ℕ
    is : open_after s (map loop_from old) ≡ Some (map loop_from heads)
    are : AreOpen (suc place) (suc place) heads

  -- where no range ends and none begins
  stays_open : (place : ℕ) (heads : List ℕ) → ((head last : ℕ) → IsSpan flat head last → last ≢ place) → ((last : ℕ) → IsSpan flat place last → ⊥) → AreOpen place place heads → AreOpen (suc place) (suc place) heads
  stays_open place heads none begins are =
      wider (suc place) place (suc place) heads (omega arith)
      (λ head last span ge lt. let at : head ≡ place = omega (arith, ge, lt) in absurd (begins last (subst (λ (h : ℕ). IsSpan flat h last) at span)))
      (later place place heads (λ head last span lt. none head last span) are)

  -- ---- statements that are no marks

  plain_step : (place : ℕ) (l : FlatLine) → slice_get flat place ≡ Some l → is_mark l.stmt ≡ false → range_end l.stmt ≡ [] → (s : Labelled) (role : Role) → s.label ≡ 0 → role_of s.stmt ≡ role → ((stack : List Opened) → gone_by role 0 stack ≡ after_ends itself 0 (without_loops itself 0 stack)) → (heads : List ℕ) → AreOpen place place heads → NextOpen place s heads
  plain_step place l there other none s role label is goes heads are =
      grind (arith, no_loop_to_zero place place heads are, passes_on s, ends_none 0, stays_open place heads (ends_at_no_other place l there other) (begins_no_range place l there none) are, ends_at_no_other place l there other, begins_no_range place l there none)

  do_step : (place : ℕ) (l : FlatLine) → slice_get flat place ≡ Some l → is_mark l.stmt ≡ false → (end : ℕ) → range_end l.stmt ≡ end ∷ [] → (s : Labelled) → s.label ≡ 0 → role_of s.stmt ≡ BeginLoop end → (heads : List ℕ) → AreOpen place place heads → NextOpen place s heads
  do_step place l there other end range s label is heads are =
      let stack = map loop_from heads in
      let last = place_of flat end in
      let span : IsSpan flat place last = record { here = l; is = there; end = end; ends = range; place = refl } in
      let after = form.later place last span in
      let number : end_number (slice_get flat place) ≡ end = number-is place last span in
      record {
        heads = place ∷ heads;
        is = passes_on s stack (ap (λ n. has_loop_to itself n stack) label ∙ no_loop_to_zero place place heads are)
            ∙ ap (λ n. gone_by (role_of s.stmt) n stack) label
            ∙ ap (λ (r : Role). gone_by r 0 stack) is
            ∙ ap (λ n. Some (Loop n ∷ stack)) (sym number);
        are = (
          record {
            above = omega arith;
            last = last;
            span = span;
            up_to = omega (arith, after);
            innermost = λ head last span lt less. absurd (omega (arith, lt, less));
          },
          later place place heads (λ head last span lt. ends_at_no_other place l there other head last span) are,
        );
      }

  -- nothing is open at END
  closed : (place : ℕ) (l : FlatLine) → slice_get flat place ≡ Some l → is_mark l.stmt ≡ false → suc place ≡ length flat → (heads : List ℕ) → AreOpen place place heads → heads ≡ []
  closed place l there other last_one [] are = refl
  closed place l there other last_one (head ∷ heads) are =
      let is = are.0 in
      let mark = ends_at_mark head is.last is.span in
      let within = got_within flat is.last mark.l mark.there in
      let up_to = is.up_to in
      absurd (ends_at_no_other place l there other head is.last is.span (omega (arith, within, up_to, last_one)))

  end_step : (place : ℕ) (l : FlatLine) → slice_get flat place ≡ Some l → is_mark l.stmt ≡ false → range_end l.stmt ≡ [] → suc place ≡ length flat → (s : Labelled) → open_after s [] ≡ Some [] → (heads : List ℕ) → AreOpen place place heads → NextOpen place s heads
  end_step place l there other none last_one s ends heads are =
      grind (arith, closed place l there other last_one heads are, stays_open place heads (ends_at_no_other place l there other) (begins_no_range place l there none) are, ends_at_no_other place l there other, begins_no_range place l there none)

  -- ---- marks

  module _ (place : ℕ) (l : FlatLine) (there : slice_get flat place ≡ Some l) (marks : is_mark l.stmt ≡ true) (none : range_end l.stmt ≡ []) (s : Labelled) (label : s.label ≡ mark_at flat place) (role : role_of s.stmt ≡ Plain) where
    abbrev number : ℕ
    number = mark_at flat place

    goes_on : (stack : List Opened) → open_after s stack ≡ after_ends itself number (without_loops itself number stack)
    goes_on stack = may_end s stack Plain role refl ∙ ap (λ n. gone_by Plain n stack) label

    ends_here : (head last : ℕ) → (span : IsSpan flat head last) → span.end ≡ number → last ≡ place
    ends_here head last span same = span.place ∙ ap (place_of flat) same ∙ place_of-mark flat place l there marks

    no_end : (heads : List ℕ) → ((head last : ℕ) → IsSpan flat head last → last ≢ place) → AreOpen place place heads → NextOpen place s heads
    no_end heads apart are =
        record {
          heads = heads;
          is = goes_on (map loop_from heads) ∙ ends_none number (map loop_from heads) (no_loop_to number place place heads (λ head last span le same. apart head last span (ends_here head last span same)) are);
          are = stays_open place heads apart (begins_no_range place l there none) are;
        }

    -- the innermost range ends here
    one_end : (head : ℕ) (heads : List ℕ) → (is : IsOpen place place head) → is.last ≡ place → AreOpen place head heads → NextOpen place s (head ∷ heads)
    one_end head heads is ends are =
        let above = is.above in
        let span : IsSpan flat head place = subst (IsSpan flat head) ends is.span in
        let mark = ends_at_mark head is.last is.span in
        let same : span.end ≡ number = sym mark.number_is ∙ ap (mark_at flat) ends in
        let first : end_number (slice_get flat head) ≡ number = number-is head place span ∙ same in
        let apart : (other last : ℕ) → IsSpan flat other last → other < head → last ≢ place =
        λ other last its lt at. let one = form.one_range other head place (subst (IsSpan flat other) at its) span in omega (arith, lt, one)
        in
        let rest = later place head heads apart are in
        let stack = map loop_from heads in
        let no_more = no_loop_to number (suc place) head heads (λ other last its le equal. let at = ends_here other last its equal in omega (arith, le, at)) rest in
        record {
          heads = heads;
          is = goes_on (loop_from head ∷ stack)
              ∙ ap (λ b. after_ends itself number (cond b (without_loops itself number stack) (loop_from head ∷ stack))) (eq-eqb (end_number (slice_get flat head)) number first)
              ∙ ends_none number stack no_more;
          are = wider (suc place) head (suc place) heads (omega (arith, above))
              (λ other last its ge lt.
              ⊎_elim
              (λ (at : other ≡ head). let equal = one_last head last place (subst (λ (h : ℕ). IsSpan flat h last) at its) span in omega (arith, equal))
              (λ differs.
              ⊎_elim
              (λ (less : other < place). let before = is.innermost other last its (omega (arith, ge, differs)) less in omega (arith, before))
              (λ (not_less : place ≤ other). absurd (begins_no_range place l there none last (subst (λ (h : ℕ). IsSpan flat h last) (omega (arith, not_less, lt)) its)))
              (cases_lt other place))
              (cases_eq other head))
              rest;
        }

    -- where the innermost range goes on, no range ends
    apart_from : (head : ℕ) → (is : IsOpen place place head) → is.last ≢ place → (other last : ℕ) → IsSpan flat other last → last ≢ place
    apart_from head is differs other last its at =
        let span : IsSpan flat other place = subst (IsSpan flat other) at its in
        let before = form.later other place span in
        let above = is.above in
        let up_to = is.up_to in
        ⊎_elim
        (λ (same : other ≡ head). differs (one_last head is.last place is.span (subst (λ (h : ℕ). IsSpan flat h place) same span)))
        (λ apart.
        ⊎_elim
        (λ (less : head < other). let ends = is.innermost other place span less before in omega (arith, ends))
        (λ (not_less : other ≤ head).
        ⊎_elim
        (λ (a : is.last < place). omega (arith, a, up_to))
        (λ (b : place < head). omega (arith, b, above))
        (form.nested other place head is.last span is.span (omega (arith, not_less, apart))))
        (cases_lt head other))
        (cases_eq other head)

    mark_step : (heads : List ℕ) → AreOpen place place heads → NextOpen place s heads
    mark_step [] are =
        no_end [] (λ head last span at. let before = form.later head last span in let ends = are head last span (omega (arith, before, at)) in omega (arith, ends, at)) are
    mark_step (head ∷ heads) are =
        ⊎_elim
        (λ (ends : are.0.last ≡ place). one_end head heads are.0 ends are.1)
        (λ differs. no_end (head ∷ heads) (apart_from head are.0 differs) are)
        (cases_eq are.0.last place)

-- ---- the whole program

module _ (q : Program) (flat : List FlatLine) (form : IsFlat flat) (few : length flat ≤ 4000) where
  abbrev stmts : List Labelled
  stmts = statements_read q flat

  nothing_declared : (k : ℕ) (s : Labelled) → IsDeclaredAt q k s → role_of s.stmt ≡ Declaration
  nothing_declared k s is =
      ap role_of is.stmt ∙ All-get (λ w. role_of (statement_of w) ≡ Declaration) (declared q) k is.w (declared_each (λ w. role_of (statement_of w) ≡ Declaration) q (λ block. refl) (λ info. refl) (λ group. refl) (λ part. refl)) is.there

  module _ (place : ℕ) (s : Labelled) (is : IsFlatAt q flat place s) (heads : List ℕ) (are : AreOpen flat form place place heads) where
    abbrev Next : Type 0
    Next = NextOpen flat form place s heads

    shown_as : (stmt : Flat) → is.l.stmt ≡ stmt → s.stmt ≡ statement_of (shown q.names stmt)
    shown_as stmt same = is.stmt ∙ ap (λ t. statement_of (shown q.names t)) same

    unlabelled : (stmt : Flat) → is.l.stmt ≡ stmt → is_mark stmt ≡ false → s.label ≡ 0
    unlabelled stmt same other = is.label ∙ ap (λ t. cond (is_mark t) (mark_at flat place) 0) same ∙ ap (λ b. cond b (mark_at flat place) 0) other

    plain : (stmt : Flat) (role : Role) → is.l.stmt ≡ stmt → is_mark stmt ≡ false → range_end stmt ≡ [] → role_of (statement_of (shown q.names stmt)) ≡ role → ((stack : List Opened) → gone_by role 0 stack ≡ after_ends itself 0 (without_loops itself 0 stack)) → Next
    plain stmt role same other none plays goes = grind (arith, elements, plain_step, unlabelled, shown_as)

    plain_if : (b : Bool) (v w : WrittenStatement) → role_of (statement_of v) ≡ Plain → role_of (statement_of w) ≡ Plain → role_of (statement_of (cond b v w)) ≡ Plain
    plain_if true v w a c = a
    plain_if false v w a c = c

    ranges : (end : ℕ) → range_end is.l.stmt ≡ end ∷ [] → number_of (decimal end) ≡ end
    ranges end range =
        again end (mark_count flat) (marks_few q flat form few) (number-of flat form place (place_of flat end) (record { here = is.l; is = is.there; end = end; ends = range; place = refl }))

    step_by : (stmt : Flat) → is.l.stmt ≡ stmt → Next
    step_by h same = search (mark_step, shown_as, plain, plain_if, ranges, do_step, unlabelled, end_step, arith)

  -- what is open at a statement
  record OpenAt (k : ℕ) (stack : List Opened) : Type 0 where
    heads : List ℕ
    is : stack ≡ map (loop_from flat form) heads
    are : AreOpen flat form (k - first_flat q flat) (k - first_flat q flat) heads

  begins : OpenAt 0 []
  begins = grind (arith, first_flat q flat)

  step : (k : ℕ) (s : Labelled) (stack : List Opened) → slice_get stmts k ≡ Some s → OpenAt k stack → GoesOn OpenAt k s stack
  step k s stack there open_now =
      ⊎_elim
      (λ (lt : k < first_flat q flat).
      let none = nothing_declared k s (declared_at q flat k s lt there) in
      let e : k - first_flat q flat ≡ suc k - first_flat q flat = omega (arith, lt) in
      record {
        beyond = stack;
        is = may_end s stack Declaration none refl;
        keeps = record { heads = open_now.heads; is = open_now.is; are = subst (λ (n : ℕ). AreOpen flat form n n open_now.heads) e open_now.are };
      })
      (λ (le : first_flat q flat ≤ k).
      let place = k - first_flat q flat in
      let e : k ≡ first_flat q flat + place = omega (arith, le) in
      let found = flat_at q flat place s (ap (slice_get stmts) (sym e) ∙ there) in
      let next = step_by place s found open_now.heads open_now.are found.l.stmt refl in
      let after : suc place ≡ suc k - first_flat q flat = omega (arith, le) in
      record {
        beyond = map (loop_from flat form) next.heads;
        is = ap (open_after s) open_now.is ∙ next.is;
        keeps = record { heads = next.heads; is = refl; are = subst (λ (n : ℕ). AreOpen flat form n n next.heads) after next.are };
      })
      (cases_lt k (first_flat q flat))

  pub none_unnested : first_unnested [] (statements_read q flat) ≡ None
  none_unnested = never_unnested OpenAt (statements_read q flat) step begins
