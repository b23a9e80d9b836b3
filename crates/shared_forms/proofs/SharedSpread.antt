-- Where the statements of a flat program stand in its shared form.
use Rattle.std.proofs.Common.{◌≡◌, ℕ, suc, ◌+◌, ◌-◌, ◌<◌, ◌≤◌, ◌⊎◌, Bool, false, All, List, [], ◌∷◌, ◌++◌, length, get_or, map, Option, Some, refl, sym, ap, ◌∙◌, inl, inr, ⊎_elim, arith}
use Rattle.std.specs.Prelude.{slice_get}
use Rattle.std.specs.List.{count_by, range_with_len}
use Rattle.std.proofs.lemmas.Bool.{cases_lt}
use Rattle.std.proofs.lemmas.List.{get_or-map, length-append, length-map}
use Rattle.std.proofs.lemmas.List.Elements.{All-filter, All-map}
use Rattle.std.proofs.lemmas.List.FromFn.{get_or-range_with_len, length-range_with_len}
use Rattle.std.proofs.lemmas.List.Sums.{length-filter}
use Rattle.std.proofs.lemmas.Option.{slice_get_within}
use Rattle.list_laws.proofs.Counts.{bit, count-cons}
use Rattle.f77_tree.specs.declared.expressions.Expr.{Expr}
use Rattle.f77_tree.specs.declared.programs.Program.{Program}
use Rattle.flat_programs.specs.declared.statements.Flat.{Flat}
use Rattle.flat_programs.specs.declared.statements.Flat.TheVariants.{Mark, Assignment, Output, LogicalIf, ArithmeticIf, ComputedGoTo, DoLoop, Jump, Finish}
use Rattle.flat_programs.specs.declared.statements.FlatLine.{FlatLine}
use Rattle.flat_programs.specs.Executables.{first_of}
use Rattle.flat_programs.specs.FlatForm.{jumps, range_end, IsFlat, IsNumber}
use Rattle.flat_programs.specs.Marks.{is_mark, is_mark_in, mark_count, mark_places, place_of}
use Rattle.redundancy.specs.Available.{Availability}
use Rattle.shared_forms.specs.Shared.{candidate, due, kept_value, replaced_in, scalar, shared_flat, shared_lines, temporary}
use Rattle.shared_forms.proofs.ProperCandidates.{all-at}
use Rattle.shared_forms.proofs.SpreadFlat.{image, spread-flat, IsAssigned, IsImage, IsSpread, KeepsControl}
use Rattle.shared_forms.proofs.SpreadLists.{begins, begins-more, begins-rises, images, item_at, part-of, part-there, IsInPart}
use Rattle.shared_forms.proofs.TemporaryTable.{slice_get-kept, slice_get-last, slice_get-left, slice_get-right}

-- ---- marks

abbrev pub is_marked : List FlatLine → (place : ℕ) → Bool
is_marked flat place = is_mark_in (slice_get flat place)

count-row : (test : ℕ → Bool) (flat : List FlatLine) (from : ℕ) → ((i : ℕ) (l : FlatLine) → slice_get flat i ≡ Some l → test (from + i) ≡ is_mark l.stmt) → count_by test (range_with_len from (length flat)) ≡ mark_count flat
count-row test [] from same = refl
count-row test (l ∷ flat) from same =
    let at : from ≡ from + 0 = omega arith in
    let next : (i : ℕ) → from + 1 + i ≡ from + suc i = λ i. omega arith in
    let here : test from ≡ is_mark l.stmt = ap test at ∙ same 0 l refl in
    let rest : count_by test (range_with_len (from + 1) (length flat)) ≡ mark_count flat = count-row test flat (from + 1) (λ i m is. ap test (next i) ∙ same (suc i) m is) in
    count-cons test from (range_with_len (from + 1) (length flat))
    ∙ ap (λ b. bit b + count_by test (range_with_len (from + 1) (length flat))) here
    ∙ ap (λ n. bit (is_mark l.stmt) + n) rest
    ∙ sym (count-cons (λ (l : FlatLine). is_mark l.stmt) l flat)

-- each mark has one place
pub marks-all : (flat : List FlatLine) → length (mark_places flat) ≡ mark_count flat
marks-all flat =
    length-filter (is_marked flat) (range_with_len 0 (length flat))
    ∙ count-row (is_marked flat) flat 0 (λ i l is. let same : 0 + i ≡ i = omega arith in ap (is_marked flat) same ∙ ap is_mark_in is)

marks-below : (flat : List FlatLine) → All (λ place. place < length flat) (mark_places flat)
marks-below flat = All-filter (is_marked flat) (λ place. place < length flat) (range_with_len 0 (length flat))
    (λ i d less. let e = get_or-range_with_len 0 (length flat) i d (omega (arith, less, length-range_with_len 0 (length flat))) in omega (arith, e, less, length-range_with_len 0 (length flat)))

-- a number of a mark is that of one of the places
pub place-index : (flat : List FlatLine) (number : ℕ) → IsNumber (mark_count flat) number → number - 1 < length (mark_places flat)
place-index flat number is = let all = marks-all flat in let least = is.least in let most = is.most in omega (arith, all, least, most)

pub place-within : (flat : List FlatLine) (number : ℕ) → IsNumber (mark_count flat) number → place_of flat number < length flat
place-within flat number is = marks-below flat (number - 1) 0 (place-index flat number is)

module _ (q : Program) (a : Availability) (number : Expr → Option ℕ) where
  -- ---- what replacing keeps

  mark-same : (stmt : Flat) → is_mark (replaced_in q a number stmt) ≡ is_mark stmt
  mark-same Mark = refl
  mark-same (Assignment target value) = refl
  mark-same (Output items) = refl
  mark-same (LogicalIf cond target) = refl
  mark-same (ArithmeticIf value below at above) = refl
  mark-same (ComputedGoTo value targets) = refl
  mark-same (DoLoop end var first last step) = refl
  mark-same (Jump target) = refl
  mark-same Finish = refl

  jumps-same : (stmt : Flat) → jumps (replaced_in q a number stmt) ≡ jumps stmt
  jumps-same Mark = refl
  jumps-same (Assignment target value) = refl
  jumps-same (Output items) = refl
  jumps-same (LogicalIf cond target) = refl
  jumps-same (ArithmeticIf value below at above) = refl
  jumps-same (ComputedGoTo value targets) = refl
  jumps-same (DoLoop end var first last step) = refl
  jumps-same (Jump target) = refl
  jumps-same Finish = refl

  range_end-same : (stmt : Flat) → range_end (replaced_in q a number stmt) ≡ range_end stmt
  range_end-same Mark = refl
  range_end-same (Assignment target value) = refl
  range_end-same (Output items) = refl
  range_end-same (LogicalIf cond target) = refl
  range_end-same (ArithmeticIf value below at above) = refl
  range_end-same (ComputedGoTo value targets) = refl
  range_end-same (DoLoop end var first last step) = refl
  range_end-same (Jump target) = refl
  range_end-same Finish = refl

  finish-same : (stmt : Flat) → replaced_in q a number stmt ≡ Finish → stmt ≡ Finish
  finish-same Mark is = absurd cc
  finish-same (Assignment target value) is = absurd cc
  finish-same (Output items) is = absurd cc
  finish-same (LogicalIf cond target) is = absurd cc
  finish-same (ArithmeticIf value below at above) is = absurd cc
  finish-same (ComputedGoTo value targets) is = absurd cc
  finish-same (DoLoop end var first last step) is = absurd cc
  finish-same (Jump target) is = absurd cc
  finish-same Finish is = refl

  jump-same : (stmt : Flat) (n : ℕ) → replaced_in q a number stmt ≡ Jump n → stmt ≡ Jump n
  jump-same Mark n is = absurd cc
  jump-same (Assignment target value) n is = absurd cc
  jump-same (Output items) n is = absurd cc
  jump-same (LogicalIf cond target) n is = absurd cc
  jump-same (ArithmeticIf value below at above) n is = absurd cc
  jump-same (ComputedGoTo value targets) n is = absurd cc
  jump-same (DoLoop end var first last step) n is = absurd cc
  jump-same (Jump target) n is = is
  jump-same Finish n is = absurd cc

  pub replaced-keeps : KeepsControl (replaced_in q a number)
  replaced-keeps = record { mark = mark-same; jumps = jumps-same; range_end = range_end-same; finish = finish-same; finished = refl; moves = jump-same }

  assigned-front : (line : ℕ) (ns : List ℕ) → All (λ (l : FlatLine). IsAssigned l.stmt) (map (kept_value q a number line) ns)
  assigned-front line ns = All-map (λ (l : FlatLine). IsAssigned l.stmt) (kept_value q a number line) ns
      (λ i d less. record { target = scalar q a number (temporary q a number (get_or ns i d)); value = candidate q a number (get_or ns i d); is = refl })

  module _ (flat : List FlatLine) where
    -- ---- the lines of one statement

    -- a statement after the assignments in front of it
    abbrev pub part : (place : ℕ) → List FlatLine
    part place = shared_lines q a number (first_of flat place) (slice_get flat place)

    -- how many assignments stand in front of it
    abbrev pub due_at : (place : ℕ) → ℕ
    due_at place = length (due q a number (first_of flat place))

    -- the place of the statement in the shared form
    abbrev pub stands : (place : ℕ) → ℕ
    stands place = begins part place + due_at place

    abbrev pub front : (place line : ℕ) → List FlatLine
    front place line = map (kept_value q a number line) (due q a number (first_of flat place))

    pub front-length : (place line : ℕ) → length (front place line) ≡ due_at place
    front-length place line = length-map (due q a number (first_of flat place)) (kept_value q a number line)

    pub part-is : (place : ℕ) (l : FlatLine) → slice_get flat place ≡ Some l → part place ≡ front place l.line ++ image (replaced_in q a number) l ∷ []
    part-is place l is = ap (shared_lines q a number (first_of flat place)) is

    pub part-length : (place : ℕ) → place < length flat → length (part place) ≡ due_at place + 1
    part-length place less =
        let item = item_at flat place less in
        let l = item.0 in
        ap length (part-is place l item.1)
        ∙ length-append (front place l.line) (image (replaced_in q a number) l ∷ [])
        ∙ ap (λ n. n + 1) (front-length place l.line)

    -- the next part begins behind the statement
    pub begins-next : (place : ℕ) → place < length flat → begins part (place + 1) ≡ stands place + 1
    begins-next place less =
        let more = begins-more part place in
        let size = part-length place less in
        omega (arith, more, size)

    -- ---- all lines

    abbrev all : List FlatLine
    all = shared_flat q a number flat

    -- each statement stands at its place
    pub statement-there : (place : ℕ) (l : FlatLine) → slice_get flat place ≡ Some l → slice_get all (stands place) ≡ Some (image (replaced_in q a number) l)
    statement-there place l is =
        part-there part (length flat) place (due_at place) (image (replaced_in q a number) l) (slice_get_within flat place l is)
        (ap (λ (xs : List FlatLine). slice_get xs (due_at place)) (part-is place l is) ∙ slice_get-last (front place l.line) (due_at place) (image (replaced_in q a number) l) (front-length place l.line))

    -- assignments stand in front of it
    pub front-there : (place i : ℕ) (l x : FlatLine) → slice_get flat place ≡ Some l → slice_get (front place l.line) i ≡ Some x → slice_get all (begins part place + i) ≡ Some x
    front-there place i l x is found =
        part-there part (length flat) place i x (slice_get_within flat place l is)
        (ap (λ (xs : List FlatLine). slice_get xs i) (part-is place l is) ∙ slice_get-kept (front place l.line) (image (replaced_in q a number) l ∷ []) i x found)

    stands-rises : (i j : ℕ) → i < j → j < length flat → stands i < stands j
    stands-rises i j less below =
        let up = begins-rises part i j less in
        let size = part-length i (omega (arith, less, below)) in
        omega (arith, up, size)

    stands-last : (i : ℕ) → suc i ≡ length flat → suc (stands i) ≡ length all
    stands-last i is =
        let next = begins-next i (omega (arith, is)) in
        let same : i + 1 ≡ length flat = omega (arith, is) in
        let e = ap (begins part) same in
        omega (arith, next, e)

    in-part : (place k index : ℕ) (l m : FlatLine) → slice_get flat k ≡ Some l → slice_get (front k l.line ++ image (replaced_in q a number) l ∷ []) index ≡ Some m → place ≡ begins part k + index → IsAssigned m.stmt ⊎ IsImage (replaced_in q a number) flat stands place m
    in-part place k index l m is found at = ⊎_elim
        (λ (less : index < length (front k l.line)).
        inl (all-at (λ (x : FlatLine). IsAssigned x.stmt) (front k l.line) index m (assigned-front l.line (due q a number (first_of flat k))) (sym (slice_get-left (front k l.line) (image (replaced_in q a number) l ∷ []) index less) ∙ found)))
        (λ (past : length (front k l.line) ≤ index).
        let n = length (front k l.line) in
        let here : slice_get (image (replaced_in q a number) l ∷ []) (index - n) ≡ Some m = sym (slice_get-right (front k l.line) (image (replaced_in q a number) l ∷ []) (index - n)) ∙ (let same : n + (index - n) ≡ index = omega (arith, past) in ap (slice_get (front k l.line ++ image (replaced_in q a number) l ∷ [])) same) ∙ found in
        let within = slice_get_within (image (replaced_in q a number) l ∷ []) (index - n) m here in
        let zeroth : index - n ≡ 0 = omega (arith, within) in
        let one : Some (image (replaced_in q a number) l) ≡ Some m = ap (slice_get (image (replaced_in q a number) l ∷ [])) (sym zeroth) ∙ here in
        let same : image (replaced_in q a number) l ≡ m = cc in
        let size = front-length k l.line in
        inr (record { from = k; l = l; there = is; stands = omega (arith, at, zeroth, past, size); stmt = ap (λ (x : FlatLine). x.stmt) (sym same) }))
        (cases_lt index (length (front k l.line)))

    from-part : (place : ℕ) (m : FlatLine) → IsInPart part (length flat) place m → IsAssigned m.stmt ⊎ IsImage (replaced_in q a number) flat stands place m
    from-part place m r =
        let item = item_at flat r.number r.below in
        in-part place r.number r.index item.0 m item.1 (ap (λ (xs : List FlatLine). slice_get xs r.index) (sym (part-is r.number item.0 item.1)) ∙ r.is) r.stands

    -- ---- marks

    assigned-unmarked : (stmt : Flat) → IsAssigned stmt → is_mark stmt ≡ false
    assigned-unmarked stmt given = ap is_mark given.is

    unmarked-between : (k i : ℕ) → k < length flat → i < stands k - begins part k → is_marked all (begins part k + i) ≡ false
    unmarked-between k i less within =
        let item = item_at flat k less in
        let l = item.0 in
        let size = front-length k l.line in
        let found = item_at (front k l.line) i (omega (arith, within, size)) in
        ap is_mark_in (front-there k i l found.0 item.1 found.1)
        ∙ assigned-unmarked found.0.stmt (all-at (λ (x : FlatLine). IsAssigned x.stmt) (front k l.line) i found.0 (assigned-front l.line (due q a number (first_of flat k))) found.1)

    marked-same : (k : ℕ) → k < length flat → is_marked all (stands k) ≡ is_marked flat k
    marked-same k less =
        let item = item_at flat k less in
        ap is_mark_in (statement-there k item.0 item.1) ∙ mark-same item.0.stmt ∙ sym (ap is_mark_in item.1)

    -- the places of marks are those to which marks have gone
    pub mark-places : mark_places all ≡ map stands (mark_places flat)
    mark-places =
        images (is_marked all) (is_marked flat) (begins part) stands (length flat) refl
        (λ k less. begins-next k less)
        (λ k less. omega arith)
        unmarked-between marked-same (length flat) (omega arith)

    pub mark-place : (n : ℕ) → IsNumber (mark_count flat) n → place_of all n ≡ stands (place_of flat n)
    mark-place n is = ap (λ (xs : List ℕ). get_or xs (n - 1) 0) mark-places ∙ get_or-map stands (mark_places flat) (n - 1) 0 0 (place-index flat n is)

    pub mark-counts : mark_count all ≡ mark_count flat
    mark-counts = sym (marks-all all) ∙ ap length mark-places ∙ length-map (mark_places flat) stands ∙ marks-all flat

    pub shared-spread : IsSpread (replaced_in q a number) flat all stands
    shared-spread = record {
      there = statement-there;
      rises = stands-rises;
      last = stands-last;
      origin = λ place m is. from-part place m (part-of part (length flat) place m is);
      within = place-within flat;
      marks = mark-place;
      count = mark-counts;
    }

    -- the shared form is flat
    pub shared-flat : IsFlat flat → IsFlat all
    shared-flat form = spread-flat (replaced_in q a number) flat all stands replaced-keeps shared-spread form
