-- The main program stands in the whole list, and where a context stands, so does that of each CALL in it.
use Rattle.std.proofs.Common.{◌≡◌, ℕ, zero, suc, ◌+◌, ◌-◌, ◌<◌, ◌≤◌, ⊎_elim, Bool, true, false, nat_lt, List, [], ◌∷◌, ◌++◌, length, map, take, drop, Option, Some, None, if◌then◌else◌, sum_by, refl, sym, ap, subst, ◌∙◌, arith}
use Rattle.std.specs.List.{slice_get}
use Rattle.std.proofs.lemmas.Bool.{ltb-true, ltb-false, le-ltb, cases_Bool}
use Rattle.std.proofs.lemmas.List.{append_assoc, append-nil, take-append-drop, take-take, take_all, length-take-le}
use Rattle.std.proofs.lemmas.Option.{slice_get_within}
use Rattle.f77_tree.specs.declared.statements.Labelled.{Labelled}
use Rattle.f77_tree.specs.declared.statements.RawExpr.{RawExpr}
use Rattle.f77_tree.specs.declared.statements.Stmt.TheVariants.{Continue, BlockIf}
use Rattle.program_units.specs.Units.{Call, call_in, guard_of, unit_at, unit_of}
use Rattle.program_units.specs.declared.entity.Entity.{Entity}
use Rattle.program_units.specs.Entities.{stands_for}
use Rattle.program_units.specs.Widths.{width, body_width, labels, body_labels, labels_before}
use Rattle.program_units.specs.Copies.{Change, Context, bare, changes, changed, around, copy, number_at}
use Rattle.program_units.specs.Expansion.{merged, declared_first, main_context, main_pieces, whole_list}
use Rattle.program_units.specs.ListedCopies.{HasAt, AreDeclared, piece_at, width_before, called_context, lines_before, closing, IsClosedAt, StandsIn, copied_place, main_place}
use Rattle.unit_laws.proofs.CopyWidths.{piece_length, pieces_length, copy_length}
use Rattle.unit_laws.proofs.Having.{moved, alike, has_all, has_none, has_first, has_second, get-drop, sum-next}
use Rattle.copied_control.proofs.PiecesInLists.{Stretch, before, piece_stands}
use Rattle.unit_laws.proofs.MergedDeclared.{merged-declared}
use Rattle.copied_control.proofs.WhichPieces.{piece-around}

-- ---- next to one another

at_once : (list : List Labelled) (from to : ℕ) → to ≡ from → AreDeclared list from to
at_once list from to same = record { between = []; stand = has_none list from; behind = (let e : to ≡ from + 0 = omega (arith, same) in e); declared = refl }

module _ (us : List (List Labelled)) (c : Context) where
  abbrev wide : Labelled → ℕ
  wide = width (body_width us c.depth) us c.unit

  one-piece : (place : ℕ) (s : Labelled) → length (piece_at us c place s) ≡ wide s
  one-piece place s = piece_length us (copy us c.depth) (body_width us c.depth) (copy_length us c.depth) c (number_at us c.depth c.unit c.base place) s

-- ---- the main program

module _ (us : List (List Labelled)) where
  abbrev main : List Labelled
  main = unit_at us 0

  abbrev p : ℕ
  p = declared_first main

  abbrev early : List Labelled
  early = main_pieces us 0 (take p main)

  abbrev late : List Labelled
  late = main_pieces us (labels_before us (length us) 0 p) (drop p main)

  abbrev main_wide : Labelled → ℕ
  main_wide = wide us (main_context us)

  whole-is : whole_list us ≡ early ++ (merged us ++ late)
  whole-is = append_assoc early (merged us) late

  has_rest : HasAt (whole_list us) (0 + length early) (merged us ++ late)
  has_rest = has_second (whole_list us) early (merged us ++ late) 0 (alike (whole_list us) (whole_list us) (early ++ (merged us ++ late)) 0 whole-is (has_all (whole_list us)))

  pub early-long : length early ≡ sum_by main_wide (take p main)
  early-long = pieces_length us (copy us (length us)) (body_width us (length us)) (copy_length us (length us)) (main_context us) 0 (take p main)

  get-take : (xs : List Labelled) (i n : ℕ) (s : Labelled) → i < n → slice_get xs i ≡ Some s → slice_get (take n xs) i ≡ Some s
  get-take [] i n s below is = let e : None ≡ Some s = is in absurd cc
  get-take (x ∷ xs) i zero s below is = absurd (omega (arith, below))
  get-take (x ∷ xs) zero (suc n) s below is = is
  get-take (x ∷ xs) (suc i) (suc n) s below is = get-take xs i n s (omega (arith, below)) is

  abbrev Here : ℕ → Labelled → Type 0
  Here place s = HasAt (whole_list us) (main_place us place) (piece_at us (main_context us) place s)

  pub place-early : (place : ℕ) (b : Bool) → nat_lt place p ≡ b → main_place us place ≡ width_before us (length us) 0 place + (if b then 0 else length (merged us))
  place-early place b is = ap (λ (t : Bool). width_before us (length us) 0 place + (if t then 0 else length (merged us))) is

  main-early : (place : ℕ) (s : Labelled) → nat_lt place p ≡ true → slice_get main place ≡ Some s → Here place s
  main-early place s is_early is =
      let below : place < p = ltb-true place p is_early in
      let stretch : Stretch main (take p main) 0 = record { front = []; back = drop p main; is = sym (take-append-drop p main); first = refl } in
      let has = has_first (whole_list us) early (merged us ++ late) 0 (alike (whole_list us) (whole_list us) (early ++ (merged us ++ late)) 0 whole-is (has_all (whole_list us))) in
      let stands = piece_stands us (whole_list us) (main_context us) (take p main) 0 0 stretch has place place s (let e : 0 + place ≡ place = omega arith in e) (get-take main place p s below is) in
      let short = ap (λ (xs : List Labelled). sum_by main_wide xs) (take-take place p main (omega (arith, below))) in
      let there = place-early place true is_early in
      let same : 0 + sum_by main_wide (take place (take p main)) ≡ main_place us place = omega (arith, short, there) in
      moved (whole_list us) (piece_at us (main_context us) place s) (0 + sum_by main_wide (take place (take p main))) (main_place us place) same stands

  main-late : (place : ℕ) (s : Labelled) → nat_lt place p ≡ false → slice_get main place ≡ Some s → Here place s
  main-late place s is_late is =
      let above : p ≤ place = ltb-false place p is_late in
      let inside : place < length main = slice_get_within main place s is in
      let j = place - p in
      let back_again : p + j ≡ place = omega (arith, above) in
      let found : slice_get (drop p main) j ≡ Some s = get-drop main p j ∙ ap (λ (n : ℕ). slice_get main n) back_again ∙ is in
      let stretch : Stretch main (drop p main) p = record { front = take p main; back = []; is = sym (ap (λ (xs : List Labelled). take p main ++ xs) (append-nil (drop p main)) ∙ take-append-drop p main); first = length-take-le p main (omega (arith, above, inside)) } in
      let has = has_second (whole_list us) (merged us) late (0 + length early) has_rest in
      let stands = piece_stands us (whole_list us) (main_context us) (drop p main) p (0 + length early + length (merged us)) stretch has j place s back_again found in
      let sums = before us (whole_list us) (main_context us) (drop p main) p (0 + length early + length (merged us)) stretch main_wide j s found in
      let again = ap (λ (n : ℕ). sum_by main_wide (take n main)) back_again in
      let there = place-early place false is_late in
      let long = early-long in
      let same : 0 + length early + length (merged us) + sum_by main_wide (take j (drop p main)) ≡ main_place us place = omega (arith, sums, again, there, long) in
      moved (whole_list us) (piece_at us (main_context us) place s) (0 + length early + length (merged us) + sum_by main_wide (take j (drop p main))) (main_place us place) same stands

  main-piece : (place : ℕ) (s : Labelled) → slice_get main place ≡ Some s → Here place s
  main-piece place s is = ⊎_elim (λ (h : nat_lt place p ≡ true). main-early place s h is) (λ (h : nat_lt place p ≡ false). main-late place s h is) (cases_Bool (nat_lt place p))

  abbrev NextTo : ℕ → Labelled → Type 0
  NextTo place s = AreDeclared (whole_list us) (main_place us place + length (piece_at us (main_context us) place s)) (main_place us (place + 1))

  next-sum : (place : ℕ) (s : Labelled) → slice_get main place ≡ Some s → width_before us (length us) 0 (place + 1) ≡ width_before us (length us) 0 place + length (piece_at us (main_context us) place s)
  next-sum place s is = sum-next main_wide main place s is ∙ ap (λ (n : ℕ). width_before us (length us) 0 place + n) (sym (one-piece us (main_context us) place s))

  next-same : (place : ℕ) (s : Labelled) (b : Bool) → nat_lt place p ≡ b → nat_lt (place + 1) p ≡ b → slice_get main place ≡ Some s → NextTo place s
  next-same place s b here next is =
      grind (arith, place-early place b here, place-early (place + 1) b next, next-sum place s is, at_once (whole_list us) (main_place us place + length (piece_at us (main_context us) place s)) (main_place us (place + 1)))

  next-put : (place : ℕ) (s : Labelled) → nat_lt place p ≡ true → nat_lt (place + 1) p ≡ false → slice_get main place ≡ Some s → NextTo place s
  next-put place s here next is =
      grind (arith, place-early place true here, place-early (place + 1) false next, next-sum place s is, ltb-true place p here, ltb-false (place + 1) p next, early-long, sum_by main_wide, moved (whole_list us) (merged us) (0 + length early) (main_place us place + length (piece_at us (main_context us) place s)), has_first (whole_list us) (merged us) late (0 + length early) has_rest, has_rest, merged-declared us)

  main-next : (place : ℕ) (s : Labelled) → slice_get main place ≡ Some s → NextTo place s
  main-next place s is = grind (arith, next-same, next-put, ltb-false, le-ltb)

  pub main-stands : StandsIn us (whole_list us) (main_context us) (main_place us)
  main-stands = record { pieces = main-piece; next = main-next; tight = λ is. let e : true ≡ false = is in absurd cc; closed = λ is. let e : true ≡ false = is in absurd cc }

-- ---- copies

-- the copy of the unit of a context, which begins here, and the statements that close it
module _ (us : List (List Labelled)) (list : List Labelled) (c : Context) (begin : ℕ) (has : HasAt list begin (copy us (suc c.depth) c.unit c.arguments c.base)) where
  abbrev unit : List Labelled
  unit = unit_at us c.unit

  copy-piece : (place : ℕ) (s : Labelled) → slice_get unit place ≡ Some s → HasAt list (copied_place us c begin place) (piece_at us c place s)
  copy-piece place s is =
      let stretch : Stretch unit unit 0 = record { front = []; back = []; is = sym (append-nil unit); first = refl } in
      piece_stands us list c unit 0 begin stretch has place place s (let e : 0 + place ≡ place = omega arith in e) is

  copy-tight : (place : ℕ) (s : Labelled) → slice_get unit place ≡ Some s → copied_place us c begin (place + 1) ≡ copied_place us c begin place + length (piece_at us c place s)
  copy-tight place s is = grind (arith, sum-next (wide us c) unit place s is, one-piece us c place s)

  copy-next : (place : ℕ) (s : Labelled) → slice_get unit place ≡ Some s → AreDeclared list (copied_place us c begin place + length (piece_at us c place s)) (copied_place us c begin (place + 1))
  copy-next place s is = at_once list (copied_place us c begin place + length (piece_at us c place s)) (copied_place us c begin (place + 1)) (copy-tight place s is)

  pub copy-stands : IsClosedAt list (begin + length (copy us (suc c.depth) c.unit c.arguments c.base)) (c.base + body_labels us (suc c.depth) c.unit + 1) → StandsIn us list c (copied_place us c begin)
  copy-stands closed =
      grind (arith, take_all (length unit) unit, sum_by (wide us c), copy_length us (suc c.depth) c.unit c.arguments c.base, sum_by (labels (body_labels us c.depth) us c.unit), copy-piece, copy-next, copy-tight)

-- what stands around a copy
pub record Around (list : List Labelled) (begin : ℕ) (inside : List Labelled) (b : ℕ) : Type 0 where
  pub body : HasAt list begin inside
  pub closed : IsClosedAt list (begin + length inside) b

split-around : (list : List Labelled) (place : ℕ) (x : Change) (a b line : ℕ) (guard : Option RawExpr) (inside : List Labelled) → HasAt list place (around x a b line guard inside) → Around list (place + lines_before guard) inside b
split-around list place x a b line None inside has =
    grind (arith, has_second list (bare a line Continue ∷ []) (inside ++ closing false b line) place has, has_first list inside (closing false b line) (place + 1), has_second list inside (closing false b line) (place + 1))
split-around list place x a b line (Some condition) inside has =
    grind (arith, has_second list (bare a line Continue ∷ bare 0 line (BlockIf (changed x condition)) ∷ []) (inside ++ closing true b line) place has, has_first list inside (closing true b line) (place + 2), has_second list inside (closing true b line) (place + 2))

module _ (us : List (List Labelled)) (list : List Labelled) (c : Context) (at : ℕ → ℕ) (stands : StandsIn us list c at) (place : ℕ) (s : Labelled) (call : Call) (is : slice_get (unit_at us c.unit) place ≡ Some s) (calls : call_in s.stmt ≡ Some call) where
  abbrev m : ℕ
  m = number_at us c.depth c.unit c.base place

  abbrev g : ℕ
  g = unit_of us call.name

  abbrev inside : List Labelled
  inside = copy us c.depth g (map (stands_for us c.unit c.arguments) call.arguments) m

  pub around-call : Around list (at place + lines_before (guard_of s.stmt)) inside (m + body_labels us c.depth g + 1)
  around-call = split-around list (at place) (changes us c) m (m + body_labels us c.depth g + 1) s.line (guard_of s.stmt) inside (alike list (piece_at us c place s) (around (changes us c) m (m + body_labels us c.depth g + 1) s.line (guard_of s.stmt) inside) (at place) (piece-around us c place s call calls) (stands.pieces place s is))

by_depth : (us : List (List Labelled)) (list : List Labelled) (depth k : ℕ) (arguments : List Entity) (base begin : ℕ) → 0 < depth → Around list begin (copy us depth k arguments base) (base + body_labels us depth k + 1)
    → StandsIn us list (record { depth = depth - 1; unit = k; arguments = arguments; base = base }) (copied_place us (record { depth = depth - 1; unit = k; arguments = arguments; base = base }) begin)
by_depth us list zero k arguments base begin deep has = absurd (omega (arith, deep))
by_depth us list (suc d) k arguments base begin deep has =
    let same : d ≡ suc d - 1 = omega arith in
    subst (λ (n : ℕ). StandsIn us list (record { depth = n; unit = k; arguments = arguments; base = base }) (copied_place us (record { depth = n; unit = k; arguments = arguments; base = base }) begin)) same
    (copy-stands us list (record { depth = d; unit = k; arguments = arguments; base = base }) begin has.body has.closed)

pub called-stands : (us : List (List Labelled)) (list : List Labelled) (c : Context) (at : ℕ → ℕ) → StandsIn us list c at → (place : ℕ) (s : Labelled) (call : Call) → 0 < c.depth → slice_get (unit_at us c.unit) place ≡ Some s → call_in s.stmt ≡ Some call
    → StandsIn us list (called_context us c place call) (copied_place us (called_context us c place call) (at place + lines_before (guard_of s.stmt)))
called-stands us list c at stands place s call deep is calls = by_depth us list c.depth (unit_of us call.name) (map (stands_for us c.unit c.arguments) call.arguments) (number_at us c.depth c.unit c.base place) (at place + lines_before (guard_of s.stmt)) deep (around-call us list c at stands place s call is calls)
