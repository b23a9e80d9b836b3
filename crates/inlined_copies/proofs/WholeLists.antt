-- The whole list by tables.
use Rattle.std.proofs.Common.{◌≡◌, ℕ, zero, suc, ◌+◌, ◌-◌, ◌^◌, ◌<◌, ◌≤◌, ◌==◌, Bool, true, false, not, cond, if◌then◌else◌, min, nat_lt, List, [], ◌∷◌, ◌++◌, length, get_or, take, drop, sum_by, Contains, Option, Some, None, ⊎_elim, refl, sym, ap, subst, ◌∙◌, arith}
use Rattle.std.specs.List.{list_all, position_or_len, slice_get}
use Rattle.std.proofs.lemmas.Bool.{cases_Bool, and_parts, ltb-true, ltb-false}
use Rattle.std.proofs.lemmas.List.{length-drop, take-append-drop, take_all}
use Rattle.std.proofs.lemmas.List.Elements.{Contains-append_left, Contains-append_right}
use Rattle.std.proofs.lemmas.List.Sums.{sum_by-cons, sum_by-take-drop}
use Rattle.std.proofs.lemmas.Grind.{flat_map-append}
use Rattle.std.proofs.lemmas.Option.{slice_get-get_or}
use native.Mathlib.Nat.{min-eq_left, min-eq_right}
use Rattle.f77_tree.specs.declared.statements.Labelled.{Labelled}
use Rattle.f77_tree.specs.declared.statements.RawExpr.{RawExpr}
use Rattle.layout_rules.specs.Declarations.{is_array}
use Rattle.inlined_copies.specs.declared.unit_table.CopyTables.{CopyTables}
use Rattle.inlined_copies.specs.declared.unit_table.UnitTable.{UnitTable}
use Rattle.inlined_copies.specs.Changes.{change_by}
use Rattle.program_units.specs.Expansion.{declared_first, main_pieces, merged, total_width, whole_list}
use Rattle.program_units.specs.Heights.{NoneCallsItself, calls_below, height}
use Rattle.inlined_copies.specs.LabelCounts.{count_at, labels_of}
use Rattle.program_units.specs.Names.{appearing_here}
use Rattle.inlined_copies.specs.NamedTables.{AreTablesFor}
use Rattle.program_units.specs.Units.{AreFit, Call, call_in, guard_of, unit_at, unit_of, passes}
use Rattle.inlined_copies.specs.PutCopies.{put_copy, put_pieces}
use Rattle.inlined_copies.specs.UnitTables.{MakeCopies, appearing_in}
use Rattle.program_units.specs.Widths.{body_labels, body_width, is_kept, labels, labels_before, labels_by, width, width_by}
use Rattle.unit_laws.proofs.AcceptedTexts.{some-first}
use Rattle.inlined_copies.proofs.CopiesByTables.{all-same, main-same}
use Rattle.unit_laws.proofs.CopyWidths.{whole_length}
use Rattle.unit_laws.proofs.Settled.{labels_settle}
use Rattle.unit_laws.proofs.SettledCopies.{pass_take}
use Rattle.unit_laws.proofs.UnitHeights.{are-heights, heights-few}

-- ---- lists

pass_drop : {X : Type 0} (p : X → Bool) (xs : List X) (n : ℕ) → list_all p xs ≡ true → list_all p (drop n xs) ≡ true
pass_drop p xs zero all = all
pass_drop p [] (suc n) all = refl
pass_drop p (x ∷ xs) (suc n) all = pass_drop p xs n (and_parts (p x) (list_all p xs) all).1

sum-below : {X : Type 0} (p : X → Bool) (f g : X → ℕ) → ((x : X) → p x ≡ true → f x ≤ g x) → (xs : List X) → list_all p xs ≡ true → sum_by f xs ≤ sum_by g xs
sum-below p f g below [] all = omega arith
sum-below p f g below (x ∷ xs) all =
    let both = and_parts (p x) (list_all p xs) all in
    let a = sum_by-cons f x xs in
    let b = sum_by-cons g x xs in
    let here = below x both.0 in
    let more = sum-below p f g below xs both.1 in
    omega (arith, a, b, here, more)

all-pass : {X : Type 0} (xs : List X) → list_all (λ x. true) xs ≡ true
all-pass [] = refl
all-pass (x ∷ xs) = all-pass xs

min-most : (a b : ℕ) → min a b ≤ a
min-most a b = ⊎_elim
    (λ (is : nat_lt a b ≡ true). let less = ltb-true a b is in let e : min a b ≡ a = min-eq_left (omega (arith, less)) in omega (arith, e))
    (λ (is : nat_lt a b ≡ false). let over = ltb-false a b is in let e : min a b ≡ b = min-eq_right over in omega (arith, e, over))
    (cases_Bool (nat_lt a b))

-- the first place that passes, where none before it does
pub stops-at : {X : Type 0} (p : X → Bool) (xs : List X) (i : ℕ) (x : X) → position_or_len p (take i xs) ≡ i → slice_get xs i ≡ Some x → p x ≡ true → position_or_len p xs ≡ i
stops-at p [] i x before there is = let e : None ≡ Some x = there in absurd cc
stops-at p (y ∷ ys) zero x before there is =
    let e : Some y ≡ Some x = there in
    let same : y ≡ x = cc in
    ap (λ (b : Bool). cond (not b) (1 + position_or_len p ys) 0) (ap p same ∙ is)
stops-at p (y ∷ ys) (suc i) x before there is = by_test (p y) before (λ (less : position_or_len p (take i ys) ≡ i). stops-at p ys i x less there is)
  where
    by_test : (b : Bool) → cond (not b) (1 + position_or_len p (take i ys)) 0 ≡ suc i → (position_or_len p (take i ys) ≡ i → position_or_len p ys ≡ i) → cond (not b) (1 + position_or_len p ys) 0 ≡ suc i
    by_test true here more = let e : 0 ≡ suc i = here in absurd (omega (arith, e))
    by_test false here more =
        let e : 1 + position_or_len p (take i ys) ≡ suc i = here in
        let later = more (omega (arith, e)) in
        omega (arith, later)

pub small-enough : (us : List (List Labelled)) → total_width us ≤ 4000 → sum_by (width (body_width us (length us)) us 0) (unit_at us 0) < 2 ^ 20
small-enough us few = omega (arith, few)

pub few-whole : (us : List (List Labelled)) (list : List Labelled) → total_width us ≤ 4000 → list ≡ whole_list us → length list ≤ 4000
few-whole us list few is = let long = whole_length us in omega (arith, few, ap length is, long)

-- ---- at most as many labels as statements

at-most-one : (b : Bool) → (if b then 0 else 1) ≤ 1
at-most-one true = omega arith
at-most-one false = omega arith

one-label : (us : List (List Labelled)) (few many : ℕ → ℕ) (kept : Bool) (label : ℕ) (guard : Option RawExpr) (call : Option Call) → ((c : Call) → call ≡ Some c → few (unit_of us c.name) ≤ many (unit_of us c.name))
    → (if kept then labels_by few us label call else 0) ≤ (if kept then width_by many us guard call else 0)
one-label us few many false label guard call below = omega arith
one-label us few many true label guard None below = at-most-one (label == 0)
one-label us few many true label None (Some call) below = let less = below call refl in omega (arith, less)
one-label us few many true label (Some condition) (Some call) below = let less = below call refl in omega (arith, less)

labels-few : (us : List (List Labelled)) (d k : ℕ) → body_labels us d k ≤ body_width us d k
labels-few us zero k = omega arith
labels-few us (suc d) k = sum-below (λ s. true) (labels (body_labels us d) us k) (width (body_width us d) us k) (λ s is. one-label us (body_labels us d) (body_width us d) (is_kept k s.stmt) s.label (guard_of s.stmt) (call_in s.stmt) (λ call called. labels-few us d (unit_of us call.name))) (unit_at us k) (all-pass (unit_at us k))

-- ---- the main program

module _ (us : List (List Labelled)) (limit : ℕ) (counts : List ℕ) (tables : List UnitTable) (none : NoneCallsItself us) (are : AreFit us) (made : MakeCopies us limit counts tables) (table : UnitTable) (found : slice_get tables 0 ≡ Some table) (small : sum_by (width (body_width us (length us)) us 0) (unit_at us 0) < limit) where
  abbrev main : List Labelled
  main = unit_at us 0

  abbrev n : ℕ
  n = length us

  abbrev lower : Labelled → Bool
  lower s = calls_below (height us) us 0 (call_in s.stmt)

  counted-few : (call : Call) → calls_below (height us) us 0 (Some call) ≡ true → count_at counts (unit_of us call.name) ≤ body_width us n (unit_of us call.name)
  counted-few call below =
      let g = unit_of us call.name in
      let under = ltb-true (height us g) (height us 0) below in
      let most = heights-few us none 0 in
      let exact = made.exact g in
      let few = min-most (body_labels us (suc n) g) limit in
      let settled = labels_settle us (height us) (are-heights us none) (suc n) n g (omega (arith, under, most)) (omega (arith, under, most)) in
      let wide = labels-few us n g in
      omega (arith, exact, few, settled, wide)

  here-few : (s : Labelled) → lower s ≡ true → labels (count_at counts) us 0 s ≤ width (body_width us n) us 0 s
  here-few s below = one-label us (count_at counts) (body_width us n) (is_kept 0 s.stmt) s.label (guard_of s.stmt) (call_in s.stmt) (λ call called. counted-few call (subst (λ (c : Option Call). calls_below (height us) us 0 c ≡ true) called below))

  pub room : labels_of us counts 0 main < limit
  room = let few = sum-below lower (labels (count_at counts) us 0) (width (body_width us n) us 0) here-few main (are-heights us none 0) in omega (arith, few, small)

  parts : (p : ℕ) → labels_of us counts 0 main ≡ labels_of us counts 0 (take p main) + labels_of us counts 0 (drop p main)
  parts p = sym (sum_by-take-drop (labels (count_at counts) us 0) main p)

  pub front-room : (p : ℕ) → labels_of us counts 0 (take p main) < limit
  front-room p = let e = parts p in let r = room in omega (arith, e, r)

  pub back-room : (p before : ℕ) → before ≡ labels_of us counts 0 (take p main) → before + labels_of us counts 0 (drop p main) < limit
  back-room p before is = let e = parts p in let r = room in omega (arith, e, r, is)

  appear : (x : List ℕ) (p : ℕ) → appearing_in main main ≡ appearing_in main (take p main) ++ appearing_in main (drop p main)
  appear x p = ap (appearing_in main) (sym (take-append-drop p main)) ∙ flat_map-append (λ s. appearing_here (is_array main) s.stmt) (take p main) (drop p main)

  abbrev put : ℕ → List Labelled → List Labelled
  put before stmts = put_pieces us counts (put_copy us counts tables n) 0 (change_by table [] 0) before stmts

  front : (p : ℕ) → put 0 (take p main) ≡ main_pieces us 0 (take p main)
  front p =
      main-same us limit counts tables (height us) (are-heights us none) (heights-few us none) made table found are.dummies room 0 (take p main)
      (pass_take lower main p (are-heights us none 0))
      (pass_take (λ s. passes us (call_in s.stmt)) main p (are.fit 0))
      (λ x is_in. subst (λ (xs : List (List ℕ)). Contains xs x) (sym (appear x p)) (Contains-append_left (appearing_in main (take p main)) (appearing_in main (drop p main)) x is_in))
      (let less = front-room p in omega (arith, less))

  back : (p before : ℕ) → before ≡ labels_of us counts 0 (take p main) → put before (drop p main) ≡ main_pieces us (labels_before us n 0 p) (drop p main)
  back p before is =
      let same : before ≡ labels_before us n 0 p = is ∙ all-same us limit counts (height us) (are-heights us none) made.exact (heights-few us none) n 0 (heights-few us none 0) (take p main) (pass_take lower main p (are-heights us none 0)) (front-room p) in
      main-same us limit counts tables (height us) (are-heights us none) (heights-few us none) made table found are.dummies room before (drop p main)
      (pass_drop lower main p (are-heights us none 0))
      (pass_drop (λ s. passes us (call_in s.stmt)) main p (are.fit 0))
      (λ x is_in. subst (λ (xs : List (List ℕ)). Contains xs x) (sym (appear x p)) (Contains-append_right (appearing_in main (take p main)) (appearing_in main (drop p main)) x is_in))
      (back-room p before is)
      ∙ ap (λ (b : ℕ). main_pieces us b (drop p main)) same

  pub whole-put : (p before : ℕ) (first second third : List Labelled) → p ≡ declared_first main → before ≡ labels_of us counts 0 (take p main) → first ≡ [] ++ put 0 (take p main) → second ≡ first ++ merged us → third ≡ second ++ put before (drop p main) → third ≡ whole_list us
  whole-put p before first second third place is a b c =
      c ∙ ap (λ (xs : List Labelled). xs ++ put before (drop p main)) (b ∙ ap (λ (xs : List Labelled). xs ++ merged us) (a ∙ front p))
      ∙ ap (λ (xs : List Labelled). main_pieces us 0 (take p main) ++ merged us ++ xs) (back p before is)
      ∙ ap (λ (q : ℕ). main_pieces us 0 (take q main) ++ merged us ++ main_pieces us (labels_before us n 0 q) (drop q main)) place

  -- ---- as it is put

  rest-of : (u : List Labelled) → u ≡ main → (p : ℕ) → take (length u - p) (drop p u) ≡ drop p main
  rest-of u same p = let long = length-drop p u in take_all (length u - p) (drop p u) (omega (arith, long)) ∙ ap (drop p) same

  pub front-fits : (u : List Labelled) → u ≡ main → (p : ℕ) → labels_of us counts 0 (take p u) < limit
  front-fits u same p = subst (λ (v : List Labelled). labels_of us counts 0 (take p v) < limit) (sym same) (front-room p)

  pub back-fits : (u : List Labelled) → u ≡ main → (p before : ℕ) → before ≡ labels_of us counts 0 (take p u) → before + labels_of us counts 0 (take (length u - p) (drop p u)) < limit
  back-fits u same p before is =
      subst (λ (v : List Labelled). before + labels_of us counts 0 v < limit) (sym (rest-of u same p)) (back-room p before (is ∙ ap (λ (v : List Labelled). labels_of us counts 0 (take p v)) same))

  abbrev put-deep : (depth before : ℕ) → List Labelled → List Labelled
  put-deep depth before stmts = put_pieces us counts (put_copy us counts tables depth) 0 (change_by table [] 0) before stmts

  pub whole-is : (u : List Labelled) → u ≡ main → (d e p before : ℕ) (start first second third : List Labelled) → d ≡ n → e ≡ n → p ≡ declared_first u → before ≡ labels_of us counts 0 (take p u)
      → start ≡ [] → first ≡ start ++ put-deep d 0 (take p u) → second ≡ first ++ merged us → third ≡ second ++ put-deep e before (take (length u - p) (drop p u)) → third ≡ whole_list us
  whole-is u same d e p before start first second third deep deeper place is none one two three =
      whole-put p before first second third (place ∙ ap declared_first same) (is ∙ ap (λ (v : List Labelled). labels_of us counts 0 (take p v)) same)
      (one ∙ ap (λ (v : List Labelled). start ++ put-deep d 0 (take p v)) same ∙ ap (λ (depth : ℕ). start ++ put-deep depth 0 (take p main)) deep ∙ ap (λ (xs : List Labelled). xs ++ put 0 (take p main)) none)
      two
      (three ∙ ap (λ (v : List Labelled). second ++ put-deep e before v) (rest-of u same p) ∙ ap (λ (depth : ℕ). second ++ put-deep depth before (drop p main)) deeper)

-- by tables that are made
module _ (copies : CopyTables) (told : AreTablesFor copies) (few : total_width copies.units.us.now ≤ 4000) (or : UnitTable) where
  abbrev text : List (List Labelled)
  text = copies.units.us.now

  abbrev first : UnitTable
  first = get_or copies.tables.now 0 or

  there : slice_get copies.tables.now 0 ≡ Some first
  there = let many = told.made.as_many in let some = some-first text (told.fit.subs []) in slice_get-get_or copies.tables.now 0 or (omega (arith, many, some))

  pub main-front : (u : List Labelled) → u ≡ unit_at text 0 → (p : ℕ) → labels_of text copies.units.counts.now 0 (take p u) < 2 ^ 20
  main-front = front-fits text (2 ^ 20) copies.units.counts.now copies.tables.now told.none told.fit told.made first there (small-enough text few)

  pub main-back : (u : List Labelled) → u ≡ unit_at text 0 → (p before : ℕ) → before ≡ labels_of text copies.units.counts.now 0 (take p u) → before + labels_of text copies.units.counts.now 0 (take (length u - p) (drop p u)) < 2 ^ 20
  main-back = back-fits text (2 ^ 20) copies.units.counts.now copies.tables.now told.none told.fit told.made first there (small-enough text few)

  abbrev main-put : (depth before : ℕ) → List Labelled → List Labelled
  main-put depth before stmts = put_pieces text copies.units.counts.now (put_copy text copies.units.counts.now copies.tables.now depth) 0 (change_by first [] 0) before stmts

  pub main-whole : (u : List Labelled) → u ≡ unit_at text 0 → (d e p before : ℕ) (start first second third : List Labelled) → d ≡ length text → e ≡ length text → p ≡ declared_first u → before ≡ labels_of text copies.units.counts.now 0 (take p u)
      → start ≡ [] → first ≡ start ++ main-put d 0 (take p u) → second ≡ first ++ merged text → third ≡ second ++ main-put e before (take (length u - p) (drop p u)) → third ≡ whole_list text
  main-whole = whole-is text (2 ^ 20) copies.units.counts.now copies.tables.now told.none told.fit told.made first there (small-enough text few)
