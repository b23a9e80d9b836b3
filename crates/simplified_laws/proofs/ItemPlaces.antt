-- Where the statements of items stand in the simplified form.
use Rattle.std.proofs.Common.{◌≡◌, ℕ, suc, ◌+◌, ◌-◌, ◌<◌, ℤ, Bool, true, false, cond, ◌&&◌, List, [], ◌∷◌, ◌++◌, length, get_or, map, flat_map, filter, count_by, Option, Some, None, refl, sym, ap, ◌∙◌, ⊎_elim, arith, append-nil, zero-add}
use Rattle.std.specs.Prelude.{if◌then◌else◌, slice_get, slice_index}
use Rattle.std.specs.List.{range_with_len}
use Rattle.std.proofs.lemmas.Bool.{cases_Bool, cond-true, and_left}
use Rattle.std.proofs.lemmas.Grind.{flat_map-append}
use Rattle.std.proofs.lemmas.List.{length-append}
use Rattle.std.proofs.lemmas.List.Elements.{filter-append}
use Rattle.std.proofs.lemmas.List.Sums.{length-filter}
use Rattle.std.proofs.lemmas.Option.{slice_get-get_or}
use Rattle.list_laws.proofs.Counts.{bit, bit_true, bit_false, count-cons, count-append, count-map, count-flat_map, sum_same}
use Rattle.list_laws.proofs.Ranges.{range_more}
use Rattle.f77_tree.specs.declared.programs.ExecKind.{ExecKind}
use Rattle.f77_tree.specs.declared.programs.ExecKind.TheVariants.{Assign, Print, Pass, Test, Sign, Pick, DoStart, DoNext, End}
use Rattle.f77_tree.specs.declared.programs.Program.{Program}
use Rattle.alias_classes.specs.Classes.{ClassTable}
use Rattle.cfg_build.specs.Parts.{line_in}
use Rattle.cfg_build.proofs.OutEdges.{range_split}
use Rattle.const_prop.specs.Table.{Knowns}
use Rattle.flat_programs.specs.declared.statements.Flat.{Flat}
use Rattle.flat_programs.specs.declared.statements.Flat.TheVariants.{Mark, Jump}
use Rattle.flat_programs.specs.declared.statements.FlatLine.{FlatLine}
use Rattle.flat_programs.specs.Marks.{is_mark, is_mark_in, mark_places, place_of}
use Rattle.simplified_laws.specs.ItemPlaces.{begins_at, MarksStandAtItems, StandInOrder, StatementsStandInOrder}
use Rattle.simplified_forms.specs.Items.{kind_at}
use Rattle.simplified_forms.specs.Simplified.{decided, flat, has_mark, last_jump, left_of, lines, mark_of, rest, statements, words_at}
use Rattle.simplified_laws.proofs.CountRows.{count_row}
use Rattle.simplified_laws.proofs.ListParts.{after-left, within-left}

-- ---- lists

first-after : (xs ys : List ℕ) (x : ℕ) → slice_index (xs ++ x ∷ ys) (length xs) ≡ x
first-after [] ys x = refl
first-after (y ∷ xs) ys x = first-after xs ys x

-- the places of the marks before a mark, and that of the mark
module _ (before after : List FlatLine) (l : FlatLine) (mark : is_mark l.stmt ≡ true) where
  abbrev all : List FlatLine
  all = before ++ l ∷ after

  abbrev test : ℕ → Bool
  test place = is_mark_in (slice_get all place)

  test-at : (i : ℕ) → i < length before → test (0 + i) ≡ is_mark (get_or before i l).stmt
  test-at i less = let same : 0 + i ≡ i = omega arith in ap test same ∙ ap is_mark_in (within-left before (l ∷ after) i less ∙ slice_get-get_or before i l less)

  test-here : test (length before) ≡ true
  test-here = let same : length before ≡ length before + 0 = omega arith in ap test same ∙ ap is_mark_in (after-left before (l ∷ after) 0) ∙ mark

  place-found : slice_index (mark_places all) (count_by (λ l. is_mark l.stmt) before) ≡ length before
  place-found =
      let n = length before in
      let size : length all ≡ n + suc (length after) = length-append before (l ∷ after) in
      let split : range_with_len 0 (length all) ≡ range_with_len 0 n ++ range_with_len n (suc (length after)) =
      ap (range_with_len 0) size ∙ range_split 0 n (suc (length after)) ∙ ap (λ m. range_with_len 0 n ++ range_with_len m (suc (length after))) (zero-add n) in
      let rest_places = filter test (range_with_len (n + 1) (length after)) in
      let first = filter test (range_with_len 0 n) in
      let places : mark_places all ≡ first ++ n ∷ rest_places =
      ap (filter test) split ∙ filter-append test (range_with_len 0 n) (range_with_len n (suc (length after)))
      ∙ ap (λ xs. first ++ xs) (cond-true (test n) (n ∷ rest_places) rest_places test-here) in
      let count : length first ≡ count_by (λ l. is_mark l.stmt) before = length-filter test (range_with_len 0 n) ∙ count_row (λ (l : FlatLine). is_mark l.stmt) l test before 0 test-at in
      ap (λ (xs : List ℕ). slice_index xs (count_by (λ l. is_mark l.stmt) before)) places ∙ ap (slice_index (first ++ n ∷ rest_places)) (sym count) ∙ first-after first rest_places n

-- ---- the statements of an executable have one mark, if it has one, and that is the first

module _ (p : Program) (c : ClassTable) (t : Knowns) (checked : Bool) (is_item : ℕ → Bool) where
  left-marks : (words : ℕ → Option ℤ) (mark : ℕ → ℕ) (kind : ExecKind) (d : Option ℕ) → count_by is_mark (left_of p checked words mark kind d) ≡ 0
  left-marks words mark (Assign target value next) d = refl
  left-marks words mark (Print items next) d = refl
  left-marks words mark (Pass next) d = refl
  left-marks words mark (Test cond a b) None = refl
  left-marks words mark (Test cond a b) (Some i) = refl
  left-marks words mark (Sign e a b c) None = refl
  left-marks words mark (Sign e a b c) (Some i) = refl
  left-marks words mark (Pick e targets other) None = refl
  left-marks words mark (Pick e targets other) (Some i) = refl
  left-marks words mark (DoStart loop_no var first last step body exit) d = refl
  left-marks words mark (DoNext loop_no var body exit) d = refl
  left-marks words mark End d = refl

  no-jump-marks : (xs : List ℕ) (mark : ℕ → ℕ) → count_by is_mark (map (λ s. Jump (mark s)) xs) ≡ 0
  no-jump-marks [] mark = refl
  no-jump-marks (x ∷ xs) mark = let e = count-cons is_mark (Jump (mark x)) (map (λ s. Jump (mark s)) xs) in let r = no-jump-marks xs mark in omega (arith, e, r)

  abbrev own_of : (k : ℕ) → List Flat
  own_of k = left_of p checked (words_at p c t checked is_item k) (mark_of p t is_item) (kind_at p k) (decided p t k)

  abbrev jumps_of : (k : ℕ) → List Flat
  jumps_of k = map (λ s. Jump (mark_of p t is_item s)) (last_jump is_item k (rest (kind_at p k) (decided p t k)))

  mark-count : (b : Bool) → count_by is_mark (if b then Mark ∷ [] else []) ≡ bit b
  mark-count true = refl
  mark-count false = refl

  statement-marks : (k : ℕ) → count_by is_mark (statements p c t checked is_item k) ≡ bit (has_mark p t is_item k)
  statement-marks k =
      let first : List Flat = if has_mark p t is_item k then Mark ∷ [] else [] in
      let both = count-append is_mark (first ++ own_of k) (jumps_of k) in
      let one = count-append is_mark first (own_of k) in
      let mark = mark-count (has_mark p t is_item k) in
      let none = left-marks (words_at p c t checked is_item k) (mark_of p t is_item) (kind_at p k) (decided p t k) in
      let none_of_jumps = no-jump-marks (last_jump is_item k (rest (kind_at p k) (decided p t k))) (mark_of p t is_item) in
      omega (arith, both, one, mark, none, none_of_jumps)

  abbrev marks : List FlatLine → ℕ
  marks ls = count_by (λ (l : FlatLine). is_mark l.stmt) ls

  line-marks : (k : ℕ) → marks (lines p c t checked is_item k) ≡ bit (has_mark p t is_item k)
  line-marks k = ⊎_elim
      (λ (item : is_item k ≡ true).
      ap marks (cond-true (is_item k) (map wrap (statements p c t checked is_item k)) [] item)
      ∙ count-map (λ (l : FlatLine). is_mark l.stmt) wrap (statements p c t checked is_item k)
      ∙ statement-marks k)
      (λ (none : is_item k ≡ false).
      ap (λ b. marks (if b then map wrap (statements p c t checked is_item k) else [])) none ∙ sym (bit_false (has_mark p t is_item k) (and_left (is_item k) _ none)))
      (cases_Bool (is_item k))
    where
      wrap : Flat → FlatLine
      wrap stmt = record { line = line_in (slice_get p.execs k); stmt = stmt }

  -- ---- the statements of all executables

  abbrev pub line_list : ℕ → List FlatLine
  line_list k = lines p c t checked is_item k

  abbrev begins : ℕ → ℕ
  begins k = begins_at p c t checked is_item k

  pub marks-before : (k : ℕ) → marks (flat_map line_list (range_with_len 0 k)) ≡ count_by (has_mark p t is_item) (range_with_len 0 k)
  marks-before k = count-flat_map (λ (l : FlatLine). is_mark l.stmt) line_list (range_with_len 0 k) ∙ sum_same (λ j. marks (line_list j)) (λ j. bit (has_mark p t is_item j)) (range_with_len 0 k) (λ j m. line-marks j)

  pub mark-number : (k : ℕ) → has_mark p t is_item k ≡ true → mark_of p t is_item k ≡ count_by (has_mark p t is_item) (range_with_len 0 k) + 1
  mark-number k has =
      let more = ap (count_by (has_mark p t is_item)) (range_more k) in
      let both = count-append (has_mark p t is_item) (range_with_len 0 k) (k ∷ []) in
      let one = count-cons (has_mark p t is_item) k [] in
      let here = bit_true (has_mark p t is_item k) has in
      omega (arith, more, both, one, here)

  -- those before an executable, its own, and those after it
  pub split-at : (k : ℕ) → k < length p.execs → flat p c t checked is_item ≡ flat_map line_list (range_with_len 0 k) ++ (line_list k ++ flat_map line_list (range_with_len (k + 1) (length p.execs - (k + 1))))
  split-at k less =
      let more = length p.execs - (k + 1) in
      let size : length p.execs ≡ k + suc more = omega (arith, less) in
      ap (λ n. flat_map line_list (range_with_len 0 n)) size
      ∙ ap (flat_map line_list) (range_split 0 k (suc more) ∙ ap (λ m. range_with_len 0 k ++ range_with_len m (suc more)) (zero-add k))
      ∙ flat_map-append line_list (range_with_len 0 k) (range_with_len k (suc more))

  starts-marked : (k : ℕ) → has_mark p t is_item k ≡ true → (l : FlatLine) × (after : List FlatLine) × (is_mark l.stmt ≡ true) × (line_list k ≡ l ∷ after)
  starts-marked k has =
      let item : is_item k ≡ true = first-true (is_item k) _ has in
      let l : FlatLine = record { line = line_in (slice_get p.execs k); stmt = Mark } in
      let wrap : Flat → FlatLine = λ stmt. record { line = line_in (slice_get p.execs k); stmt = stmt } in (
        l,
        map wrap (own_of k ++ jumps_of k),
        refl,
        cond-true (is_item k) (map wrap (statements p c t checked is_item k)) [] item ∙ ap (λ b. map wrap (((if b then Mark ∷ [] else []) ++ own_of k) ++ jumps_of k)) has,
      )
    where
      first-true : (a b : Bool) → (a && b) ≡ true → a ≡ true
      first-true true b is = refl
      first-true false b is = is

  mark-stands : (k : ℕ) → k < length p.execs → has_mark p t is_item k ≡ true → place_of (flat p c t checked is_item) (mark_of p t is_item k) ≡ begins k
  mark-stands k less has =
      let r = starts-marked k has in
      let l = r.0 in
      let before = flat_map line_list (range_with_len 0 k) in
      let after = r.1 ++ flat_map line_list (range_with_len (k + 1) (length p.execs - (k + 1))) in
      let whole : flat p c t checked is_item ≡ before ++ l ∷ after = split-at k less ∙ ap (λ (xs : List FlatLine). before ++ (xs ++ flat_map line_list (range_with_len (k + 1) (length p.execs - (k + 1))))) r.3 in
      let number : mark_of p t is_item k - 1 ≡ marks before = omega (arith, mark-number k has, marks-before k) in
      ap (λ (xs : List FlatLine). slice_index (mark_places xs) (mark_of p t is_item k - 1)) whole ∙ ap (slice_index (mark_places (before ++ l ∷ after))) number ∙ place-found before after l r.2

  in-order : (k : ℕ) → k < length p.execs → StandInOrder p c t checked is_item k
  in-order k less =
      let before = flat_map line_list (range_with_len 0 k) in
      let after = flat_map line_list (range_with_len (k + 1) (length p.execs - (k + 1))) in
      record {
        each = λ i some. ap (λ (xs : List FlatLine). slice_get xs (begins k + i)) (split-at k less) ∙ after-left before (line_list k ++ after) i ∙ within-left (line_list k) after i some;
        next = ap length (ap (flat_map line_list) (range_more k) ∙ flat_map-append line_list (range_with_len 0 k) (k ∷ []) ∙ ap (λ (xs : List FlatLine). before ++ xs) (append-nil (line_list k))) ∙ length-append before (line_list k);
      }

pub marks-stand : MarksStandAtItems
marks-stand p c t checked is_item k less has = mark-stands p c t checked is_item k less has

pub statements-stand : StatementsStandInOrder
statements-stand p c t checked is_item k less = in-order p c t checked is_item k less
