-- The DOs to the labels of a context, and those of the main program.
use Rattle.std.proofs.Common.{◌≡◌, ℕ, zero, suc, ◌+◌, ◌<◌, ◌≤◌, ⊎_elim, nat_lt, Bool, true, false, not, List, [], ◌∷◌, ◌++◌, length, map, take, drop, reverse, Some, None, sum_by, refl, sym, ap, subst, ◌∙◌, arith, length-append}
use Rattle.std.specs.List.{slice_get, list_all}
use Rattle.std.proofs.lemmas.Bool.{cases_order, not-true, le-ltb, lt-ltb}
use Rattle.std.proofs.lemmas.List.{append_assoc, append-nil, map-append, reverse-append, take-take, take-append-drop, length-take-le}
use Rattle.std.proofs.lemmas.List.Sums.{prefix_len-le-length}
use Rattle.f77_tree.specs.declared.statements.Labelled.{Labelled}
use Rattle.layout_rules.specs.Executables.{is_do_to, loops_to}
use Rattle.layout_rules.specs.Labels.{statement_of, is_executable}
use Rattle.layout_rules.specs.Order.{rank}
use Rattle.program_units.specs.Units.{Call, call_in, unit_at, unit_of}
use Rattle.program_units.specs.Widths.{width, body_width, labels, body_labels, labels_before}
use Rattle.program_units.specs.Copies.{Context, changes, changed_stmt, number_at}
use Rattle.program_units.specs.CopiedLoops.{loop_if, loops_from, loops_of_pieces, last_number, IsEndOf, HaveEnds, HasItsLoops}
use Rattle.program_units.specs.Expansion.{merged, declared_first, main_context, main_pieces, whole_list}
use Rattle.program_units.specs.ListedCopies.{piece_at, main_place}
use Rattle.copied_control.proofs.CopiedDos.{do-of, do-copied, left-out-no-do, call-no-do, declared-no-do}
use Rattle.copied_control.proofs.CopiedLoops.{ArePlaced, pieces-loops, none-of-pieces, Ends, ends-at, last-count, IsAway, piece-away, call-away, outside}
use Rattle.unit_laws.proofs.Having.{get-drop}
use Rattle.copied_control.proofs.LoopLists.{loops-append, loops-are}
use Rattle.unit_laws.proofs.PieceLabels.{number-apart, number-above, number-within}
use Rattle.copied_control.proofs.PiecesInLists.{Stretch, before}
use Rattle.unit_laws.proofs.MergedDeclared.{merged-declared}
use Rattle.copied_control.proofs.StandingCopies.{place-early, early-long}
use Rattle.copied_control.proofs.WhichPieces.{Which, left_out, calling, single, which, plain-piece, nothing_stands, call-count}

pub map-reverse : (f : ℕ → ℕ) (xs : List ℕ) → reverse (map f xs) ≡ map f (reverse xs)
map-reverse f [] = refl
map-reverse f (x ∷ xs) =
    grind (arith, reverse-append (f x ∷ []) (map f xs), map-reverse f xs, map-append f (reverse xs) (x ∷ []), reverse-append (x ∷ []) xs)

-- ---- the end of a range

module _ (us : List (List Labelled)) (have : HaveEnds us) (list : List Labelled) (c : Context) (at : ℕ → ℕ) (has : HasItsLoops us list c at) where
  abbrev unit : List Labelled
  unit = unit_at us c.unit

  abbrev number : ℕ → ℕ
  number place = number_at us c.depth c.unit c.base place

  abbrev count : Labelled → ℕ
  count = labels (body_labels us c.depth) us c.unit

  module _ (label : ℕ) (last : Labelled) (end : IsEndOf us c.unit label last) where
    abbrev j : ℕ
    j = statement_of unit label

    abbrev m : ℕ
    m = last_number us c j last

    m-is : m + 1 ≡ number j + count last
    m-is = last-count us have c last end.kept (subst (λ (n : ℕ). 0 < n) (sym end.bears) end.some) (number j)

    some-labels : 0 < count last
    some-labels = let least = last-count us have c last end.kept (subst (λ (n : ℕ). 0 < n) (sym end.bears) end.some) 0 in omega (arith, least)

    -- a DO ends at the same label in the copy just where it does in the unit
    same-end : (place other : ℕ) (s : Labelled) → slice_get unit place ≡ Some s → is_do_to other s.stmt ≡ true → (changes us c).end other ≡ m → other ≡ label
    same-end place other s is does ends = by_order (ends-at us have c place other s is does)
      where
        by_order : Ends us have c other → other ≡ label
        by_order e = ⊎_elim
            (λ (same : e.place ≡ j).
            let found : Some e.last ≡ Some last = sym e.stands ∙ ap (λ (n : ℕ). slice_get unit n) same ∙ end.stands in
            let same_last : e.last ≡ last = cc in
            sym e.bears ∙ ap (λ (x : Labelled). x.label) same_last ∙ end.bears)
            (λ o. ⊎_elim
            (λ (below : e.place < j).
            let apart = number-apart us c e.place j e.last e.stands below in
            let number_is = e.number_is in
            let mine = m-is in
            let some = some-labels in
            absurd (omega (arith, apart, number_is, ends, mine, some)))
            (λ (above : j < e.place).
            let apart = number-apart us c j e.place last end.stands above in
            let number_is = e.number_is in
            let one = e.one in
            let mine = m-is in
            absurd (omega (arith, apart, number_is, one, ends, mine)))
            o)
            (cases_order e.place j)

    its-end : (place : ℕ) (s : Labelled) → slice_get unit place ≡ Some s → is_do_to label s.stmt ≡ true → (changes us c).end label ≡ m
    its-end place s is does = cc

    -- no copy inside has the label
    not-within : (place : ℕ) (s : Labelled) (call : Call) → slice_get unit place ≡ Some s → call_in s.stmt ≡ Some call → number place < m → m ≤ number place + body_labels us c.depth (unit_of us call.name) → ⊥
    not-within place s call is calls low high =
        let many = call-count us c s call calls in
        let mine = m-is in
        let some = some-labels in
        ⊎_elim
        (λ (same : place ≡ j).
        let found : Some s ≡ Some last = sym is ∙ ap (λ (n : ℕ). slice_get unit n) same ∙ end.stands in
        let same_last : s ≡ last = cc in
        let counts = ap (λ (x : Labelled). count x) same_last in
        let numbers = ap (λ (n : ℕ). number n) same in
        omega (arith, counts, numbers, many, mine, high))
        (λ o. ⊎_elim
        (λ (below : place < j). let apart = number-apart us c place j s is below in omega (arith, apart, many, mine, some, high))
        (λ (above : j < place). let apart = number-apart us c j place last end.stands above in omega (arith, apart, mine, low))
        o)
        (cases_order place j)

    piece-loops : (place : ℕ) (s : Labelled) → slice_get unit place ≡ Some s → loops_from m (piece_at us c place s) (at place) ≡ loop_if (is_do_to label s.stmt) (at place) []
    piece-loops place s is = by_which (which us c place s)
      where
        none : is_do_to label s.stmt ≡ false → [] ≡ loop_if (is_do_to label s.stmt) (at place) []
        none no_do = ap (λ (b : Bool). loop_if b (at place) []) (sym no_do)

        alike : (a b : Bool) → is_do_to m (changed_stmt (changes us c) s.stmt) ≡ a → is_do_to label s.stmt ≡ b → a ≡ b
        alike true true copied does = refl
        alike false false copied does = refl
        alike true false copied no_do =
            let whose = do-of (changes us c) s.stmt m copied in
            let same : whose.label ≡ label = same-end place whose.label s is whose.is whose.ends in
            let both : true ≡ false = sym (subst (λ (n : ℕ). is_do_to n s.stmt ≡ true) same whose.is) ∙ no_do in
            absurd cc
        alike false true not_copied does =
            let both : true ≡ false = sym (subst (λ (n : ℕ). is_do_to n (changed_stmt (changes us c) s.stmt) ≡ true) (its-end place s is does) (do-copied (changes us c) s.stmt label does)) ∙ not_copied in
            absurd cc

        by_which : Which us c place s → loops_from m (piece_at us c place s) (at place) ≡ loop_if (is_do_to label s.stmt) (at place) []
        by_which (left_out out) = ap (λ (xs : List Labelled). loops_from m xs (at place)) (nothing_stands us c place s out) ∙ none (left-out-no-do c.unit s.stmt label out)
        by_which (calling call calls) = call-away us have c (outside us have c.depth) m place (at place) s call calls (not-within place s call is calls) ∙ none (call-no-do s.stmt call label calls)
        by_which (single plain) =
            ap (λ (xs : List Labelled). loops_from m xs (at place)) (plain-piece us c place s plain)
            ∙ ap (λ (b : Bool). loop_if b (at place) []) (alike (is_do_to m (changed_stmt (changes us c) s.stmt)) (is_do_to label s.stmt) refl refl)

    map-if : (b : Bool) (place : ℕ) (xs : List ℕ) → loop_if b (at place) [] ++ map at xs ≡ map at (loop_if b place xs)
    map-if true place xs = refl
    map-if false place xs = refl

    mapped : (xs : List Labelled) (place : ℕ) → ((i : ℕ) (s : Labelled) → slice_get xs i ≡ Some s → slice_get unit (place + i) ≡ Some s) → loops_of_pieces us c at m xs place ≡ map at (loops_from label xs place)
    mapped [] place stand = refl
    mapped (s ∷ rest) place stand =
        let here : slice_get unit place ≡ Some s = ap (λ (n : ℕ). slice_get unit n) (let e : place ≡ place + 0 = omega arith in e) ∙ stand 0 s refl in
        ap (λ (xs : List ℕ). xs ++ loops_of_pieces us c at m rest (place + 1)) (piece-loops place s here)
        ∙ ap (λ (xs : List ℕ). loop_if (is_do_to label s.stmt) (at place) [] ++ xs) (mapped rest (place + 1) (λ i t is. ap (λ (n : ℕ). slice_get unit n) (let e : place + 1 + i ≡ place + suc i = omega arith in e) ∙ stand (suc i) t is))
        ∙ map-if (is_do_to label s.stmt) place (loops_from label rest (place + 1))

    pub ended-loops : loops_to list m ≡ map at (loops_to unit label)
    ended-loops =
        grind (arith, number-above us c j, number-within us c j last end.stands, m-is, some-labels, loops-are list m, mapped unit 0, map-reverse, loops-are unit label)

  -- ---- the label before a copy

  first-away : (i place : ℕ) (s t : Labelled) (call : Call) → slice_get unit i ≡ Some s → call_in s.stmt ≡ Some call → slice_get unit place ≡ Some t → IsAway us have c (number i) place t
  first-away i place s t call is calls there =
      let many = call-count us c s call calls in
      record {
        lone = λ label does ends. by_order (ends-at us have c place label t there does) ends;
        within = λ inner inner_calls low high.
            let more = call-count us c t inner inner_calls in
            ⊎_elim (λ (e : place ≡ i). let same = ap (λ (n : ℕ). number n) e in omega (arith, same, low)) (λ o. ⊎_elim
            (λ (below : place < i). let apart = number-apart us c place i t there below in omega (arith, apart, more, high))
            (λ (above : i < place). let apart = number-apart us c i place s is above in omega (arith, apart, many, low))
            o) (cases_order place i);
      }
    where
      by_order : {label : ℕ} → Ends us have c label → (changes us c).end label ≡ number i → ⊥
      by_order e ends =
          let many = call-count us c s call calls in
          let number_is = e.number_is in
          let one = e.one in
          ⊎_elim
          (λ (same : e.place ≡ i).
          let found : Some e.last ≡ Some s = sym e.stands ∙ ap (λ (n : ℕ). slice_get unit n) same ∙ is in
          let last : e.last ≡ s = cc in
          let counts = ap (λ (x : Labelled). count x) last in
          let numbers = ap (λ (n : ℕ). number n) same in
          omega (arith, counts, numbers, many, number_is, ends))
          (λ o. ⊎_elim
          (λ (below : e.place < i). let apart = number-apart us c e.place i e.last e.stands below in omega (arith, apart, number_is, ends))
          (λ (above : i < e.place). let apart = number-apart us c i e.place s is above in omega (arith, apart, many, one, number_is, ends))
          o)
          (cases_order e.place i)

  pub first-loops : (place : ℕ) (s : Labelled) (call : Call) → slice_get unit place ≡ Some s → call_in s.stmt ≡ Some call → loops_to list (number place) ≡ []
  first-loops i s call is calls =
      let above = number-above us c i in
      let most = number-within us c i s is in
      let many = call-count us c s call calls in
      let each : (k : ℕ) (t : Labelled) → slice_get unit k ≡ Some t → loops_from (number i) (piece_at us c (0 + k) t) (at (0 + k)) ≡ [] = λ k t there.
      let zero_k : 0 + k ≡ k = omega arith in
      ap (λ (n : ℕ). loops_from (number i) (piece_at us c n t) (at n)) zero_k ∙ piece-away us have c (outside us have c.depth) (number i) k (at k) t (first-away i k s t call is calls there) in
      loops-are list (number i)
      ∙ ap (λ (xs : List ℕ). reverse xs) (has (number i) above (omega (arith, most, many)) ∙ none-of-pieces us c at (number i) unit 0 each)

-- ---- the main program

declared-none : (m : ℕ) (xs : List Labelled) (place : ℕ) → list_all (λ s. not (is_executable s.stmt)) xs ≡ true → loops_from m xs place ≡ []
declared-none m [] place all = refl
declared-none m (s ∷ xs) place all = grind (arith, declared-no-do, not-true, declared-none m xs (place + 1))

of-pieces-append : (us : List (List Labelled)) (c : Context) (at : ℕ → ℕ) (m : ℕ) (xs ys : List Labelled) (place : ℕ) → loops_of_pieces us c at m (xs ++ ys) place ≡ loops_of_pieces us c at m xs place ++ loops_of_pieces us c at m ys (place + length xs)
of-pieces-append us c at m [] ys place = ap (λ (n : ℕ). loops_of_pieces us c at m ys n) (let e : place ≡ place + 0 = omega arith in e)
of-pieces-append us c at m (s ∷ xs) ys place =
    ap (λ (rest : List ℕ). loops_from m (piece_at us c place s) (at place) ++ rest)
    (of-pieces-append us c at m xs ys (place + 1) ∙ ap (λ (n : ℕ). loops_of_pieces us c at m xs (place + 1) ++ loops_of_pieces us c at m ys n) (let e : place + 1 + length xs ≡ place + suc (length xs) = omega arith in e))
    ∙ sym (append_assoc (loops_from m (piece_at us c place s) (at place)) (loops_of_pieces us c at m xs (place + 1)) (loops_of_pieces us c at m ys (place + suc (length xs))))

record IsTaken (xs : List Labelled) (n j : ℕ) (s : Labelled) : Type 0 where
  pub below : j < n
  pub is : slice_get xs j ≡ Some s

taken : (xs : List Labelled) (n j : ℕ) (s : Labelled) → slice_get (take n xs) j ≡ Some s → IsTaken xs n j s
taken xs zero j s is = let e : None ≡ Some s = is in absurd cc
taken [] (suc n) j s is = let e : None ≡ Some s = is in absurd cc
taken (x ∷ xs) (suc n) zero s is = record { below = omega arith; is = is }
taken (x ∷ xs) (suc n) (suc j) s is = let more = taken xs n j s is in let below = more.below in record { below = omega (arith, below); is = more.is }

pub all-main-loops : (us : List (List Labelled)) (m : ℕ) → loops_from m (whole_list us) 0 ≡ loops_of_pieces us (main_context us) (main_place us) m (unit_at us 0) 0
all-main-loops us m =
    let main = unit_at us 0 in
    let c = main_context us in
    let n = length us in
    let at = main_place us in
    let p = declared_first main in
    let wide = width (body_width us n) us 0 in
    let few : p ≤ length main = prefix_len-le-length (λ (s : Labelled). not (nat_lt 2 (rank s.stmt))) main in
    let early = main_pieces us 0 (take p main) in
    let later = labels_before us n 0 p in
    let late = main_pieces us later (drop p main) in
    let fronts : ArePlaced us c at (take p main) 0 0 = record {
      stands = λ j s is. ap (λ (k : ℕ). slice_get main k) (let e : 0 + j ≡ j = omega arith in e) ∙ (taken main p j s is).is;
      begins = λ j s is.
          let below = (taken main p j s is).below in
          let there = place-early us j true (lt-ltb j p below) in
          let short = ap (λ (xs : List Labelled). sum_by wide xs) (take-take j p main (omega (arith, below))) in
          ap at (let e : 0 + j ≡ j = omega arith in e) ∙ (let e : at j ≡ 0 + sum_by wide (take j (take p main)) = omega (arith, there, short) in e);
    } in
    let start = 0 + length (early ++ merged us) in
    let backs : ArePlaced us c at (drop p main) p start = record {
      stands = λ j s is. sym (get-drop main p j) ∙ is;
      begins = λ j s is.
          let stretch : Stretch main (drop p main) p = record { front = take p main; back = []; is = sym (ap (λ (xs : List Labelled). take p main ++ xs) (append-nil (drop p main)) ∙ take-append-drop p main); first = length-take-le p main few } in
          let there = place-early us (p + j) false (le-ltb (p + j) p (let e : p ≤ p + j = omega arith in e)) in
          let sums = before us (whole_list us) c (drop p main) p start stretch wide j s is in
          let long = early-long us in
          let both = length-append early (merged us) in
          omega (arith, there, sums, long, both);
    } in
    let one : loops_from m early 0 ≡ loops_of_pieces us c at m (take p main) 0 = pieces-loops us c at m (take p main) 0 0 0 refl fronts in
    let two : loops_from m late start ≡ loops_of_pieces us c at m (drop p main) p = pieces-loops us c at m (drop p main) p start later refl backs in
    let long : 0 + length (take p main) ≡ p = (let e = length-take-le p main few in omega (arith, e)) in
    loops-append m (early ++ merged us) late 0
    ∙ ap (λ (xs : List ℕ). xs ++ loops_from m late start) (loops-append m early (merged us) 0 ∙ ap (λ (xs : List ℕ). loops_from m early 0 ++ xs) (declared-none m (merged us) (0 + length early) (merged-declared us)) ∙ append-nil (loops_from m early 0) ∙ one)
    ∙ ap (λ (xs : List ℕ). loops_of_pieces us c at m (take p main) 0 ++ xs) (two ∙ ap (λ (k : ℕ). loops_of_pieces us c at m (drop p main) k) (sym long))
    ∙ sym (of-pieces-append us c at m (take p main) (drop p main) 0)
    ∙ ap (λ (xs : List Labelled). loops_of_pieces us c at m xs 0) (take-append-drop p main)

pub main-loops : (us : List (List Labelled)) → HasItsLoops us (whole_list us) (main_context us) (main_place us)
main-loops us m low high = all-main-loops us m

-- ---- no label

module _ (us : List (List Labelled)) (have : HaveEnds us) where
  nought-away : (c : Context) (place : ℕ) (s : Labelled) → slice_get (unit_at us c.unit) place ≡ Some s → IsAway us have c 0 place s
  nought-away c place s is = grind (arith, ends-at us have c place, number-above us c)

  pub none-to-nought : loops_to (whole_list us) 0 ≡ []
  none-to-nought =
      let c = main_context us in
      let each : (k : ℕ) (s : Labelled) → slice_get (unit_at us 0) k ≡ Some s → loops_from 0 (piece_at us c (0 + k) s) (main_place us (0 + k)) ≡ [] = λ k s is.
      let zero_k : 0 + k ≡ k = omega arith in
      ap (λ (n : ℕ). loops_from 0 (piece_at us c n s) (main_place us n)) zero_k ∙ piece-away us have c (outside us have c.depth) 0 k (main_place us k) s (nought-away c k s is) in
      loops-are (whole_list us) 0
      ∙ ap (λ (xs : List ℕ). reverse xs) (all-main-loops us 0 ∙ none-of-pieces us c (main_place us) 0 (unit_at us 0) 0 each)

  none-of-unit : (k : ℕ) (xs : List Labelled) (place : ℕ) → ((i : ℕ) (s : Labelled) → slice_get xs i ≡ Some s → is_do_to 0 s.stmt ≡ false) → loops_from 0 xs place ≡ []
  none-of-unit k [] place none = refl
  none-of-unit k (s ∷ rest) place none =
      ap (λ (b : Bool). loop_if b place (loops_from 0 rest (place + 1))) (none 0 s refl) ∙ none-of-unit k rest (place + 1) (λ i t is. none (suc i) t is)

  pub none-in-unit : (k : ℕ) → loops_to (unit_at us k) 0 ≡ []
  none-in-unit k =
      loops-are (unit_at us k) 0
      ∙ ap (λ (xs : List ℕ). reverse xs) (none-of-unit k (unit_at us k) 0 (λ i s is. by_do i s is (is_do_to 0 s.stmt) refl))
    where
      by_do : (i : ℕ) (s : Labelled) → slice_get (unit_at us k) i ≡ Some s → (b : Bool) → is_do_to 0 s.stmt ≡ b → is_do_to 0 s.stmt ≡ false
      by_do i s is true does = let some = (have k i 0 s is does).is.some in absurd (omega (arith, some))
      by_do i s is false no_do = no_do
