-- The DOs whose ranges end at a statement of a copy are those of the copy whose ranges end there in the unit.
use Rattle.std.proofs.Common.{◌≡◌, ℕ, zero, suc, ◌+◌, ◌-◌, ◌<◌, ◌≤◌, ◌⊎◌, inl, inr, ⊎_elim, Bool, true, false, List, [], ◌∷◌, ◌++◌, length, map, take, Option, Some, None, sum_by, refl, sym, ap, subst, ◌∙◌, arith}
use Rattle.std.specs.List.{slice_get}
use Rattle.std.proofs.lemmas.Bool.{cases_order, ne_eqb}
use Rattle.std.proofs.lemmas.List.{append-nil}
use Rattle.std.proofs.lemmas.List.Sums.{sum_by-cons}
use Rattle.f77_tree.specs.declared.statements.Labelled.{Labelled}
use Rattle.f77_tree.specs.declared.statements.RawExpr.{RawExpr}
use Rattle.f77_tree.specs.declared.statements.Stmt.TheVariants.{Continue, EndIf}
use Rattle.layout_rules.specs.Executables.{is_do_to}
use Rattle.layout_rules.specs.Labels.{statement_of}
use Rattle.program_units.specs.Units.{Call, call_in, guard_of, unit_at, unit_of}
use Rattle.program_units.specs.declared.entity.Entity.{Entity}
use Rattle.program_units.specs.Entities.{stands_for}
use Rattle.program_units.specs.Widths.{is_kept, width, body_width, labels, body_labels, labels_before}
use Rattle.program_units.specs.Copies.{Change, Context, bare, changes, changed_stmt, call_at, end_by, around, number_at, piece, pieces, copy}
use Rattle.program_units.specs.CopiedLoops.{loop_if, loops_from, loops_of_pieces, HaveEnds, HasItsLoops}
use Rattle.program_units.specs.ListedCopies.{piece_at, called_context, copied_place, lines_before}
use Rattle.copied_control.proofs.CopiedDos.{do-of}
use Rattle.unit_laws.proofs.Having.{sum-next}
use Rattle.copied_control.proofs.LoopLists.{loops-append}
use Rattle.unit_laws.proofs.CopyWidths.{piece_length, copy_length}
use Rattle.unit_laws.proofs.PieceLabels.{number-apart, number-above, number-within}
use Rattle.copied_control.proofs.WhichPieces.{Which, left_out, calling, single, which, plain-piece, nothing_stands, piece-around, call-count}

around-loops : (m : ℕ) (x : Change) (a b line : ℕ) (guard : Option RawExpr) (inside : List Labelled) (place : ℕ) → loops_from m (around x a b line guard inside) place ≡ loops_from m inside (place + lines_before guard)
around-loops m x a b line None inside place = loops-append m inside (bare b line Continue ∷ []) (place + 1) ∙ append-nil (loops_from m inside (place + 1))
around-loops m x a b line (Some condition) inside place =
    grind (arith, loops-append m inside (bare 0 line EndIf ∷ bare b line Continue ∷ []) (place + 1 + 1), append-nil (loops_from m inside (place + 1 + 1)))

-- ---- DOs of pieces, one after another

-- statements of a unit, and where the pieces of each begin
pub record ArePlaced (us : List (List Labelled)) (c : Context) (at : ℕ → ℕ) (xs : List Labelled) (place p : ℕ) : Type 0 where
  pub stands : (j : ℕ) (s : Labelled) → slice_get xs j ≡ Some s → slice_get (unit_at us c.unit) (place + j) ≡ Some s
  pub begins : (j : ℕ) (s : Labelled) → slice_get xs j ≡ Some s → at (place + j) ≡ p + sum_by (width (body_width us c.depth) us c.unit) (take j xs)

module _ (us : List (List Labelled)) (c : Context) (at : ℕ → ℕ) (m : ℕ) where
  abbrev wide : Labelled → ℕ
  wide = width (body_width us c.depth) us c.unit

  pub pieces-loops : (xs : List Labelled) (place p before : ℕ) → before ≡ labels_before us c.depth c.unit place → ArePlaced us c at xs place p → loops_from m (pieces (copy us c.depth) us c before xs) p ≡ loops_of_pieces us c at m xs place
  pieces-loops [] place p before same are = refl
  pieces-loops (s ∷ rest) place p before same are =
      let here : slice_get (unit_at us c.unit) place ≡ Some s = ap (λ (n : ℕ). slice_get (unit_at us c.unit) n) (let e : place ≡ place + 0 = omega arith in e) ∙ are.stands 0 s refl in
      let mine = piece (copy us c.depth) us c (c.base + before + 1) s in
      let next = before + labels (body_labels us c.depth) us c.unit s in
      let long : length mine ≡ wide s = piece_length us (copy us c.depth) (body_width us c.depth) (copy_length us c.depth) c (c.base + before + 1) s in
      let begin : at place ≡ p = ap at (let e : place ≡ place + 0 = omega arith in e) ∙ are.begins 0 s refl ∙ (let e : p + 0 ≡ p = omega arith in e) in
      let later : next ≡ labels_before us c.depth c.unit (place + 1) = ap (λ (n : ℕ). n + labels (body_labels us c.depth) us c.unit s) same ∙ sym (sum-next (labels (body_labels us c.depth) us c.unit) (unit_at us c.unit) place s here) in
      let more : ArePlaced us c at rest (place + 1) (p + wide s) = record {
        stands = λ j t is. ap (λ (n : ℕ). slice_get (unit_at us c.unit) n) (let e : place + 1 + j ≡ place + suc j = omega arith in e) ∙ are.stands (suc j) t is;
        begins = λ j t is.
            let sum = sum_by-cons wide s (take j rest) in
            let there = are.begins (suc j) t is in
            ap at (let e : place + 1 + j ≡ place + suc j = omega arith in e) ∙ there ∙ (let e : p + sum_by wide (s ∷ take j rest) ≡ p + wide s + sum_by wide (take j rest) = omega (arith, sum) in e);
      } in
      loops-append m mine (pieces (copy us c.depth) us c next rest) p
      ∙ ap (λ (n : ℕ). loops_from m (piece (copy us c.depth) us c (c.base + n + 1) s) p ++ loops_from m (pieces (copy us c.depth) us c next rest) (p + length mine)) same
      ∙ ap (λ (n : ℕ). loops_from m (piece_at us c place s) n ++ loops_from m (pieces (copy us c.depth) us c next rest) (p + length mine)) (sym begin)
      ∙ ap (λ (n : ℕ). loops_from m (piece_at us c place s) (at place) ++ loops_from m (pieces (copy us c.depth) us c next rest) (p + n)) long
      ∙ ap (λ (xs : List ℕ). loops_from m (piece_at us c place s) (at place) ++ xs) (pieces-loops rest (place + 1) (p + wide s) next later more)

  pub none-of-pieces : (xs : List Labelled) (place : ℕ) → ((j : ℕ) (s : Labelled) → slice_get xs j ≡ Some s → loops_from m (piece_at us c (place + j) s) (at (place + j)) ≡ []) → loops_of_pieces us c at m xs place ≡ []
  none-of-pieces [] place none = refl
  none-of-pieces (s ∷ rest) place none =
      ap (λ (xs : List ℕ). xs ++ loops_of_pieces us c at m rest (place + 1)) (ap (λ (n : ℕ). loops_from m (piece_at us c n s) (at n)) (let e : place ≡ place + 0 = omega arith in e) ∙ none 0 s refl)
      ∙ none-of-pieces rest (place + 1) (λ j t is. ap (λ (n : ℕ). loops_from m (piece_at us c n t) (at n)) (let e : place + 1 + j ≡ place + suc j = omega arith in e) ∙ none (suc j) t is)

  -- only one statement has any
  pub one-of-pieces : (xs : List Labelled) (place i : ℕ) (s : Labelled) → slice_get xs i ≡ Some s → ((j : ℕ) (t : Labelled) → slice_get xs j ≡ Some t → (j ≡ i → ⊥) → loops_from m (piece_at us c (place + j) t) (at (place + j)) ≡ []) → loops_of_pieces us c at m xs place ≡ loops_from m (piece_at us c (place + i) s) (at (place + i))
  one-of-pieces [] place i s is none = let e : None ≡ Some s = is in absurd cc
  one-of-pieces (x ∷ rest) place zero s is none =
      let e : Some x ≡ Some s = is in
      let same : x ≡ s = cc in
      ap (λ (xs : List ℕ). loops_from m (piece_at us c place x) (at place) ++ xs) (none-of-pieces rest (place + 1) (λ j t there. ap (λ (n : ℕ). loops_from m (piece_at us c n t) (at n)) (let e : place + 1 + j ≡ place + suc j = omega arith in e) ∙ none (suc j) t there (λ (e : suc j ≡ 0). omega (arith, e))))
      ∙ append-nil (loops_from m (piece_at us c place x) (at place))
      ∙ ap (λ (n : ℕ). loops_from m (piece_at us c n x) (at n)) (let e : place ≡ place + 0 = omega arith in e)
      ∙ ap (λ (y : Labelled). loops_from m (piece_at us c (place + 0) y) (at (place + 0))) same
  one-of-pieces (x ∷ rest) place (suc i) s is none =
      ap (λ (xs : List ℕ). xs ++ loops_of_pieces us c at m rest (place + 1)) (ap (λ (n : ℕ). loops_from m (piece_at us c n x) (at n)) (let e : place ≡ place + 0 = omega arith in e) ∙ none 0 x refl (λ (e : 0 ≡ suc i). omega (arith, e)))
      ∙ one-of-pieces rest (place + 1) i s is (λ j t there other. ap (λ (n : ℕ). loops_from m (piece_at us c n t) (at n)) (let e : place + 1 + j ≡ place + suc j = omega arith in e) ∙ none (suc j) t there (λ (e : suc j ≡ suc i). other (omega (arith, e))))
      ∙ ap (λ (n : ℕ). loops_from m (piece_at us c n s) (at n)) (let e : place + 1 + i ≡ place + suc i = omega arith in e)

-- ---- copies

pub copy-loops : (us : List (List Labelled)) (c : Context) (m p : ℕ) → loops_from m (copy us (suc c.depth) c.unit c.arguments c.base) p ≡ loops_of_pieces us c (copied_place us c p) m (unit_at us c.unit) 0
copy-loops us c m p = grind (arith, pieces-loops us c (copied_place us c p) m (unit_at us c.unit) 0 p 0)

module _ (us : List (List Labelled)) (have : HaveEnds us) where
  -- ---- labels of ends

  module _ (c : Context) where
    abbrev unit : List Labelled
    unit = unit_at us c.unit

    abbrev number : ℕ → ℕ
    number place = number_at us c.depth c.unit c.base place

    abbrev count : Labelled → ℕ
    count = labels (body_labels us c.depth) us c.unit

    pub last-count : (last : Labelled) → is_kept c.unit last.stmt ≡ true → 0 < last.label → (n : ℕ) → end_by us c.depth (call_in last.stmt) n + 1 ≡ n + count last
    last-count last kept some n = grind (arith, ne_eqb last.label 0)

    -- where the range of a DO ends, and with which label its copy's does
    pub record Ends (label : ℕ) : Type 0 where
      pub place : ℕ
      pub last : Labelled
      pub there : place ≡ statement_of unit label
      pub stands : slice_get unit place ≡ Some last
      pub bears : last.label ≡ label
      pub one : 0 < count last
      pub number_is : (changes us c).end label + 1 ≡ number place + count last

    pub ends-at : (place label : ℕ) (s : Labelled) → slice_get unit place ≡ Some s → is_do_to label s.stmt ≡ true → Ends label
    ends-at place label s is does =
        let has = have c.unit place label s is does in
        let j = statement_of unit label in
        let some : 0 < has.last.label = subst (λ (n : ℕ). 0 < n) (sym has.is.bears) has.is.some in
        let counted = last-count has.last has.is.kept some (number j) in
        let least = last-count has.last has.is.kept some 0 in
        record {
          place = j;
          last = has.last;
          there = refl;
          stands = has.is.stands;
          bears = has.is.bears;
          one = omega (arith, least);
          number_is = ap (λ (o : Option Labelled). end_by us c.depth (call_at o) (number j) + 1) has.is.stands ∙ counted;
        }

    -- ---- DOs of a piece

    -- no DO of what stands for the statement ends at the label
    pub record IsAway (m place : ℕ) (s : Labelled) : Type 0 where
      pub lone : (label : ℕ) → is_do_to label s.stmt ≡ true → (changes us c).end label ≡ m → ⊥
      pub within : (call : Call) → call_in s.stmt ≡ Some call → number place < m → m ≤ number place + body_labels us c.depth (unit_of us call.name) → ⊥

    module _ (outside : (k : ℕ) (arguments : List Entity) (base m place : ℕ) → (base < m → m ≤ base + body_labels us c.depth k → ⊥) → loops_from m (copy us c.depth k arguments base) place ≡ []) where
      pub call-away : (m place p : ℕ) (s : Labelled) (call : Call) → call_in s.stmt ≡ Some call → (number place < m → m ≤ number place + body_labels us c.depth (unit_of us call.name) → ⊥) → loops_from m (piece_at us c place s) p ≡ []
      call-away m place p s call calls away = grind (arith, piece-around us c place s call calls, around-loops m (changes us c) (number place))

      pub piece-away : (m place p : ℕ) (s : Labelled) → IsAway m place s → loops_from m (piece_at us c place s) p ≡ []
      piece-away m place p s away = by_which (which us c place s)
        where
          by_which : Which us c place s → loops_from m (piece_at us c place s) p ≡ []
          by_which (left_out none) = ap (λ (xs : List Labelled). loops_from m xs p) (nothing_stands us c place s none)
          by_which (calling call calls) = call-away m place p s call calls (away.within call calls)
          by_which (single plain) = ap (λ (xs : List Labelled). loops_from m xs p) (plain-piece us c place s plain) ∙ by_do (is_do_to m (changed_stmt (changes us c) s.stmt)) refl
            where
              by_do : (b : Bool) → is_do_to m (changed_stmt (changes us c) s.stmt) ≡ b → loop_if b p [] ≡ []
              by_do false is = refl
              by_do true is = let copied = do-of (changes us c) s.stmt m is in absurd (away.lone copied.label copied.is copied.ends)

      -- away from the labels of the whole copy
      pub far-away : (m place : ℕ) (s : Labelled) → slice_get unit place ≡ Some s → (c.base < m → m ≤ c.base + body_labels us (suc c.depth) c.unit → ⊥) → IsAway m place s
      far-away m place s is far =
          grind (arith, ends-at place, number-above us c, number-within us c, number-above us c place, number-within us c place s is, call-count us c s)

  -- DOs of a copy end at its labels
  pub outside : (depth k : ℕ) (arguments : List Entity) (base m p : ℕ) → (base < m → m ≤ base + body_labels us depth k → ⊥) → loops_from m (copy us depth k arguments base) p ≡ []
  outside zero k arguments base m p away = refl
  outside (suc d) k arguments base m p away =
      let c : Context = record { depth = d; unit = k; arguments = arguments; base = base } in
      let each : (j : ℕ) (s : Labelled) → slice_get (unit_at us k) j ≡ Some s → loops_from m (piece_at us c (0 + j) s) (copied_place us c p (0 + j)) ≡ [] = λ j s is.
      let there : slice_get (unit_at us k) (0 + j) ≡ Some s = ap (λ (n : ℕ). slice_get (unit_at us k) n) (let e : 0 + j ≡ j = omega arith in e) ∙ is in
      piece-away c (outside d) m (0 + j) (copied_place us c p (0 + j)) s (far-away c (outside d) m (0 + j) s there away) in
      copy-loops us c m p ∙ none-of-pieces us c (copied_place us c p) m (unit_at us k) 0 each

  -- ---- contexts

  -- away from the labels of what is called
  near-away : (c : Context) (m i place : ℕ) (s t : Labelled) (call : Call) → slice_get (unit_at us c.unit) i ≡ Some s → call_in s.stmt ≡ Some call → number_at us c.depth c.unit c.base i < m → m ≤ number_at us c.depth c.unit c.base i + body_labels us c.depth (unit_of us call.name) → slice_get (unit_at us c.unit) place ≡ Some t → (place ≡ i → ⊥) → IsAway c m place t
  near-away c m i place s t call is calls low high there other =
      let many = call-count us c s call calls in
      record {
        lone = λ label does ends. by_order (ends-at c place label t there does) (cases_order (ends-at c place label t there does).place i) ends;
        within = λ inner inner_calls low_too high_too.
            let more = call-count us c t inner inner_calls in
            ⊎_elim (λ (e : place ≡ i). other e) (λ o. ⊎_elim
            (λ (below : place < i). let apart = number-apart us c place i t there below in omega (arith, apart, more, high_too, low))
            (λ (above : i < place). let apart = number-apart us c i place s is above in omega (arith, apart, many, high, low_too))
            o) (cases_order place i);
      }
    where
      by_order : {label : ℕ} (e : Ends c label) → (e.place ≡ i) ⊎ ((e.place < i) ⊎ (i < e.place)) → (changes us c).end label ≡ m → ⊥
      by_order e (inl same) ends =
          let found : Some e.last ≡ Some s = sym e.stands ∙ ap (λ (n : ℕ). slice_get (unit_at us c.unit) n) same ∙ is in
          let last : e.last ≡ s = cc in
          let count = ap (λ (x : Labelled). labels (body_labels us c.depth) us c.unit x) last ∙ call-count us c s call calls in
          let numbers = ap (λ (n : ℕ). number_at us c.depth c.unit c.base n) same in
          let number_is = e.number_is in
          omega (arith, count, numbers, number_is, ends, high)
      by_order e (inr (inl below)) ends =
          let apart = number-apart us c e.place i e.last e.stands below in
          let number_is = e.number_is in
          omega (arith, apart, number_is, ends, low)
      by_order e (inr (inr above)) ends =
          let apart = number-apart us c i e.place s is above in
          let many = call-count us c s call calls in
          let one = e.one in
          let number_is = e.number_is in
          omega (arith, apart, many, one, number_is, ends, high)

  of-called : (list : List Labelled) (c : Context) (at : ℕ → ℕ) → HasItsLoops us list c at → (i : ℕ) (s : Labelled) (call : Call) → slice_get (unit_at us c.unit) i ≡ Some s → call_in s.stmt ≡ Some call → (m : ℕ) → number_at us c.depth c.unit c.base i < m → m ≤ number_at us c.depth c.unit c.base i + body_labels us c.depth (unit_of us call.name)
      → loops_from m list 0 ≡ loops_from m (copy us c.depth (unit_of us call.name) (map (stands_for us c.unit c.arguments) call.arguments) (number_at us c.depth c.unit c.base i)) (at i + lines_before (guard_of s.stmt))
  of-called list c at has i s call is calls m low high =
      let unit = unit_at us c.unit in
      let number = number_at us c.depth c.unit c.base i in
      let g = unit_of us call.name in
      let above = number-above us c i in
      let most = number-within us c i s is in
      let many = call-count us c s call calls in
      let none : (j : ℕ) (t : Labelled) → slice_get unit j ≡ Some t → (j ≡ i → ⊥) → loops_from m (piece_at us c (0 + j) t) (at (0 + j)) ≡ [] = λ j t there other.
      let zero_j : j ≡ 0 + j = omega arith in
      ap (λ (n : ℕ). loops_from m (piece_at us c n t) (at n)) (sym zero_j) ∙ piece-away c (outside c.depth) m j (at j) t (near-away c m i j s t call is calls low high there other) in
      has m (omega (arith, above, low)) (omega (arith, most, many, high))
      ∙ one-of-pieces us c at m unit 0 i s is none
      ∙ ap (λ (n : ℕ). loops_from m (piece_at us c n s) (at n)) (let e : 0 + i ≡ i = omega arith in e)
      ∙ ap (λ (xs : List Labelled). loops_from m xs (at i)) (piece-around us c i s call calls)
      ∙ around-loops m (changes us c) number (number + body_labels us c.depth g + 1) s.line (guard_of s.stmt) (copy us c.depth g (map (stands_for us c.unit c.arguments) call.arguments) number) (at i)

  by_depth : (list : List Labelled) (depth k : ℕ) (arguments : List Entity) (base begin : ℕ) → 0 < depth → ((m : ℕ) → base < m → m ≤ base + body_labels us depth k → loops_from m list 0 ≡ loops_from m (copy us depth k arguments base) begin)
      → HasItsLoops us list (record { depth = depth - 1; unit = k; arguments = arguments; base = base }) (copied_place us (record { depth = depth - 1; unit = k; arguments = arguments; base = base }) begin)
  by_depth list zero k arguments base begin deep same = absurd (omega (arith, deep))
  by_depth list (suc d) k arguments base begin deep same =
      let e : d ≡ suc d - 1 = omega arith in
      subst (λ (n : ℕ). HasItsLoops us list (record { depth = n; unit = k; arguments = arguments; base = base }) (copied_place us (record { depth = n; unit = k; arguments = arguments; base = base }) begin)) e
      (λ m low high. same m low high ∙ copy-loops us (record { depth = d; unit = k; arguments = arguments; base = base }) m begin)

  pub called-loops : (list : List Labelled) (c : Context) (at : ℕ → ℕ) → HasItsLoops us list c at → (place : ℕ) (s : Labelled) (call : Call) → 0 < c.depth → slice_get (unit_at us c.unit) place ≡ Some s → call_in s.stmt ≡ Some call
      → HasItsLoops us list (called_context us c place call) (copied_place us (called_context us c place call) (at place + lines_before (guard_of s.stmt)))
  called-loops list c at has place s call deep is calls = by_depth list c.depth (unit_of us call.name) (map (stands_for us c.unit c.arguments) call.arguments) (number_at us c.depth c.unit c.base place) (at place + lines_before (guard_of s.stmt)) deep (of-called list c at has place s call is calls)
