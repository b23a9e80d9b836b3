-- Labels of the list lead to what stands for the statements that they were put on.
use Rattle.std.proofs.Common.{◌≡◌, ℕ, zero, suc, ◌+◌, ◌<◌, ◌≤◌, ◌==◌, Bool, true, false, not, cond, List, [], ◌∷◌, ◌++◌, length, map, Option, Some, None, if◌then◌else◌, refl, sym, ap, ◌∙◌, arith, length-append}
use Rattle.std.specs.List.{slice_get, range_with_len}
use Rattle.std.proofs.lemmas.Bool.{eqb-true, eq-eqb, ne_eqb}
use Rattle.std.proofs.lemmas.List.{append_assoc}
use Rattle.f77_tree.specs.declared.statements.Labelled.{Labelled}
use Rattle.f77_tree.specs.declared.statements.RawExpr.{RawExpr}
use Rattle.f77_tree.specs.declared.statements.Stmt.TheVariants.{Continue, BlockIf, EndIf}
use Rattle.layout_rules.specs.Labels.{statement_of}
use Rattle.program_units.specs.Units.{Call, call_in, guard_of, unit_at, unit_of}
use Rattle.program_units.specs.Entities.{stands_for}
use Rattle.program_units.specs.Widths.{labels_by, labels, body_labels, labels_written}
use Rattle.program_units.specs.Copies.{Change, Context, bare, changes, changed, changed_stmt, around, number_at, copy}
use Rattle.program_units.specs.ListedCopies.{HasAt, StandsIn, IsClosedAt, piece_at, closing}
use Rattle.unit_laws.proofs.Having.{alike, got, has_second}
use Rattle.copied_control.proofs.WhichPieces.{IsPlain, Which, left_out, calling, single, which, plain-piece, piece-around}
use Rattle.std.proofs.lemmas.Grind.{elements}

-- ---- labels that stand in order

-- the first statement's label, if it has one, is the first of these
data First (x : Labelled) (rest : List Labelled) (k n : ℕ) : Type 0 where
  unlabelled : x.label ≡ 0 → labels_written rest ≡ range_with_len k n → First x rest k n
  labelled : (more : ℕ) → (x.label ≡ 0 → ⊥) → x.label ≡ k → labels_written rest ≡ range_with_len (k + 1) more → First x rest k n

first : (x : Labelled) (rest : List Labelled) (k n : ℕ) → labels_written (x ∷ rest) ≡ range_with_len k n → First x rest k n
first x rest k n is = by_test (x.label == 0) refl n is
  where
    by_test : (b : Bool) → (x.label == 0) ≡ b → (n : ℕ) → (if b then labels_written rest else x.label ∷ labels_written rest) ≡ range_with_len k n → First x rest k n
    by_test true none n is = unlabelled (eqb-true x.label 0 none) is
    by_test false some zero is = let e : x.label ∷ labels_written rest ≡ [] = is in absurd cc
    by_test false some (suc n) is =
        let e : x.label ∷ labels_written rest ≡ k ∷ range_with_len (k + 1) n = is in
        let label : x.label ≡ k = cc in
        let more : labels_written rest ≡ range_with_len (k + 1) n = cc in
        labelled n (λ (none : x.label ≡ 0). let both : true ≡ false = sym (eq-eqb x.label 0 none) ∙ some in absurd cc) label more

pub at-least : (list : List Labelled) (k n p : ℕ) (s : Labelled) → labels_written list ≡ range_with_len k n → slice_get list p ≡ Some s → 0 < s.label → k ≤ s.label
at-least [] k n p s rows is some = let e : None ≡ Some s = is in absurd cc
at-least (x ∷ rest) k n p s rows is some = grind (arith, first x rest k n rows, at-least rest)

found-next : (x : Labelled) (rest : List Labelled) (m p : ℕ) → (x.label ≡ m → ⊥) → statement_of rest m ≡ p → statement_of (x ∷ rest) m ≡ suc p
found-next x rest m p other is = grind (arith, ne_eqb x.label m other)

found-here : (x : Labelled) (rest : List Labelled) (m : ℕ) → x.label ≡ m → statement_of (x ∷ rest) m ≡ 0
found-here x rest m same = ap (λ (b : Bool). cond (not b) (1 + statement_of rest m) 0) (eq-eqb x.label m same)

-- a label leads to the statement that bears it
pub leads : (list : List Labelled) (k n p m : ℕ) (s : Labelled) → labels_written list ≡ range_with_len k n → slice_get list p ≡ Some s → s.label ≡ m → 0 < m → statement_of list m ≡ p
leads [] k n p m s rows is label some = let e : None ≡ Some s = is in absurd cc
leads (x ∷ rest) k n p m s rows is label some = grind (arith, elements, first, found-next, found-here, at-least, leads rest)

pub closed-leads : (list : List Labelled) (count place b : ℕ) → labels_written list ≡ range_with_len 1 count → 0 < b → (closed : IsClosedAt list place b) → statement_of list b + 1 ≡ place + length (closing closed.guarded b closed.line)
closed-leads list count place b rows some closed = by_guard closed.guarded closed.line closed.stand
  where
    by_guard : (guarded : Bool) (line : ℕ) → HasAt list place (closing guarded b line) → statement_of list b + 1 ≡ place + length (closing guarded b line)
    by_guard true line has =
        let e = leads list 1 count (place + 1) b (bare b line Continue) rows (got list (closing true b line) place 1 (bare b line Continue) has refl) refl some in
        omega (arith, e)
    by_guard false line has =
        let e = leads list 1 count (place + 0) b (bare b line Continue) rows (got list (closing false b line) place 0 (bare b line Continue) has refl) refl some in
        omega (arith, e)

-- ---- contexts

module _ (us : List (List Labelled)) (list : List Labelled) (c : Context) (at : ℕ → ℕ) (count : ℕ) (stands : StandsIn us list c at) (rows : labels_written list ≡ range_with_len 1 count) where
  abbrev number : ℕ → ℕ
  number place = number_at us c.depth c.unit c.base place

  first_item : (place : ℕ) (s x : Labelled) (rest : List Labelled) → slice_get (unit_at us c.unit) place ≡ Some s → piece_at us c place s ≡ x ∷ rest → x.label ≡ number place → statement_of list (number place) ≡ at place
  first_item place s x rest is piece label =
      let has = alike list (piece_at us c place s) (x ∷ rest) (at place) piece (stands.pieces place s is) in
      let e = leads list 1 count (at place + 0) (number place) x rows (got list (x ∷ rest) (at place) 0 x has refl) label (omega arith) in
      omega (arith, e)

  pub around-first : (x : Change) (a b line : ℕ) (guard : Option RawExpr) (inside : List Labelled) → (rest : List Labelled) × (around x a b line guard inside ≡ bare a line Continue ∷ rest)
  around-first x a b line None inside = (inside ++ bare b line Continue ∷ [], refl)
  around-first x a b line (Some condition) inside = (bare 0 line (BlockIf (changed x condition)) ∷ (inside ++ bare 0 line EndIf ∷ bare b line Continue ∷ []), refl)

  pub first-leads : (place : ℕ) (s : Labelled) → slice_get (unit_at us c.unit) place ≡ Some s → 0 < labels (body_labels us c.depth) us c.unit s → statement_of list (number place) ≡ at place
  first-leads place s is some = by_which (which us c place s)
    where
      by_label : IsPlain us c place s → (b : Bool) → (s.label == 0) ≡ b → statement_of list (number place) ≡ at place
      by_label plain true none =
          let zero_labels : labels (body_labels us c.depth) us c.unit s ≡ 0 = ap (λ (kept : Bool). if kept then labels_by (body_labels us c.depth) us s.label (call_in s.stmt) else 0) plain.kept ∙ ap (λ (o : Option Call). labels_by (body_labels us c.depth) us s.label o) plain.none ∙ ap (λ (b : Bool). if b then 0 else 1) none in
          absurd (omega (arith, zero_labels, some))
      by_label plain false has =
          let copied = bare (if s.label == 0 then 0 else number place) s.line (changed_stmt (changes us c) s.stmt) in
          first_item place s copied [] is (plain-piece us c place s plain) (ap (λ (b : Bool). if b then 0 else number place) has)

      by_which : Which us c place s → statement_of list (number place) ≡ at place
      by_which (left_out none) =
          let zero_labels : labels (body_labels us c.depth) us c.unit s ≡ 0 = ap (λ (kept : Bool). if kept then labels_by (body_labels us c.depth) us s.label (call_in s.stmt) else 0) none in
          absurd (omega (arith, zero_labels, some))
      by_which (calling call calls) =
          let g = unit_of us call.name in
          let front = around-first (changes us c) (number place) (number place + body_labels us c.depth g + 1) s.line (guard_of s.stmt) (copy us c.depth g (map (stands_for us c.unit c.arguments) call.arguments) (number place)) in
          first_item place s (bare (number place) s.line Continue) front.0 is (piece-around us c place s call calls ∙ front.1) refl
      by_which (single plain) = by_label plain (s.label == 0) refl

  pub around-last : (x : Change) (a b line : ℕ) (guard : Option RawExpr) (inside : List Labelled) → (front : List Labelled) × (around x a b line guard inside ≡ front ++ bare b line Continue ∷ [])
  around-last x a b line None inside = (bare a line Continue ∷ inside, refl)
  around-last x a b line (Some condition) inside = (bare a line Continue ∷ bare 0 line (BlockIf (changed x condition)) ∷ (inside ++ bare 0 line EndIf ∷ []), ap (λ (xs : List Labelled). bare a line Continue ∷ bare 0 line (BlockIf (changed x condition)) ∷ xs) (sym (append_assoc inside (bare 0 line EndIf ∷ []) (bare b line Continue ∷ []))))

  pub last-leads : (place : ℕ) (s : Labelled) (call : Call) → slice_get (unit_at us c.unit) place ≡ Some s → call_in s.stmt ≡ Some call → statement_of list (number place + body_labels us c.depth (unit_of us call.name) + 1) + 1 ≡ at place + length (piece_at us c place s)
  last-leads place s call is calls =
      let g = unit_of us call.name in
      let b = number place + body_labels us c.depth g + 1 in
      let item = bare b s.line Continue in
      let parts = around-last (changes us c) (number place) b s.line (guard_of s.stmt) (copy us c.depth g (map (stands_for us c.unit c.arguments) call.arguments) (number place)) in
      let whole = piece-around us c place s call calls ∙ parts.1 in
      let has = has_second list parts.0 (item ∷ []) (at place) (alike list (piece_at us c place s) (parts.0 ++ item ∷ []) (at place) whole (stands.pieces place s is)) in
      let e = leads list 1 count (at place + length parts.0 + 0) b item rows (got list (item ∷ []) (at place + length parts.0) 0 item has refl) refl (omega arith) in
      let long : length (piece_at us c place s) ≡ length parts.0 + 1 = ap length whole ∙ length-append parts.0 (item ∷ []) in
      omega (arith, e, long)
