-- Where the statements of a flat program stand in its shared form: each after the assignments that are due before it.
use Rattle.std.proofs.Common.{◌≡◌, ℕ, zero, suc, ◌+◌, ◌-◌, ◌<◌, ◌≤◌, ◌⊎◌, inl, inr, ⊎_elim, Bool, true, false, List, [], ◌∷◌, ◌++◌, length, take, map, Option, Some, None, refl, sym, ap, subst, ◌∙◌, arith}
use Rattle.std.specs.Prelude.{slice_get}
use Rattle.std.specs.List.{count_by, position_or_len}
use Rattle.std.specs.Option.{option_map}
use Rattle.std.proofs.lemmas.Bool.{cases_lt}
use Rattle.std.proofs.lemmas.List.{length-append, length-map}
use Rattle.std.proofs.lemmas.Option.{slice_get_within, slice_get-map}
use Rattle.list_laws.proofs.Counts.{bit}
use Rattle.f77_tree.specs.declared.programs.Program.{Program}
use Rattle.flat_programs.specs.declared.statements.Flat.{Flat}
use Rattle.flat_programs.specs.declared.statements.Flat.TheVariants.{Mark, Assignment, Output, LogicalIf, ArithmeticIf, ComputedGoTo, DoLoop, Jump, Finish}
use Rattle.flat_programs.specs.declared.statements.FlatLine.{FlatLine}
use Rattle.flat_programs.specs.Executables.{first_of}
use Rattle.flat_programs.specs.Marks.{ends_at, is_loop, is_mark}
use Rattle.redundancy.specs.Available.{Availability}
use Rattle.shared_forms.specs.Numbered.{number_of}
use Rattle.shared_forms.specs.Shared.{due, kept_value, replaced_in, shared_flat, shared_lines}
use Rattle.shared_laws.proofs.ListPlaces.{before-first, count-next, first-found, in_row, item_at, position-is, position-most, row_at, start, start-more, start-rises, IsInRow}
use Rattle.shared_forms.proofs.TemporaryTable.{slice_get-kept, slice_get-left, slice_get-right}

module _ (q : Program) (a : Availability) where
  -- ---- a statement with temporaries is one of the same form

  pub same-mark : (stmt : Flat) → is_mark (replaced_in q a (number_of a) stmt) ≡ is_mark stmt
  same-mark Mark = refl
  same-mark (Assignment target value) = refl
  same-mark (Output items) = refl
  same-mark (LogicalIf cond target) = refl
  same-mark (ArithmeticIf value below at above) = refl
  same-mark (ComputedGoTo value targets) = refl
  same-mark (DoLoop end var first last step) = refl
  same-mark (Jump target) = refl
  same-mark Finish = refl

  pub same-loop : (stmt : Flat) → is_loop (replaced_in q a (number_of a) stmt) ≡ is_loop stmt
  same-loop Mark = refl
  same-loop (Assignment target value) = refl
  same-loop (Output items) = refl
  same-loop (LogicalIf cond target) = refl
  same-loop (ArithmeticIf value below at above) = refl
  same-loop (ComputedGoTo value targets) = refl
  same-loop (DoLoop end var first last step) = refl
  same-loop (Jump target) = refl
  same-loop Finish = refl

  pub same-ends : (number : ℕ) (stmt : Flat) → ends_at number (replaced_in q a (number_of a) stmt) ≡ ends_at number stmt
  same-ends number Mark = refl
  same-ends number (Assignment target value) = refl
  same-ends number (Output items) = refl
  same-ends number (LogicalIf cond target) = refl
  same-ends number (ArithmeticIf value below at above) = refl
  same-ends number (ComputedGoTo value targets) = refl
  same-ends number (DoLoop end var first last step) = refl
  same-ends number (Jump target) = refl
  same-ends number Finish = refl

  -- ---- places

  abbrev pub changed : FlatLine → FlatLine
  changed l = record { line = l.line; stmt = replaced_in q a (number_of a) l.stmt }

  module _ (flat : List FlatLine) where
    abbrev pub due_at : (place : ℕ) → List ℕ
    due_at place = due q a (number_of a) (first_of flat place)

    abbrev pub pieces : (place : ℕ) → List FlatLine
    pieces place = shared_lines q a (number_of a) (first_of flat place) (slice_get flat place)

    abbrev pub all : List FlatLine
    all = shared_flat q a (number_of a) flat

    -- the place of the first assignment that is due before a statement, and that of the statement
    abbrev pub begins : (place : ℕ) → ℕ
    begins place = start pieces place

    abbrev pub stands : (place : ℕ) → ℕ
    stands place = begins place + length (due_at place)

    pieces-are : (place : ℕ) (l : FlatLine) → slice_get flat place ≡ Some l → pieces place ≡ map (kept_value q a (number_of a) l.line) (due_at place) ++ changed l ∷ []
    pieces-are place l is = ap (shared_lines q a (number_of a) (first_of flat place)) is

    front-length : (line place : ℕ) → length (map (kept_value q a (number_of a) line) (due_at place)) ≡ length (due_at place)
    front-length line place = length-map (due_at place) (kept_value q a (number_of a) line)

    pub begins-next : (place : ℕ) (l : FlatLine) → slice_get flat place ≡ Some l → begins (place + 1) ≡ stands place + 1
    begins-next place l is =
        let more = start-more pieces place in
        let size = ap length (pieces-are place l is) ∙ length-append (map (kept_value q a (number_of a) l.line) (due_at place)) (changed l ∷ []) in
        let front = front-length l.line place in
        omega (arith, more, size, front)

    pub length-all : length all ≡ begins (length flat)
    length-all = refl

    -- an assignment that is due
    pub kept-there : (place j n : ℕ) (l : FlatLine) → slice_get flat place ≡ Some l → slice_get (due_at place) j ≡ Some n → slice_get all (begins place + j) ≡ Some (kept_value q a (number_of a) l.line n)
    kept-there place j n l is at =
        let kept : FlatLine = kept_value q a (number_of a) l.line n in
        let front = map (kept_value q a (number_of a) l.line) (due_at place) in
        let here : slice_get front j ≡ Some kept = slice_get-map (kept_value q a (number_of a) l.line) (due_at place) j ∙ ap (option_map (kept_value q a (number_of a) l.line)) at in
        row_at pieces (length flat) place j kept (slice_get_within flat place l is)
        (ap (λ (xs : List FlatLine). slice_get xs j) (pieces-are place l is) ∙ slice_get-kept front (changed l ∷ []) j kept here)

    pub statement-there : (place : ℕ) (l : FlatLine) → slice_get flat place ≡ Some l → slice_get all (stands place) ≡ Some (changed l)
    statement-there place l is =
        let front = map (kept_value q a (number_of a) l.line) (due_at place) in
        let e : length (due_at place) ≡ length front + 0 = let size = front-length l.line place in omega (arith, size) in
        row_at pieces (length flat) place (length (due_at place)) (changed l) (slice_get_within flat place l is)
        (ap (λ (xs : List FlatLine). slice_get xs (length (due_at place))) (pieces-are place l is) ∙ ap (slice_get (front ++ changed l ∷ [])) e ∙ slice_get-right front (changed l ∷ []) 0)

    -- which line stands at a place
    pub record IsKept (k : ℕ) (y : FlatLine) : Type 0 where
      pub line : ℕ
      pub n : ℕ
      pub is : y ≡ kept_value q a (number_of a) line n

    pub record IsChanged (k : ℕ) (y : FlatLine) : Type 0 where
      pub place : ℕ
      pub l : FlatLine
      pub found : slice_get flat place ≡ Some l
      pub at : k ≡ stands place
      pub is : y ≡ changed l

    mapped : (line : ℕ) (ns : List ℕ) (k j : ℕ) (y : FlatLine) → slice_get (map (kept_value q a (number_of a) line) ns) j ≡ Some y → IsKept k y
    mapped line [] k j y is = absurd cc
    mapped line (n ∷ ns) k zero y is = record { line = line; n = n; is = let e : Some (kept_value q a (number_of a) line n) ≡ Some y = is in cc }
    mapped line (n ∷ ns) k (suc j) y is = mapped line ns k j y is

    last-one : (x y : FlatLine) (j : ℕ) → slice_get (x ∷ []) j ≡ Some y → (j ≡ 0) × (x ≡ y)
    last-one x y zero is = (refl, cc)
    last-one x y (suc j) is = absurd cc

    in-pieces : (place j : ℕ) (o : Option FlatLine) (y : FlatLine) → slice_get flat place ≡ o → slice_get (shared_lines q a (number_of a) (first_of flat place) o) j ≡ Some y → IsKept (begins place + j) y ⊎ IsChanged (begins place + j) y
    in-pieces place j None y is at = absurd cc
    in-pieces place j (Some l) y is at =
        let front = map (kept_value q a (number_of a) l.line) (due_at place) in
        let size = front-length l.line place in
        ⊎_elim
        (λ (less : j < length front). inl (mapped l.line (due_at place) (begins place + j) j y (sym (slice_get-left front (changed l ∷ []) j less) ∙ at)))
        (λ (past : length front ≤ j).
        let i = j - length front in
        let e : j ≡ length front + i = omega (arith, past) in
        let r = last-one (changed l) y i (sym (slice_get-right front (changed l ∷ []) i) ∙ ap (slice_get (front ++ changed l ∷ [])) (sym e) ∙ at) in
        inr (record { place = place; l = l; found = is; at = let z = r.0 in omega (arith, e, z, size); is = sym r.1 }))
        (cases_lt j (length front))

    pub line-at : (k : ℕ) (y : FlatLine) → slice_get all k ≡ Some y → IsKept k y ⊎ IsChanged k y
    line-at k y is =
        let r : IsInRow pieces (length flat) k y = in_row pieces (length flat) k y is in
        subst (λ m. IsKept m y ⊎ IsChanged m y) (sym r.index) (in-pieces r.row r.place (slice_get flat r.row) y refl r.is)

    -- ---- order

    begins-rises : (m n : ℕ) → m ≤ n → begins m ≤ begins n
    begins-rises m n le = let e : m + (n - m) ≡ n = omega (arith, le) in let up = start-rises pieces m (n - m) in let same = ap begins e in omega (arith, up, same)

    pub stands-less : (m n : ℕ) (l : FlatLine) → slice_get flat m ≡ Some l → m < n → stands m < begins n
    stands-less m n l is less = let next = begins-next m l is in let up = begins-rises (m + 1) n (omega (arith, less)) in omega (arith, next, up)

    -- ---- counts of statements that pass a test, which no assignment that is due does

    module _ (t : FlatLine → Bool) (kept : (line n : ℕ) → t (kept_value q a (number_of a) line n) ≡ false) (same : (l : FlatLine) → t (changed l) ≡ t l) where
      in-front : (place j : ℕ) (l : FlatLine) → slice_get flat place ≡ Some l → j ≤ length (due_at place) → count_by t (take (begins place + j) all) ≡ count_by t (take (begins place) all)
      in-front place zero l is few = let e : begins place + 0 ≡ begins place = omega arith in ap (λ n. count_by t (take n all)) e
      in-front place (suc j) l is few =
          let item = item_at (due_at place) j (omega (arith, few)) in
          let next = count-next t all (begins place + j) (kept_value q a (number_of a) l.line item.0) (kept-there place j item.0 l is item.1) in
          let none = ap bit (kept l.line item.0) in
          let zero' : bit false ≡ 0 = refl in
          let e : begins place + j + 1 ≡ begins place + suc j = omega arith in
          let same_count = ap (λ n. count_by t (take n all)) e in
          let rest = in-front place j l is (omega (arith, few)) in
          omega (arith, next, none, zero', same_count, rest)

      pub counts-begin : (place : ℕ) → place ≤ length flat → count_by t (take (begins place) all) ≡ count_by t (take place flat)
      counts-begin zero few = refl
      counts-begin (suc place) few =
          let e : place + 1 ≡ suc place = omega arith in
          let item = item_at flat place (omega (arith, few)) in
          let rest = counts-begin place (omega (arith, few)) in
          let front = in-front place (length (due_at place)) item.0 item.1 (omega arith) in
          let mine = count-next t all (stands place) (changed item.0) (statement-there place item.0 item.1) in
          let bits = ap bit (same item.0) in
          let own = count-next t flat place item.0 item.1 in
          let next = ap (λ n. count_by t (take n all)) (begins-next place item.0 item.1) in
          subst (λ n. count_by t (take (begins n) all) ≡ count_by t (take n flat)) e (omega (arith, rest, front, mine, bits, own, next))

      pub counts-stand : (place : ℕ) (l : FlatLine) → slice_get flat place ≡ Some l → count_by t (take (stands place) all) ≡ count_by t (take place flat)
      counts-stand place l is =
          let within = slice_get_within flat place l is in
          in-front place (length (due_at place)) l is (omega arith) ∙ counts-begin place (omega (arith, within))

      -- the first one that passes
      first-there : (place : ℕ) (l : FlatLine) → slice_get flat place ≡ Some l → position_or_len t flat ≡ place → t l ≡ true → position_or_len t all ≡ stands place
      first-there place l is first passes =
          position-is t all (stands place) (changed l) (statement-there place l is) (same l ∙ passes) (λ k y less at.
          ⊎_elim
          (λ (h : IsKept k y). ap t h.is ∙ kept h.line h.n)
          (λ (h : IsChanged k y).
          let e = h.at in
          ap t h.is ∙ same h.l ∙ ⊎_elim
          (λ (early : h.place < place). before-first t flat h.place h.l (omega (arith, early, first)) h.found)
          (λ (late : place ≤ h.place).
          ⊎_elim
          (λ (apart : place < h.place). let up = stands-less place h.place l is apart in absurd (omega (arith, up, e, less)))
          (λ (most : h.place ≤ place). let equal : h.place ≡ place = omega (arith, most, late) in let also = ap stands equal in absurd (omega (arith, also, e, less)))
          (cases_lt place h.place))
          (cases_lt h.place place))
          (line-at k y at))

      none-there : position_or_len t flat ≡ length flat → position_or_len t all ≡ length all
      none-there none =
          ⊎_elim
          (λ (less : position_or_len t all < length all).
          let r = first-found t all less in
          ⊎_elim
          (λ (h : IsKept (position_or_len t all) r.item). let e : false ≡ true = sym (ap t h.is ∙ kept h.line h.n) ∙ r.passes in absurd cc)
          (λ (h : IsChanged (position_or_len t all) r.item).
          let within = slice_get_within flat h.place h.l h.found in
          let e : false ≡ true = sym (before-first t flat h.place h.l (omega (arith, within, none)) h.found) ∙ sym (ap t h.is ∙ same h.l) ∙ r.passes in
          absurd cc)
          (line-at (position_or_len t all) r.item r.is))
          (λ (past : length all ≤ position_or_len t all). let most = position-most t all in omega (arith, past, most))
          (cases_lt (position_or_len t all) (length all))

      -- where the first one that passes stands
      pub first-stands : position_or_len t flat < length flat → position_or_len t all ≡ stands (position_or_len t flat)
      first-stands less = let r = first-found t flat less in first-there (position_or_len t flat) r.item r.is refl r.passes

      pub none-stands : length flat ≤ position_or_len t flat → position_or_len t all ≡ length all
      none-stands past = let most = position-most t flat in none-there (omega (arith, past, most))
