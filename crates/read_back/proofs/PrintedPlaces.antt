-- The statements that a printed program is read as, by their places: those of its declarations come first, and then one for each flat
-- statement.
use Rattle.std.proofs.Common.{◌≡◌, ℕ, zero, suc, ◌+◌, ◌-◌, ◌<◌, ◌≤◌, List, [], ◌∷◌, ◌++◌, length, map, refl, sym, ap, ◌∙◌, ⊎_elim, arith, Some, length-append}
use Rattle.std.specs.Prelude.{flat_map, slice_get}
use Rattle.std.specs.List.{range_with_len}
use Rattle.std.proofs.lemmas.Bool.{cases_lt}
use Rattle.std.proofs.lemmas.List.{length-map}
use Rattle.f77_tree.specs.declared.programs.NameInfo.{NameInfo}
use Rattle.f77_tree.specs.declared.programs.Program.{Program}
use Rattle.f77_tree.specs.declared.statements.Labelled.{Labelled}
use Rattle.f77_tree.specs.StatementGrammar.{WrittenStatement, statement_of}
use Rattle.f77_tree.proofs.AllLemmas.{get-longer}
use Rattle.flat_programs.specs.declared.statements.FlatLine.{FlatLine}
use Rattle.flat_programs.specs.Declarations.{declared}
use Rattle.flat_programs.specs.Lines.{line_count}
use Rattle.flat_programs.specs.Shown.{shown}
use Rattle.flat_programs.specs.Text.{label_at}
use Rattle.flat_programs.specs.Typeset.{typeset}
use Rattle.read_back.specs.PrintedStatements.{LabelledStatement, declaration, written_in, written_at, written_statements, labelled_from}
use Rattle.read_back.specs.SourceStatements.{statements_read}

-- ---- lists

pub get_some : {X : Type 0} (xs : List X) (k : ℕ) → k < length xs → (x : X) × (slice_get xs k ≡ Some x)
get_some [] k lt = absurd (omega (arith, lt))
get_some (x ∷ xs) zero lt = (x, refl)
get_some (x ∷ xs) (suc k) lt = get_some xs k (omega (arith, lt))

pub got_within : {X : Type 0} (xs : List X) (k : ℕ) (x : X) → slice_get xs k ≡ Some x → k < length xs
got_within [] k x is = absurd cc
got_within (y ∷ ys) zero x is = omega arith
got_within (y ∷ ys) (suc k) x is = let more = got_within ys k x is in omega (arith, more)

pub get-after : {X : Type 0} (xs ys : List X) (k : ℕ) → slice_get (xs ++ ys) (length xs + k) ≡ slice_get ys k
get-after [] ys k = let e : 0 + k ≡ k = omega arith in ap (slice_get ys) e
get-after (x ∷ xs) ys k = grind (arith, get-after xs ys k)

pub get-map : {X Y : Type 0} (f : X → Y) (xs : List X) (k : ℕ) (x : X) → slice_get xs k ≡ Some x → slice_get (map f xs) k ≡ Some (f x)
get-map f [] k x is = absurd cc
get-map f (y ∷ ys) zero x is = let same : y ≡ x = cc in ap (λ z. Some (f z)) same
get-map f (y ∷ ys) (suc k) x is = get-map f ys k x is

-- ---- one is read from each

pub labelled-length : (line : ℕ) (ss : List LabelledStatement) → length (labelled_from line ss) ≡ length ss
labelled-length line [] = refl
labelled-length line (s ∷ ss) = ap suc (labelled-length (line + line_count (typeset s.written)) ss)

-- the statement at a place is what this one is read as
record IsReadAt (stmts : List Labelled) (k : ℕ) (w : LabelledStatement) : Type 0 where
  s : Labelled
  stands : slice_get stmts k ≡ Some s
  label : s.label ≡ w.label
  stmt : s.stmt ≡ statement_of w.written

read_at : (line : ℕ) (ss : List LabelledStatement) (k : ℕ) (w : LabelledStatement) → slice_get ss k ≡ Some w → IsReadAt (labelled_from line ss) k w
read_at line [] k w is = absurd cc
read_at line (v ∷ ss) zero w is =
    let same : v ≡ w = cc in
    record { s = record { label = v.label; line = line; stmt = statement_of v.written }; stands = refl; label = ap (λ (x : LabelledStatement). x.label) same; stmt = ap (λ (x : LabelledStatement). statement_of x.written) same }
read_at line (v ∷ ss) (suc k) w is = search (read_at (line + line_count (typeset v.written)) ss k w is, arith)

-- ---- flat statements

abbrev written_one : List NameInfo → List FlatLine → ℕ → FlatLine → LabelledStatement
written_one names flat place l = record { label = label_at flat place l; written = shown names l.stmt }

module _ (names : List NameInfo) (flat : List FlatLine) where
  abbrev from : ℕ → ℕ → List LabelledStatement
  from k n = flat_map (written_at names flat) (range_with_len k n)

  one_from : (k n : ℕ) (l : FlatLine) → slice_get flat k ≡ Some l → from k (suc n) ≡ written_one names flat k l ∷ from (k + 1) n
  one_from k n l is = ap (λ found. written_in names flat k found ++ from (k + 1) n) is

  length-from : (k n : ℕ) → k + n ≡ length flat → length (from k n) ≡ n
  length-from k zero sum = refl
  length-from k (suc n) sum = grind (arith, get_some flat k, one_from k n, length-from (k + 1) n)

  get_from : (k n j : ℕ) (l : FlatLine) → k + n ≡ length flat → j < n → slice_get flat (k + j) ≡ Some l → slice_get (from k n) j ≡ Some (written_one names flat (k + j) l)
  get_from k zero j l sum lt is = absurd (omega (arith, lt))
  get_from k (suc n) zero l sum lt is = grind (arith, one_from k n l)
  get_from k (suc n) (suc j) l sum lt is = grind (arith, get_some flat k, one_from k n, get_from (k + 1) n j l)

-- ---- all statements

-- a statement without a label that a declaration is read as
pub record IsDeclaredAt (q : Program) (k : ℕ) (s : Labelled) : Type 0 where
  pub w : WrittenStatement
  pub there : slice_get (declared q) k ≡ Some w
  pub label : s.label ≡ 0
  pub stmt : s.stmt ≡ statement_of w

-- a statement that the flat statement at a place is read as
pub record IsFlatAt (q : Program) (flat : List FlatLine) (place : ℕ) (s : Labelled) : Type 0 where
  pub l : FlatLine
  pub there : slice_get flat place ≡ Some l
  pub label : s.label ≡ label_at flat place l
  pub stmt : s.stmt ≡ statement_of (shown q.names l.stmt)

-- what a flat statement is read as
pub record HasStatement (q : Program) (flat : List FlatLine) (k place : ℕ) (l : FlatLine) : Type 0 where
  pub s : Labelled
  pub stands : slice_get (statements_read q flat) k ≡ Some s
  pub label : s.label ≡ label_at flat place l
  pub stmt : s.stmt ≡ statement_of (shown q.names l.stmt)

module _ (q : Program) (flat : List FlatLine) where
  -- how many statements come before the first flat one
  abbrev pub first_flat : ℕ
  first_flat = length (declared q)

  abbrev front : List LabelledStatement
  front = map declaration (declared q)

  abbrev rest : List LabelledStatement
  rest = flat_map (written_at q.names flat) (range_with_len 0 (length flat))

  front-length : length front ≡ first_flat
  front-length = length-map (declared q) declaration

  pub statement_count : length (statements_read q flat) ≡ first_flat + length flat
  statement_count =
      grind (arith, labelled-length 1 (written_statements q flat), length-append front rest, length-from q.names flat 0 (length flat), front-length)

  pub has_statement : (place : ℕ) (l : FlatLine) → slice_get flat place ≡ Some l → HasStatement q flat (first_flat + place) place l
  has_statement place l is =
      let e : 0 + place ≡ place = omega arith in
      let sum : 0 + length flat ≡ length flat = omega arith in
      let w = written_one q.names flat place l in
      let own : slice_get rest place ≡ Some w = get_from q.names flat 0 (length flat) place l sum (got_within flat place l is) (ap (slice_get flat) e ∙ is) ∙ ap (λ i. Some (written_one q.names flat i l)) e in
      let at : slice_get (written_statements q flat) (first_flat + place) ≡ Some w = ap (λ n. slice_get (front ++ rest) (n + place)) (sym front-length) ∙ get-after front rest place ∙ own in
      let found = read_at 1 (written_statements q flat) (first_flat + place) w at in
      record { s = found.s; stands = found.stands; label = found.label; stmt = found.stmt }

  pub flat_at : (place : ℕ) (s : Labelled) → slice_get (statements_read q flat) (first_flat + place) ≡ Some s → IsFlatAt q flat place s
  flat_at place s is =
      let few = got_within (statements_read q flat) (first_flat + place) s is in
      let found = get_some flat place (omega (arith, few, statement_count)) in
      let has = has_statement place found.0 found.1 in
      let some : Some has.s ≡ Some s = sym has.stands ∙ is in
      let same : has.s ≡ s = cc in
      record { l = found.0; there = found.1; label = ap (λ (x : Labelled). x.label) (sym same) ∙ has.label; stmt = ap (λ (x : Labelled). x.stmt) (sym same) ∙ has.stmt }

  pub declared_at : (k : ℕ) (s : Labelled) → k < first_flat → slice_get (statements_read q flat) k ≡ Some s → IsDeclaredAt q k s
  declared_at k s lt is =
      let found = get_some (declared q) k lt in
      let w = declaration found.0 in
      let at : slice_get (written_statements q flat) k ≡ Some w = get-longer front rest k (omega (arith, lt, front-length)) ∙ get-map declaration (declared q) k found.0 found.1 in
      let read = read_at 1 (written_statements q flat) k w at in
      let some : Some read.s ≡ Some s = sym read.stands ∙ is in
      let same : read.s ≡ s = cc in
      record { w = found.0; there = found.1; label = ap (λ (x : Labelled). x.label) (sym same) ∙ read.label; stmt = ap (λ (x : Labelled). x.stmt) (sym same) ∙ read.stmt }

  -- a statement is that of a declaration or a flat one
  pub each_statement : (P : Labelled → Type 0) → ((k : ℕ) (s : Labelled) → IsDeclaredAt q k s → P s) → ((place : ℕ) (s : Labelled) → IsFlatAt q flat place s → P s) → (k : ℕ) (s : Labelled) → slice_get (statements_read q flat) k ≡ Some s → P s
  each_statement P declarations others k s is =
      ⊎_elim
      (λ (lt : k < first_flat). declarations k s (declared_at k s lt is))
      (λ (le : first_flat ≤ k).
      let e : k ≡ first_flat + (k - first_flat) = omega (arith, le) in
      others (k - first_flat) s (flat_at (k - first_flat) s (ap (slice_get (statements_read q flat)) (sym e) ∙ is)))
      (cases_lt k first_flat)
