-- A printed program is read with as many DOs as it has.
use Rattle.std.proofs.Common.{◌≡◌, ℕ, zero, suc, ◌+◌, ◌≤◌, Bool, true, false, cond, List, [], ◌∷◌, ◌++◌, length, map, filter, take, refl, sym, ap, ◌∙◌, arith, Some}
use Rattle.std.specs.Prelude.{All, flat_map, slice_get}
use Rattle.std.specs.List.{count_by, range_with_len}
use Rattle.std.proofs.lemmas.List.Concat.{flat_map-append}
use Rattle.list_laws.proofs.Counts.{bit, count-append, count-cons}
use Rattle.list_laws.proofs.Ranges.{range_more}
use Rattle.f77_tree.specs.declared.programs.NameInfo.{NameInfo}
use Rattle.f77_tree.specs.declared.programs.Program.{Program}
use Rattle.f77_tree.specs.declared.statements.Labelled.{Labelled}
use Rattle.f77_tree.specs.StatementGrammar.{WrittenStatement, statement_of}
use Rattle.f77_tree.proofs.AllLemmas.{All-first, All-rest}
use Rattle.layout_rules.specs.Executables.{is_do}
use Rattle.flat_programs.specs.declared.statements.Flat.{Flat}
use Rattle.flat_programs.specs.declared.statements.FlatLine.{FlatLine}
use Rattle.flat_programs.specs.Declarations.{declared}
use Rattle.flat_programs.specs.Lines.{line_count}
use Rattle.flat_programs.specs.Marks.{is_loop, loop_count}
use Rattle.flat_programs.specs.Shown.{shown}
use Rattle.flat_programs.specs.Typeset.{typeset}
use Rattle.read_back.specs.PrintedStatements.{LabelledStatement, declaration, written_at, written_statements, labelled_from}
use Rattle.read_back.specs.SourceStatements.{statements_read}
use Rattle.read_back.proofs.DeclaredEach.{declared_each}
use Rattle.read_back.proofs.MarkPlaces.{take_next, take_all}
use Rattle.read_back.proofs.PrintedPlaces.{get_some}
use Rattle.read_back.proofs.StatementParts.{read_stmt}

counted_if : (b : Bool) (n m : ℕ) → n ≡ m → cond b (suc n) n ≡ bit b + m
counted_if true n m same = omega (arith, same)
counted_if false n m same = omega (arith, same)

length_if : {X : Type 0} (b : Bool) (x : X) (xs : List X) → length (cond b (x ∷ xs) xs) ≡ cond b (suc (length xs)) (length xs)
length_if true x xs = refl
length_if false x xs = refl

pub counted : {X : Type 0} (p : X → Bool) (xs : List X) → length (filter p xs) ≡ count_by p xs
counted p [] = refl
counted p (x ∷ xs) = length_if (p x) x (filter p xs) ∙ counted_if (p x) (length (filter p xs)) (count_by p xs) (counted p xs) ∙ sym (count-cons p x xs)

abbrev begins_loop : LabelledStatement → Bool
begins_loop s = is_do (read_stmt s)

loops_labelled : (line : ℕ) (ss : List LabelledStatement) → count_by (λ (s : Labelled). is_do s.stmt) (labelled_from line ss) ≡ count_by begins_loop ss
loops_labelled line [] = refl
loops_labelled line (s ∷ ss) =
    let next = line + line_count (typeset s.written) in
    count-cons (λ (t : Labelled). is_do t.stmt) (record { label = s.label; line = line; stmt = read_stmt s }) (labelled_from next ss)
    ∙ ap (λ n. bit (begins_loop s) + n) (loops_labelled next ss)
    ∙ sym (count-cons begins_loop s ss)

none_declared : (ws : List WrittenStatement) → All (λ w. is_do (statement_of w) ≡ false) ws → count_by begins_loop (map declaration ws) ≡ 0
none_declared [] all = refl
none_declared (w ∷ ws) all =
    let count = count-cons begins_loop (declaration w) (map declaration ws) in
    let first : bit (is_do (statement_of w)) ≡ 0 = ap bit (All-first (λ v. is_do (statement_of v) ≡ false) w ws all) in
    let rest = none_declared ws (All-rest (λ v. is_do (statement_of v) ≡ false) w ws all) in
    omega (arith, count, first, rest)

no_loop_if : (b : Bool) (v w : WrittenStatement) → is_do (statement_of v) ≡ false → is_do (statement_of w) ≡ false → is_do (statement_of (cond b v w)) ≡ false
no_loop_if true v w a c = a
no_loop_if false v w a c = c

loop_same : (names : List NameInfo) (stmt : Flat) → is_do (statement_of (shown names stmt)) ≡ is_loop stmt
loop_same names h = grind (arith, no_loop_if)

module _ (q : Program) (flat : List FlatLine) where
  abbrev upto : ℕ → List LabelledStatement
  upto n = flat_map (written_at q.names flat) (range_with_len 0 n)

  abbrev above : ℕ → ℕ
  above n = count_by (λ (l : FlatLine). is_loop l.stmt) (take n flat)

  one_more : (n : ℕ) (l : FlatLine) → slice_get flat n ≡ Some l → count_by begins_loop (upto n) ≡ above n → count_by begins_loop (upto (n + 1)) ≡ above (suc n)
  one_more n l is same =
      grind (arith, bit (is_loop l.stmt), bit, loop_same q.names l.stmt, range_more n, flat_map-append, count-append begins_loop (upto n), count-append, take_next flat n l is)

  loops_upto : (n : ℕ) → n ≤ length flat → count_by begins_loop (upto n) ≡ above n
  loops_upto zero le = refl
  loops_upto (suc n) le =
      let add : suc n ≡ n + 1 = omega arith in
      let found = get_some flat n (omega (arith, le)) in
      ap (λ k. count_by begins_loop (upto k)) add ∙ one_more n found.0 found.1 (loops_upto n (omega (arith, le)))

  pub loops_same : length (filter (λ (s : Labelled). is_do s.stmt) (statements_read q flat)) ≡ loop_count flat
  loops_same =
      let front = map declaration (declared q) in
      let rest = upto (length flat) in
      let none = none_declared (declared q) (declared_each (λ w. is_do (statement_of w) ≡ false) q (λ block. refl) (λ info. refl) (λ group. refl) (λ part. refl)) in
      let count = count-append begins_loop front rest in
      let later : count_by begins_loop (front ++ rest) ≡ count_by begins_loop rest = omega (arith, count, none) in
      counted (λ (s : Labelled). is_do s.stmt) (statements_read q flat)
      ∙ loops_labelled 1 (written_statements q flat)
      ∙ later
      ∙ loops_upto (length flat) (omega arith)
      ∙ ap (count_by (λ (l : FlatLine). is_loop l.stmt)) (take_all flat)
