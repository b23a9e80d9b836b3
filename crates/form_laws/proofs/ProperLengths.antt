-- How many executables a program has whose statements don't ask too much.
use Rattle.std.proofs.Common.{⊎_elim, ◌≡◌, ℕ, suc, ◌+◌, ◌<◌, ◌≤◌, ◌&&◌, ◌==◌, Bool, true, false, not, List, [], ◌∷◌, ◌++◌, length, All, Option, Some, None, refl, sym, ap, ◌∙◌, arith}
use Rattle.std.specs.Prelude.{sum_by, filter, slice_get}
use Rattle.std.specs.List.{list_any, range_with_len}
use Rattle.std.proofs.lemmas.Bool.{or_parts, eqb-true, cases_Bool}
use Rattle.std.proofs.lemmas.Bool.Decides.{nat_tests}
use Rattle.std.proofs.lemmas.List.{length-append, length-map, length-reverse}
use Rattle.std.proofs.lemmas.List.Concat.{length-flat_map}
use Rattle.std.proofs.lemmas.List.Sums.{sum_by-cons, sum_by-append, sum_by-le-sum_by}
use Rattle.f77_tree.specs.declared.programs.NameInfo.{NameInfo}
use Rattle.f77_tree.specs.declared.programs.ExecKind.{ExecKind}
use Rattle.f77_tree.specs.declared.programs.Exec.{Exec}
use Rattle.f77_tree.specs.declared.statements.Labelled.{Labelled}
use Rattle.f77_tree.specs.declared.statements.RawExpr.{RawExpr}
use Rattle.f77_tree.specs.declared.statements.Stmt.{Stmt, more_of-Stmt}
use Rattle.f77_tree.specs.declared.statements.Stmt.TheVariants.{Take, ThenIf', Do}
use Rattle.f77_tree.proofs.AllLemmas.{All-get}
use Rattle.layout_rules.specs.Faults.{first_line}
use Rattle.layout_rules.specs.Labels.{is_labelled_twice}
use Rattle.layout_rules.specs.Executables.{own_executables, is_do_to, is_do_in, loops_to, first_of, beyond, taking, own_kinds, increments, kinds_at, executables_at, executables_if_any, executables}
use Rattle.layout_rules.specs.Counts.{items_taken, asks_too_much}
use Rattle.layout_rules.specs.ReadStatements.{IsReadStatement, is_guarded}
use Rattle.layout_rules.proofs.StorageLines.{kept-after}
use Rattle.form_laws.proofs.ProperSums.{sum_by-two, sum_by-constant, sum_by-places, sum_by-once, sum_by-nothing, one_if, length-kept}
use Rattle.form_laws.proofs.ProperCounts.{few_in_all, little}

-- ---- a label stands once

abbrev standings : ℕ → List Labelled → ℕ
standings label stmts = sum_by (λ s. one_if (label == s.label)) stmts

not_there : (label other : ℕ) (stmts : List Labelled) → label ≡ other → list_any (λ s. s.label == other) stmts ≡ false → standings label stmts ≡ 0
not_there label other [] same none = refl
not_there label other (s ∷ stmts) same none =
    let parts = or_parts (s.label == other) (list_any (λ (a : Labelled). a.label == other) stmts) none in
    let first = parts.0 in
    let here : one_if (label == s.label) ≡ 0 = grind (arith, nat_tests) in
    let more = not_there label other stmts same parts.1 in
    let sum = sum_by-cons (λ (a : Labelled). one_if (label == a.label)) s stmts in
    omega (arith, here, more, sum)

stands_once : (label : ℕ) (above : List Labelled) (s : Labelled) → 0 < label → is_labelled_twice above s ≡ false → standings label above ≤ 1 → standings label (above ++ s ∷ []) ≤ 1
stands_once label above s some once few =
    let both = sum_by-append (λ (a : Labelled). one_if (label == a.label)) above (s ∷ []) in
    let one = sum_by-cons (λ (a : Labelled). one_if (label == a.label)) s [] in
    ⊎_elim
    (λ (is : (label == s.label) ≡ true).
    let same : label ≡ s.label = eqb-true label s.label is in
    let said : not (s.label == 0) ≡ true = grind (arith, nat_tests) in
    let none : list_any (λ (a : Labelled). a.label == s.label) above ≡ false = sym (ap (λ (b : Bool). b && list_any (λ (a : Labelled). a.label == s.label) above) said) ∙ once in
    omega (arith, not_there label s.label above same none, both, one, ap one_if is))
    (λ (is : (label == s.label) ≡ false). omega (arith, both, one, ap one_if is))
    (cases_Bool (label == s.label))

module _ (names : List NameInfo) (checked : Bool) (whole : List Labelled) where
  -- ---- the loops that end at a statement

  length-loops : (label : ℕ) → length (loops_to whole label) ≤ sum_by (λ d. one_if (is_do_to label d.stmt)) whole
  length-loops label =
      let test = λ (d : ℕ). is_do_in label (slice_get whole d) in
      let backwards = length-reverse (filter test (range_with_len 0 (length whole))) in
      let kept = length-kept test (range_with_len 0 (length whole)) in
      let places = sum_by-places (λ n. one_if (is_do_in label (slice_get whole n))) (λ d. one_if (is_do_to label d.stmt)) whole (λ k d is. omega (arith, ap (λ (o : Option Labelled). one_if (is_do_in label o)) is)) in
      omega (arith, backwards, kept, places)

  ends_once : (stmt : Stmt) → IsReadStatement stmt → first_line is_labelled_twice whole ≡ None → sum_by (λ s. one_if (is_do_to s.label stmt)) whole ≤ 1
  ends_once (Do terminal variable first last step) reads none = kept-after is_labelled_twice (λ stmts. standings terminal stmts ≤ 1) (λ above s once few. stands_once terminal above s reads.3 once few) [] whole none (omega arith)
  ends_once _ reads none = let is = sum_by-nothing whole in omega (arith, is)

  -- each DO ends at one statement
  loops_in_all : All (λ s. IsReadStatement s.stmt) whole → first_line is_labelled_twice whole ≡ None → sum_by (λ s. length (loops_to whole s.label)) whole ≤ length whole
  loops_in_all reads none =
      let counted = sum_by-le-sum_by (λ (s : Labelled). length (loops_to whole s.label)) (λ s. sum_by (λ (d : Labelled). one_if (is_do_to s.label d.stmt)) whole) whole (λ s. length-loops s.label) in
      let once = sum_by-once (λ (s d : Labelled). one_if (is_do_to s.label d.stmt)) whole whole (λ d k is. ends_once d.stmt (All-get (λ s. IsReadStatement s.stmt) whole k d reads is) none) in
      omega (arith, counted, once)

  -- ---- the executables of a statement

  length-taking : (index next : ℕ) (items : List RawExpr) → length (taking names checked index next items) ≡ length items
  length-taking index next [] = refl
  length-taking index next (item ∷ []) = refl
  length-taking index next (item ∷ another ∷ rest) = ap suc (length-taking (index + 1) next (another ∷ rest))

  length-unguarded : (place index next : ℕ) (stmt : Stmt) → is_guarded stmt ≡ false → length (own_kinds names checked whole place index next stmt) ≤ 1 + items_taken stmt
  length-unguarded place index next (Take items) h = let as_many = length-taking index next items in omega (arith, as_many)
  length-unguarded place index next (ThenIf' condition shape row) h = absurd cc
  length-unguarded place index next _ h = omega arith

  length-own : (place index next : ℕ) (stmt : Stmt) → IsReadStatement stmt → length (own_kinds names checked whole place index next stmt) ≤ 2 + items_taken stmt
  length-own place index next (ThenIf' condition shape (more_of-Stmt stmt rest)) reads =
      let few = length-unguarded place (index + 1) next stmt reads.2 in
      omega (arith, few)
  length-own place index next (Take items) reads = let as_many = length-taking index next items in omega (arith, as_many)
  length-own place index next _ reads = omega arith

  length-increments : (place index : ℕ) (ds : List ℕ) → length (increments names whole place index ds) ≡ length ds
  length-increments place index [] = refl
  length-increments place index (d ∷ outer) = ap suc (length-increments place (index + 1) outer)

  length-at : (place : ℕ) (s : Labelled) → IsReadStatement s.stmt → length (executables_at names checked whole place s) ≤ 2 + items_taken s.stmt + length (loops_to whole s.label)
  length-at place s reads =
      let own = own_kinds names checked whole place (first_of whole place) (beyond whole place s) s.stmt in
      let ends = increments names whole place (first_of whole place + own_executables s.stmt) (loops_to whole s.label) in
      let mapped = length-map (kinds_at names checked whole place s) (λ (kind : ExecKind). let exec : Exec = record { line = s.line; kind = kind } in exec) in
      let both = length-append own ends in
      let first = length-own place (first_of whole place) (beyond whole place s) s.stmt reads in
      let second = length-increments place (first_of whole place + own_executables s.stmt) (loops_to whole s.label) in
      omega (arith, mapped, both, first, second)

  length-at_place : All (λ s. IsReadStatement s.stmt) whole → (place : ℕ) (s : Labelled) → slice_get whole place ≡ Some s → length (executables_if_any names checked whole place (slice_get whole place)) ≤ 2 + items_taken s.stmt + length (loops_to whole s.label)
  length-at_place reads place s is = omega (arith, ap (λ (o : Option Labelled). length (executables_if_any names checked whole place o)) is, length-at place s (All-get (λ s. IsReadStatement s.stmt) whole place s reads is))

  -- at most 20,000 executables: two for each statement, one for each item of READ, and one for each DO
  pub executables-few : All (λ s. IsReadStatement s.stmt) whole → length whole ≤ 4000 → first_line is_labelled_twice whole ≡ None → first_line (asks_too_much names checked whole) whole ≡ None → length (executables names checked whole) ≤ 20000
  executables-few reads few once little_asked =
      let parts = length-flat_map (λ place. executables_if_any names checked whole place (slice_get whole place)) (range_with_len 0 (length whole)) in
      let places = sum_by-places (λ place. length (executables_if_any names checked whole place (slice_get whole place))) (λ s. 2 + items_taken s.stmt + length (loops_to whole s.label)) whole (length-at_place reads) in
      let two = sum_by-two (λ (s : Labelled). 2 + items_taken s.stmt) (λ s. length (loops_to whole s.label)) whole in
      let own = sum_by-constant 2 (λ (s : Labelled). items_taken s.stmt) whole in
      let items = few_in_all (asks_too_much names checked whole) (λ s. items_taken s.stmt) (λ above s h. (little names checked whole above s h).items) whole little_asked in
      let loops = loops_in_all reads once in
      omega (arith, parts, places, two, own, items, loops, few)
