-- Each executable of a program is one by itself: its expressions have the kinds that their places ask for.
use Rattle.std.proofs.Common.{◌≡◌, ℕ, ◌+◌, ◌&&◌, Bool, true, not, List, [], ◌∷◌, ◌++◌, length, map, reverse, get_or, All, Option, Some, None, refl, arith}
use Rattle.std.specs.Prelude.{flat_map, slice_get}
use Rattle.std.specs.List.{list_all, range_with_len}
use Rattle.std.proofs.lemmas.Bool.{and_parts}
use Rattle.std.proofs.lemmas.Bool.Decides.{nat_tests}
use Rattle.std.proofs.lemmas.Int.{ints}
use Rattle.std.proofs.lemmas.List.{length-map, length-reverse, get_or-reverse, nil_from_length}
use Rattle.std.proofs.lemmas.List.Elements.{All-nil, All-cons, All-head, All-tail, All-append, All-map, filter_passes}
use Rattle.std.proofs.lemmas.List.Sums.{AllPass-from_list_all}
use Rattle.f77_tree.specs.declared.declarations.Kind.{Kind}
use Rattle.f77_tree.specs.declared.declarations.Kind.TheVariants.{Integer, Logical}
use Rattle.f77_tree.specs.declared.programs.NameInfo.{NameInfo}
use Rattle.f77_tree.specs.declared.programs.ExecKind.{ExecKind}
use Rattle.f77_tree.specs.declared.programs.Exec.{Exec}
use Rattle.f77_tree.specs.declared.statements.Labelled.{Labelled}
use Rattle.f77_tree.specs.declared.statements.RawExpr.{RawExpr}
use Rattle.f77_tree.specs.declared.statements.RawItem.{RawItem}
use Rattle.f77_tree.specs.declared.statements.RawItem.TheVariants.{Value, Chars}
use Rattle.f77_tree.specs.declared.statements.Stmt.{Stmt, more_of-Stmt}
use Rattle.f77_tree.specs.declared.statements.Stmt.TheVariants.{Assign, Print, Take, PickGoTo, SignIf, ThenIf', BlockIf, ElseIf, Do}
use Rattle.f77_tree.specs.Declarations.{index_of, IsIntegerScalar}
use Rattle.f77_tree.specs.Kinds.{IsOfKind, IsAssignment, taken_as}
use Rattle.f77_tree.specs.WellFormed.{IsProperItem, IsDo, IsExecutable}
use Rattle.f77_tree.proofs.AllLemmas.{All-get}
use Rattle.layout_rules.specs.Types.{kind_named, is_array_in, is_kind, is_of_kind, kind_in, is_variable, is_target, is_item, is_step, is_kind_of_target, is_well_kinded}
use Rattle.layout_rules.specs.Appearances.{names_in, names_in_item, names_if_any, appearing}
use Rattle.layout_rules.specs.Resolved.{resolved, resolved_item, resolved_step, access_of}
use Rattle.layout_rules.specs.Executables.{own_executables, is_do_to, is_do_in, loops_to, first_of, labelled, beyond, kind_or_integer, taking, own_kinds, do_variable, variable_of, increments, kinds_at, executables_at, executables}
use Rattle.layout_rules.specs.ReadExpressions.{IsReading}
use Rattle.layout_rules.specs.ReadStatements.{IsReadItem, IsReadStep, IsReadStatement}
use Rattle.layout_rules.proofs.FlatParts.{each_part}
use Rattle.form_laws.proofs.ProperCounts.{each_executable}
use Rattle.form_laws.proofs.ProperExpressions.{IsKnown, resolved-IsOfKind, resolved-asked, access_of-IsAccessOf, prefix, rear}

-- a statement that fits the table of names: what a text gives, names of the table, and kinds as their places ask for
pub record Fits (names : List NameInfo) (arrays : List ℕ → Bool) (stmt : Stmt) : Type 0 where
  pub reads : IsReadStatement stmt
  pub known : All (IsKnown names) (appearing arrays stmt)
  pub kinds : is_well_kinded names stmt ≡ true

-- ---- lists

ruleset alls = (prefix, rear, All-nil, All-cons, All-head, All-tail)

reversed : {X : Type 0} (P : X → Type 0) (xs : List X) → All P xs → All P (reverse xs)
reversed P xs all k d lt = grind (arith, get_or-reverse, length-reverse, all)

-- the DOs that end at a label are DOs to it
pub loops : (whole : List Labelled) (label : ℕ) → All (λ d. is_do_in label (slice_get whole d) ≡ true) (loops_to whole label)
loops whole label =
    let test = λ (d : ℕ). is_do_in label (slice_get whole d) in
    reversed (λ d. test d ≡ true) _ (filter_passes test (range_with_len 0 (length whole)))

module _ (names : List NameInfo) (checked : Bool) (arrays : List ℕ → Bool) where
  abbrev Known : List (List ℕ) → Type 0
  Known = All (IsKnown names)

  asked : (e : RawExpr) (kind : Kind) → IsReading e → Known (names_in arrays e) → is_of_kind names kind e ≡ true → IsOfKind names kind (resolved names checked e)
  asked e kind = resolved-asked names checked arrays e kind

  -- ---- assignments

  assigned : (target value : RawExpr) → IsReading target × IsReading value → Known (names_in arrays target ++ names_in arrays value) → (is_variable names target && is_kind_of_target (kind_in names target) (kind_in names value)) ≡ true → IsAssignment names (access_of names checked target) (resolved names checked value)
  assigned target value reads known kinds =
      let left : Known (names_in arrays target) = search alls in
      let right : Known (names_in arrays value) = search alls in
      grind (arith, access_of-IsAccessOf names checked arrays target, asked value)

  taken : (target : RawExpr) → IsReading target → Known (names_in arrays target) → is_target names target ≡ true → IsAssignment names (access_of names checked target) (taken_as (kind_or_integer (kind_in names target)))
  taken target reads known kinds = grind (arith, access_of-IsAccessOf names checked arrays target)

  all_taken : (index next : ℕ) (targets : List RawExpr) → All IsReading targets → Known (flat_map (names_in arrays) targets) → list_all (is_target names) targets ≡ true → All (IsExecutable names) (taking names checked index next targets)
  all_taken index next [] reads known kinds = search alls
  all_taken index next (target ∷ []) reads known kinds =
      let parts = and_parts (is_target names target) true kinds in
      let here : Known (names_in arrays target) = prefix (IsKnown names) _ [] known in
      search (alls, taken)
  all_taken index next (target ∷ another ∷ rest) reads known kinds =
      let parts = and_parts (is_target names target) (list_all (is_target names) (another ∷ rest)) kinds in
      search (alls, taken, all_taken (index + 1) next (another ∷ rest))

  -- ---- items of PRINT

  printed : (item : RawItem) → IsReadItem item → Known (names_in_item arrays item) → is_item names item ≡ true → IsProperItem names (resolved_item names checked item)
  printed (Value e) reads known kinds = grind (arith, resolved-IsOfKind names checked arrays e)
  printed (Chars text) reads known kinds = reads

  all_printed : (items : List RawItem) → All IsReadItem items → Known (flat_map (names_in_item arrays) items) → list_all (is_item names) items ≡ true → All (IsProperItem names) (map (resolved_item names checked) items)
  all_printed items reads known kinds =
      All-map (IsProperItem names) (resolved_item names checked) items (λ k d lt. printed (get_or items k d) (reads k d lt) (each_part (IsKnown names) (names_in_item arrays) items known k d lt) (AllPass-from_list_all (is_item names) items kinds k d lt))

  -- ---- DO

  stepped : (step : Option RawExpr) → IsReadStep step → Known (names_if_any arrays step) → is_step names step ≡ true → IsOfKind names Integer (resolved_step names checked step)
  stepped None reads known kinds = record { proper = record { least = omega (arith, ints); most = omega (arith, ints) }; of_kind = refl }
  stepped (Some e) reads known kinds = asked e Integer reads known kinds

  scalar : (name : List ℕ) → IsKnown names name → (not (is_array_in names name) && is_kind Integer (Some (kind_named names name))) ≡ true → IsIntegerScalar names (index_of names name)
  scalar name known kinds = record { known = known; integer = grind arith; scalar = grind (arith, nat_tests, nil_from_length) }

  -- ---- a statement's executables

  loop : (label : ℕ) (variable : List ℕ) (first last : RawExpr) (step : Option RawExpr) → Fits names arrays (Do label variable first last step) → IsDo names (index_of names variable) (resolved names checked first ∷ resolved names checked last ∷ resolved_step names checked step ∷ [])
  loop label variable first last step fits =
      let own = not (is_array_in names variable) && is_kind Integer (Some (kind_named names variable)) in
      let with_step = and_parts (own && is_of_kind names Integer first && is_of_kind names Integer last) (is_step names step) fits.kinds in
      let with_last = and_parts (own && is_of_kind names Integer first) (is_of_kind names Integer last) with_step.0 in
      let with_first = and_parts own (is_of_kind names Integer first) with_last.0 in
      let known = fits.known in
      let reads = fits.reads in
      let beyond : Known ((names_in arrays first ++ names_in arrays last) ++ names_if_any arrays step) = search (All-tail (IsKnown names) variable) in
      let both : Known (names_in arrays first ++ names_in arrays last) = search alls in
      record { variable = search (scalar, All-head); integers = search (alls, asked, stepped) }

  own : (whole : List Labelled) (place index next : ℕ) (stmt : Stmt) → Fits names arrays stmt → All (IsExecutable names) (own_kinds names checked whole place index next stmt)
  own whole place index next (Assign target value) fits = search (alls, assigned)
  own whole place index next (Print items) fits = search (alls, all_printed)
  own whole place index next (Take targets) fits = search (all_taken)
  own whole place index next (PickGoTo labels e) fits =
      let as_many = length-map labels (labelled whole) in
      let some = fits.reads.0 in
      let index = asked e Integer fits.reads.1 fits.known fits.kinds in
      All-cons (IsExecutable names) _ [] (index, omega (arith, as_many, some)) (search alls)
  own whole place index next (SignIf e negative null positive) fits = search (alls, asked)
  own whole place index next (ThenIf' condition shape (more_of-Stmt stmt rest)) fits =
      let parts = and_parts (is_of_kind names Logical condition) (is_well_kinded names stmt) fits.kinds in
      let known = fits.known in
      let here : Known (names_in arrays condition) = search alls in
      let beyond : Known (appearing arrays stmt) = search alls in
      search (alls, asked, own whole place (index + 1) next stmt (record { reads = fits.reads.1; known = beyond; kinds = parts.1 }))
  own whole place index next (BlockIf condition) fits = search (alls, asked)
  own whole place index next (ElseIf condition) fits = search (alls, asked)
  own whole place index next (Do label variable first last step) fits = search (alls, loop)
  own whole place index next _ fits = search alls

  -- ---- increments

  do_variable-scalar : (label : ℕ) (stmt : Stmt) → Fits names arrays stmt → is_do_to label stmt ≡ true → IsIntegerScalar names (index_of names (do_variable stmt))
  do_variable-scalar label (Do terminal variable first last step) fits h = (loop terminal variable first last step fits).variable
  do_variable-scalar label _ fits h = absurd cc

  loop-scalar : (whole : List Labelled) (label d : ℕ) → All (λ s. Fits names arrays s.stmt) whole → is_do_in label (slice_get whole d) ≡ true → IsIntegerScalar names (index_of names (variable_of (slice_get whole d)))
  loop-scalar whole label d all = by (slice_get whole d) refl
    where
      by : (o : Option Labelled) → slice_get whole d ≡ o → is_do_in label o ≡ true → IsIntegerScalar names (index_of names (variable_of o))
      by None is h = absurd cc
      by (Some s) is h = do_variable-scalar label s.stmt (All-get (λ s. Fits names arrays s.stmt) whole d s all is) h

  all_increments : (whole : List Labelled) (label place index : ℕ) (ds : List ℕ) → All (λ s. Fits names arrays s.stmt) whole → All (λ d. is_do_in label (slice_get whole d) ≡ true) ds → All (IsExecutable names) (increments names whole place index ds)
  all_increments whole label place index [] all are = search alls
  all_increments whole label place index (d ∷ outer) all are = search (alls, loop-scalar whole label, all_increments whole label place (index + 1) outer all)

  -- ---- all executables

  at_statement : (whole : List Labelled) (place : ℕ) (s : Labelled) → All (λ s. Fits names arrays s.stmt) whole → Fits names arrays s.stmt → All (λ exec. IsExecutable names exec.kind) (executables_at names checked whole place s)
  at_statement whole place s all fits =
      All-map (λ (exec : Exec). IsExecutable names exec.kind) (λ (kind : ExecKind). record { line = s.line; kind = kind }) (kinds_at names checked whole place s)
      (All-append (IsExecutable names) (own_kinds names checked whole place (first_of whole place) (beyond whole place s) s.stmt) (increments names whole place (first_of whole place + own_executables s.stmt) (loops_to whole s.label))
      (own whole place (first_of whole place) (beyond whole place s) s.stmt fits)
      (all_increments whole s.label place (first_of whole place + own_executables s.stmt) (loops_to whole s.label) all (loops whole s.label)))

  -- each executable of statements that fit the table is one by itself
  pub executables-AllExecutable : (whole : List Labelled) → All (λ s. Fits names arrays s.stmt) whole → All (λ exec. IsExecutable names exec.kind) (executables names checked whole)
  executables-AllExecutable whole all = each_executable names checked whole (λ exec. IsExecutable names exec.kind) (λ place s is. at_statement whole place s all (All-get (λ s. Fits names arrays s.stmt) whole place s all is))
