-- No statement of the list of a text is one of subroutines.
use Rattle.std.proofs.Common.{◌≡◌, ℕ, zero, suc, Bool, true, false, not, All, List, [], ◌++◌, map, flat_map, filter, Option, Some, None, refl, sym, ap, subst, ◌∙◌}
use Rattle.std.specs.Prelude.{Ok}
use Rattle.std.specs.List.{slice_get}
use Rattle.std.specs.Option.{is_some}
use Rattle.f77_tree.specs.declared.statements.Labelled.{Labelled}
use Rattle.f77_tree.specs.declared.statements.Stmt.{Stmt}
use Rattle.f77_tree.specs.declared.statements.Stmt.TheVariants.{Equivalence, Init, Sub}
use Rattle.f77_tree.specs.Grammar.{reading}
use Rattle.f77_tree.specs.StatementGrammar.{IsGiven, IsStatement, WrittenStatement, is_of_subroutines, is_simple, statement_of}
use Rattle.layout_rules.specs.Faults.{first_line}
use Rattle.layout_rules.specs.Layout.{last_line}
use Rattle.program_units.specs.declared.sub_end.SubEnd.TheVariants.{UnitOrder}
use Rattle.program_units.specs.Copies.{Change, Context, changed, changed_stmt, changes, number_at}
use Rattle.program_units.specs.Entities.{stands_for}
use Rattle.program_units.specs.Expansion.{blocks, common_of, data_for, is_running, merged, equivalence_for, type_of, units_but_main, whole_list}
use Rattle.program_units.specs.Names.{y_entities}
use Rattle.program_units.specs.Merged.{is_merged}
use Rattle.program_units.specs.Refusals.{end_at, expansion, is_out_of_unit, unit_refusal, unit_refusals}
use Rattle.program_units.specs.Texts.{IsText}
use Rattle.program_units.specs.Units.{call_by, call_in, sub_name, unit_at, unit_of, unit_or_none, units}
use Rattle.program_units.specs.Widths.{is_kept}
use Rattle.unit_laws.proofs.AcceptedTables.{main-plain}
use Rattle.inlined_copies.proofs.ChangedRows.{changed_stmt-ThenIf}
use Rattle.unit_laws.proofs.NoAnswer.{no-end, none-at}
use Rattle.expanded_sources.proofs.HeldPieces.{Holds, IsInUnit, Whole, all-come, list-holds, whole-append, whole-each, whole-flat, whole-map}
use Rattle.expanded_sources.proofs.ListedSources.{none-refuses}
use Rattle.unit_laws.proofs.SettledCopies.{pass_at}
use Rattle.unit_laws.proofs.StandInsGiven.{subroutines-ThenIf}
use Rattle.program_units.proofs.StandingIn.{inner-ThenIf}
use Rattle.unit_laws.proofs.UnitSources.{all-of, text-unit}

abbrev IsPlain : Stmt → Type 0
IsPlain s = is_of_subroutines s ≡ false

-- ---- a statement that was changed

simple-plain : (c : Change) (w : WrittenStatement) → is_simple w ≡ true → call_by (statement_of w) ≡ None → IsPlain (changed_stmt c (statement_of w))
simple-plain c (WrittenStatement.logical_if w s) e none = let h : false ≡ true = e in absurd cc
simple-plain c (WrittenStatement.subroutine name dummies) e none = let h : false ≡ true = e in absurd cc
simple-plain c (WrittenStatement.call_of name arguments) e none = absurd cc
simple-plain c _ e none = refl

written-plain : (c : Change) (w : WrittenStatement) → IsStatement w → sub_name (statement_of w) ≡ None → call_in (statement_of w) ≡ None → IsPlain (changed_stmt c (statement_of w))
written-plain c (WrittenStatement.logical_if w s) is no_sub none =
    ap is_of_subroutines (changed_stmt-ThenIf c (reading w) (statement_of s))
    ∙ subroutines-ThenIf (changed c (reading w)) (changed_stmt c (statement_of s))
    ∙ simple-plain c s is.2 (ap call_by (sym (inner-ThenIf (reading w) (statement_of s))) ∙ none)
written-plain c (WrittenStatement.subroutine name dummies) is no_sub none = absurd cc
written-plain c (WrittenStatement.call_of name arguments) is no_sub none = absurd cc
written-plain c _ is no_sub none = refl

given-plain : (c : Change) (s : Stmt) → IsGiven s → sub_name s ≡ None → call_in s ≡ None → IsPlain (changed_stmt c s)
given-plain c s given no_sub none =
    let read = given.is_read in
    subst (λ (t : Stmt). IsPlain (changed_stmt c t)) read.is (written-plain c read.written read.spells.grammatical (ap sub_name read.is ∙ no_sub) (ap call_in read.is ∙ none))

kept-sub : (k : ℕ) (s : Stmt) → is_kept (suc k) s ≡ true → sub_name s ≡ None
kept-sub k (Sub name dummies) is = let h : false ≡ true = is in absurd cc
kept-sub k _ is = refl

no-name : (o : Option (List ℕ)) → not (is_some o) ≡ true → o ≡ None
no-name None is = refl
no-name (Some name) is = let h : false ≡ true = is in absurd cc

-- ---- what is merged

module _ (us : List (List Labelled)) where
  ties-plain : (k : ℕ) (s : Labelled) → Whole IsPlain (equivalence_for us k s)
  ties-plain k s = by s.line s.label s.stmt
    where
      by : (line label : ℕ) (stmt : Stmt) → Whole IsPlain (equivalence_for us k (record { label = label; line = line; stmt = stmt }))
      by line label (Equivalence groups) = (refl, tt)
      by line label _ = tt

  datas-plain : (k : ℕ) (s : Labelled) → Whole IsPlain (data_for us k s)
  datas-plain k s = by s.line s.label s.stmt
    where
      by : (line label : ℕ) (stmt : Stmt) → Whole IsPlain (data_for us k (record { label = label; line = line; stmt = stmt }))
      by line label (Init parts) = (refl, tt)
      by line label _ = tt

  put-plain : Whole IsPlain (merged us)
  put-plain =
      let line : ℕ = last_line (unit_at us 0) in
      let types : List Labelled = map (type_of us line) (filter (is_running us) (y_entities us)) in
      let commons : List Labelled = map (common_of us line) (filter (is_merged us) (blocks us)) in
      let tied : List Labelled = flat_map (λ k. flat_map (equivalence_for us k) (unit_at us k)) (units_but_main us) in
      let given : List Labelled = flat_map (λ k. flat_map (data_for us k) (unit_at us k)) (units_but_main us) in
      whole-append IsPlain ((types ++ commons) ++ tied) given
      (whole-append IsPlain (types ++ commons) tied
      (whole-append IsPlain types commons (whole-map IsPlain (type_of us line) (λ e. refl) (filter (is_running us) (y_entities us))) (whole-map IsPlain (common_of us line) (λ b. refl) (filter (is_merged us) (blocks us))))
      (whole-flat IsPlain (λ k. flat_map (equivalence_for us k) (unit_at us k)) (λ k. whole-flat IsPlain (equivalence_for us k) (ties-plain k) (unit_at us k)) (units_but_main us)))
      (whole-flat IsPlain (λ k. flat_map (data_for us k) (unit_at us k)) (λ k. whole-flat IsPlain (data_for us k) (datas-plain k) (unit_at us k)) (units_but_main us))

-- ---- a text

abbrev Any : Context → Type 0
Any c = Unit {0}

module _ (stmts list : List Labelled) (checked : Bool) (text : IsText stmts) (made : expansion stmts checked ≡ Ok list) where
  abbrev us : List (List Labelled)
  us = units stmts

  told : (unit_refusal stmts checked ≡ None) × (whole_list us ≡ list)
  told = none-refuses (unit_refusal stmts checked) (whole_list us) list made

  pub unit-given : (k : ℕ) (s : Labelled) → IsInUnit us k s → IsGiven s.stmt
  unit-given k s inside = by_unit (slice_get us k) refl inside.here
    where
      by_unit : (o : Option (List Labelled)) → slice_get us k ≡ o → slice_get (unit_or_none o) inside.place ≡ Some s → IsGiven s.stmt
      by_unit None at here = let e : None ≡ Some s = here in absurd cc
      by_unit (Some u) at here = let unit = text-unit stmts text k u at in unit.read.given inside.place s here

  in-order : first_line is_out_of_unit stmts ≡ None
  in-order = no-end UnitOrder (first_line is_out_of_unit stmts) (none-at (unit_refusals stmts us checked) 0 (end_at UnitOrder (first_line is_out_of_unit stmts)) told.0 refl)

  pub no-sub : (k : ℕ) (s : Labelled) → IsInUnit us k s → is_kept k s.stmt ≡ true → sub_name s.stmt ≡ None
  no-sub zero s inside kept = no-name (sub_name s.stmt) (pass_at (λ (t : Labelled). not (is_some (sub_name t.stmt))) (unit_at us 0) inside.place s (main-plain stmts [] refl in-order) inside.here)
  no-sub (suc k) s inside kept = kept-sub k s.stmt kept

  plain : Holds us IsPlain Any
  plain = record {
    labels_too = refl;
    ends = refl;
    statements = λ c s can inside kept none. given-plain (changes us c) s.stmt (unit-given c.unit s inside) (no-sub c.unit s inside kept) none;
    heads = λ c s condition can inside is. refl;
    calls = λ c place s call can here kept is. all-come Any (λ d. tt) c.depth (unit_of us call.name) (map (stands_for us c.unit c.arguments) call.arguments) (number_at us c.depth c.unit c.base place);
  }

  pub list-plain : All (λ s. is_of_subroutines s.stmt ≡ false) list
  list-plain = subst (λ (xs : List Labelled). All (λ s. is_of_subroutines s.stmt ≡ false) xs) told.1 (all-of (λ s. is_of_subroutines s.stmt ≡ false) (whole_list us) (whole-each IsPlain (whole_list us) (list-holds us IsPlain Any plain tt (put-plain us))))
