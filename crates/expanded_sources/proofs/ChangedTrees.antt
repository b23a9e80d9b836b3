-- In each context of a text whose units nothing refuses, a statement becomes a tree.
use Rattle.std.proofs.Common.{◌≡◌, ℕ, ◌<◌, ◌==◌, ◌||◌, Bool, true, false, not, if◌then◌else◌, List, ◌++◌, length, Some, None, refl, ap, ◌∙◌}
use Rattle.std.specs.List.{list_all}
use Rattle.std.proofs.lemmas.Bool.{and_from}
use Rattle.std.proofs.lemmas.List.Folds.{list_all-append}
use Rattle.std.proofs.lemmas.Option.{slice_get_within}
use Rattle.f77_tree.specs.Name.{is_name}
use Rattle.f77_tree.specs.declared.statements.Labelled.{Labelled}
use Rattle.f77_tree.specs.declared.statements.RawExpr.{RawExpr}
use Rattle.f77_tree.specs.declared.statements.Stmt.{Stmt, more_of-Stmt}
use Rattle.f77_tree.specs.declared.statements.Stmt.TheVariants.{BlockIf, CallTo, ThenIf'}
use Rattle.layout_rules.specs.Appearances.{appearing, names_in}
use Rattle.layout_rules.specs.Declarations.{is_array}
use Rattle.layout_rules.specs.Layout.{names_of}
use Rattle.layout_rules.specs.StatementTrees.{IsTree}
use Rattle.layout_rules.proofs.NamesOf.{appearing-ThenIf}
use Rattle.program_units.specs.Copies.{Context, changed, changed_stmt, changes}
use Rattle.program_units.specs.Entities.{stands_for}
use Rattle.program_units.specs.Names.{appearing_here, name_for}
use Rattle.program_units.specs.Refusals.{unit_refusal}
use Rattle.program_units.specs.Texts.{IsText}
use Rattle.program_units.specs.Units.{call_in, guard_of, stand_in, stand_in_alone, standing_in, sub_name, unit_at, units}
use Rattle.expanded_sources.proofs.AcceptedKinds.{stands-arrays, unit-kinds, unit-of-it, unit-tree}
use Rattle.expanded_sources.proofs.ChangedExpressions.{AreNew, stays}
use Rattle.expanded_sources.proofs.ChangedStatements.{changed-is-tree, head-is-tree}
use Rattle.expanded_sources.proofs.ContextNames.{AreArguments, new-name}
use Rattle.expanded_sources.proofs.HeldPieces.{IsInUnit}
use Rattle.expanded_sources.proofs.Labelling.{HasLabels}
use Rattle.expanded_sources.proofs.ReadRows.{parted}
use Rattle.expanded_sources.proofs.SymbolicTexts.{all-members}
use Rattle.unit_laws.proofs.UnitNames.{appears}

-- ---- the names of what stands in for a statement are names of it

module _ (p : List ℕ → Bool) (arrays : List ℕ → Bool) where
  joined-all : (xs ys : List (List ℕ)) → list_all p xs ≡ true → list_all p ys ≡ true → list_all p (xs ++ ys) ≡ true
  joined-all xs ys first second = list_all-append p xs ys ∙ and_from (list_all p xs) (list_all p ys) first second

  as-it-stands : (s : Stmt) → list_all p (appearing_here arrays s) ≡ true → list_all p (appearing arrays s) ≡ true
  as-it-stands (CallTo name arguments) all = refl
  as-it-stands (ThenIf' e shape (more_of-Stmt stmt rest)) all =
      let both = parted p (names_in arrays e) (appearing_here arrays stmt) all in
      joined-all (names_in arrays e) (appearing arrays stmt) both.0 (as-it-stands stmt both.1)
  as-it-stands _ all = all

  as-it-stands-alone : (s : Stmt) → list_all p (appearing_here arrays s) ≡ true → list_all p (appearing arrays (stand_in_alone s)) ≡ true
  as-it-stands-alone (CallTo name arguments) all = refl
  as-it-stands-alone (ThenIf' e shape (more_of-Stmt stmt rest)) all = as-it-stands (ThenIf' e shape (more_of-Stmt stmt rest)) all
  as-it-stands-alone _ all = all

  stands-in-all : (s : Stmt) → list_all p (appearing_here arrays s) ≡ true → list_all p (appearing arrays (stand_in s)) ≡ true
  stands-in-all (CallTo name arguments) all = refl
  stands-in-all (ThenIf' e shape (more_of-Stmt stmt rest)) all =
      let both = parted p (names_in arrays e) (appearing_here arrays stmt) all in
      ap (list_all p) (appearing-ThenIf arrays e (stand_in_alone stmt)) ∙ joined-all (names_in arrays e) (appearing arrays (stand_in_alone stmt)) both.0 (as-it-stands-alone stmt both.1)
  stands-in-all _ all = all

-- ---- a text

module _ (stmts : List Labelled) (checked : Bool) (text : IsText stmts) (accepted : unit_refusal stmts checked ≡ None) where
  abbrev us : List (List Labelled)
  us = units stmts

  module _ (c : Context) (s : Labelled) (are : AreArguments us c.unit c.arguments) (inside : IsInUnit us c.unit s) where
    abbrev u : List Labelled
    u = unit_at us c.unit

    abbrev new : List ℕ → List ℕ
    new x = name_for us (stands_for us c.unit c.arguments x)

    inside-text : c.unit < length us
    inside-text = let unit = unit-of-it us c.unit s inside in slice_get_within us c.unit unit.unit unit.at

    copied-names : list_all (λ x. is_name (new x)) (appearing (is_array u) (stand_in s.stmt)) ≡ true
    copied-names =
        stands-in-all (λ x. is_name (new x)) (is_array u) s.stmt
        (all-members (λ x. is_name (new x)) (appearing_here (is_array u) s.stmt) (λ x has. new-name stmts checked text accepted c.unit c.arguments are inside-text x (appears us c.unit s inside x has)))

    -- in the main program names stay
    new-names : AreNew (changes us c) (appearing (stays (changes us c)) (stand_in s.stmt))
    new-names = by (c.unit == 0)
      where
        by : (b : Bool) → list_all (λ x. is_name (if b then x else new x)) (appearing (λ x. not (not b) || is_array u x) (stand_in s.stmt)) ≡ true
        by true = (unit-tree stmts checked text accepted c.unit s inside).names (λ x. true)
        by false = copied-names

    pub changed-tree : HasLabels (changes us c) → sub_name s.stmt ≡ None → call_in s.stmt ≡ None → IsTree (changed_stmt (changes us c) s.stmt)
    changed-tree known no_sub none =
        changed-is-tree (changes us c) (names_of (standing_in u)) (stands-arrays u) known s.stmt (unit-tree stmts checked text accepted c.unit s inside) (unit-kinds stmts checked text accepted c.unit s inside) new-names no_sub none

    pub head-tree : HasLabels (changes us c) → (condition : RawExpr) → guard_of s.stmt ≡ Some condition → IsTree (BlockIf (changed (changes us c) condition))
    head-tree known condition guard =
        head-is-tree (changes us c) (names_of (standing_in u)) (stands-arrays u) known s.stmt condition guard (unit-tree stmts checked text accepted c.unit s inside) (unit-kinds stmts checked text accepted c.unit s inside) new-names
