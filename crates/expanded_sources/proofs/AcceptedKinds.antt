-- In a text whose units nothing refuses, what stands in for a statement is a tree, and of the kinds that its place asks for.
use Rattle.std.proofs.Common.{◌≡◌, ℕ, zero, suc, ◌||◌, Bool, true, false, not, List, [], ◌∷◌, ◌++◌, length, take, Option, Some, None, refl, sym, ap, subst, ◌∙◌}
use Rattle.std.specs.Prelude.{nat_lt}
use Rattle.std.specs.List.{slice_get}
use Rattle.std.proofs.lemmas.Bool.{not-false, or_parts}
use Rattle.f77_tree.specs.declared.declarations.Decl.{Decl}
use Rattle.f77_tree.specs.declared.statements.Labelled.{Labelled}
use Rattle.f77_tree.specs.declared.statements.Stmt.{Stmt, more_of-Stmt}
use Rattle.f77_tree.specs.declared.statements.Stmt.TheVariants.{ThenIf'}
use Rattle.f77_tree.proofs.AllLemmas.{All-get}
use Rattle.layout_rules.specs.declared.layout_end.LayoutEnd.TheVariants.{TypeWrong}
use Rattle.layout_rules.specs.Declarations.{all_declarators, declarators, dims_or_none, dims_told, is_array}
use Rattle.layout_rules.specs.Faults.{first_answer, first_line}
use Rattle.layout_rules.specs.Layout.{at_line, names_of, refusals}
use Rattle.layout_rules.specs.Source.{IsSource}
use Rattle.layout_rules.specs.StatementTrees.{IsTree}
use Rattle.layout_rules.specs.TypeFaults.{has_wrong_type, implies_twice, is_beside_none, types_twice}
use Rattle.layout_rules.specs.Types.{is_array_in, is_well_kinded}
use Rattle.control_structure.proofs.LabelLemmas.{faultless}
use Rattle.layout_rules.proofs.NameTable.{arrays_in_table}
use Rattle.program_units.specs.Refusals.{unit_refusal}
use Rattle.program_units.specs.Texts.{IsText}
use Rattle.program_units.specs.Units.{stand_in, standing_in, unit_at, unit_or_none, units}
use Rattle.unit_laws.proofs.NoAnswer.{laid, line-none, none-at}
use Rattle.unit_laws.proofs.UnitSources.{unit-source}
use Rattle.expanded_sources.proofs.HeldPieces.{IsInUnit}

-- ---- what stands in for a unit has its arrays

stands-declares : (s : Stmt) → declarators (stand_in s) ≡ declarators s
unfolding Rattle.f77_tree.specs.declared.statements.Stmt.TheBlock.hidden-the_row-Stmt-0 denote.Hole.Carrier.hidden
stands-declares (ThenIf' condition shape (more_of-Stmt stmt rest)) = refl
stands-declares _ = refl

all-declared : (u : List Labelled) → all_declarators (standing_in u) ≡ all_declarators u
all-declared [] = refl
all-declared (s ∷ rest) =
    ap (λ (decls : List Decl). decls ++ all_declarators (standing_in rest)) (stands-declares s.stmt)
    ∙ ap (λ (decls : List Decl). declarators s.stmt ++ decls) (all-declared rest)

pub stands-arrays : (u : List Labelled) (x : List ℕ) → is_array u x ≡ is_array_in (names_of (standing_in u)) x
stands-arrays u x =
    sym (arrays_in_table (standing_in u) x ∙ ap (λ (decls : List Decl). nat_lt 0 (length (dims_or_none (first_answer (dims_told x) decls)))) (all-declared u))

-- ---- the unit of a statement

pub record HasUnit (us : List (List Labelled)) (k : ℕ) (s : Labelled) : Type 0 where
  pub unit : List Labelled
  pub at : slice_get us k ≡ Some unit
  pub place : ℕ
  pub here : slice_get unit place ≡ Some s
  pub is : unit_at us k ≡ unit

pub unit-of-it : (us : List (List Labelled)) (k : ℕ) (s : Labelled) → IsInUnit us k s → HasUnit us k s
unit-of-it us k s inside = by (slice_get us k) refl inside.here
  where
    by : (o : Option (List Labelled)) → slice_get us k ≡ o → slice_get (unit_or_none o) inside.place ≡ Some s → HasUnit us k s
    by None at here = let e : None ≡ Some s = here in absurd cc
    by (Some u) at here = record { unit = u; at = at; place = inside.place; here = here; is = ap unit_or_none at }

abbrev standing : Labelled → Labelled
standing s = record s { stmt = stand_in s.stmt }

standing-at : (u : List Labelled) (j : ℕ) (s : Labelled) → slice_get u j ≡ Some s → slice_get (standing_in u) j ≡ Some (standing s)
standing-at [] j s here = let e : None ≡ Some s = here in absurd cc
standing-at (x ∷ u) zero s here = let e : Some x ≡ Some s = here in let same : x ≡ s = cc in ap (λ (t : Labelled). Some (standing t)) same
standing-at (x ∷ u) (suc j) s here = standing-at u j s here

-- ---- a text

right-kinds : (stmts : List Labelled) (above : List Labelled) (s : Labelled) → has_wrong_type (names_of stmts) above s ≡ false → is_well_kinded (names_of stmts) s.stmt ≡ true
right-kinds stmts above s right = not-false (is_well_kinded (names_of stmts) s.stmt) (or_parts (types_twice above s || implies_twice above s || is_beside_none above s) (not (is_well_kinded (names_of stmts) s.stmt)) right).1

module _ (stmts : List Labelled) (checked : Bool) (text : IsText stmts) (accepted : unit_refusal stmts checked ≡ None) where
  abbrev us : List (List Labelled)
  us = units stmts

  pub unit-tree : (k : ℕ) (s : Labelled) → IsInUnit us k s → IsTree (stand_in s.stmt)
  unit-tree k s inside =
      let u = unit-of-it us k s inside in
      let source : IsSource (standing_in u.unit) = unit-source stmts text k u.unit u.at in
      All-get (λ (t : Labelled). IsTree t.stmt) (standing_in u.unit) u.place (standing s) source.trees (standing-at u.unit u.place s u.here)

  pub unit-kinds : (k : ℕ) (s : Labelled) → IsInUnit us k s → is_well_kinded (names_of (standing_in (unit_at us k))) (stand_in s.stmt) ≡ true
  unit-kinds k s inside =
      let u = unit-of-it us k s inside in
      let ts : List Labelled = standing_in u.unit in
      let line : Option ℕ = first_line (has_wrong_type (names_of ts)) ts in
      let none : line ≡ None = line-none TypeWrong line (none-at (refusals ts checked) 2 (at_line TypeWrong line) (laid stmts checked accepted k u.unit u.at) refl) in
      let right : has_wrong_type (names_of ts) ([] ++ take u.place ts) (standing s) ≡ false = faultless (has_wrong_type (names_of ts)) [] ts none u.place (standing s) (standing-at u.unit u.place s u.here) in
      subst (λ (v : List Labelled). is_well_kinded (names_of (standing_in v)) (stand_in s.stmt) ≡ true) (sym u.is) (right-kinds ts ([] ++ take u.place ts) (standing s) right)
